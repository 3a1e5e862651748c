use Rattle.std.proofs.Common.{◌∙◌, ◌≤◌, ap, sym, subst, refl, arith}
use Rattle.pulse_ids.specs.Quantities.{greatest_of}
use Rattle.pulse_ids.specs.declared.quantities.Quantity.TheVariants.{Wires}
use Rattle.cell_netlist.specs.Netlists.{PlainNetlist, number_of_wires}
use Rattle.pulse_world.specs.PackedStates.{PlainStates}
use Rattle.pulse_world.specs.PendingQueues.{PlainQueue}
use Rattle.pulse_world.specs.Worlds.{IsReached}
use Rattle.pulse_world.proofs.WorldMoments.{reached-start}
use Rattle.pulse_world.proofs.WorldDeliveries.{started}
use Rattle.pulse_world.proofs.worlds.World.new.Goals as goal

pub invariant_of-result : goal.invariant_of-result
invariant_of-result c =
    let lines = c.net-lines.ensures.net in
    let states = ap (λ (kept : PlainStates). kept.states) c.in_ok-cell_states.ensures ∙ rw (c.cells.ensures, lines) refl in
    let rails = c.len.ensures ∙ rw (c.output_rails.ensures, lines) refl in
    let is = started c.args.net.now c.in_ok-vector.vector.items c.in_ok-cell_states.cell_states.states c.in_ok-pending.pending.wires c.in_ok-counted.counted
    c.len.result states (ap (λ (queue : PlainQueue). queue.wires) c.in_ok-pending.ensures) c.in_ok-counted.ensures rails in (
      record {
        sound = c.net-lines.ensures.sound;
        few = subst (λ net. number_of_wires net ≤ greatest_of Wires) lines c.wires-wires.ensures.netlist.wires;
        reached = subst (IsReached _ _ _) (sym is) (reached-start c.args.net.now c.in_ok-vector.vector.items);
        width =
            let wide = c.in_ok-vector.ensures.len in
            let ok = c.in_ok-vector.vector.ok in
            let inputs = c.inputs.ensures ∙ ap (λ (net : PlainNetlist). net.inputs) lines in omega arith;
      },
      ap (λ (queue : PlainQueue). queue.bound) c.in_ok-pending.ensures ∙ (c.wires-wires.ensures.value ∙ rw lines refl),
      ap (λ (kept : PlainStates). kept.cells) c.in_ok-cell_states.ensures ∙ rw (c.cells.ensures, lines) refl,
    )

pub returns-clause-start : goal.returns-clause-start
returns-clause-start c =
    let lines = c.net-lines.ensures.net in
    let states = ap (λ (kept : PlainStates). kept.states) c.in_ok-cell_states.ensures ∙ rw (c.cells.ensures, lines) refl in
    let rails = c.len.ensures ∙ rw (c.output_rails.ensures, lines) refl in
    started c.args.net.now c.in_ok-vector.vector.items c.in_ok-cell_states.cell_states.states c.in_ok-pending.pending.wires c.in_ok-counted.counted
    c.len.result states (ap (λ (queue : PlainQueue). queue.wires) c.in_ok-pending.ensures) c.in_ok-counted.ensures rails
