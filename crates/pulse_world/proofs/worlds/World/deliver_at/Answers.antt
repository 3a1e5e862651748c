use Rattle.std.proofs.Common.{◌≡◌, ◌∙◌, ◌++◌, Some, append-nil, ap, sym, subst, refl}
use Rattle.std.specs.List.{swap_remove}
use Rattle.cell_netlist.specs.OneReader.{reaction_at}
use Rattle.cell_netlist.specs.World.{Reaction, Delivered}
use Rattle.pulse_world.specs.PackedStates.{PlainStates}
use Rattle.pulse_world.specs.PendingQueues.{PlainQueue}
use Rattle.pulse_world.specs.Reacting.{wires_of}
use Rattle.pulse_world.specs.Worlds.{PlainWorld, world_of, state_of, DeliversAt, IsWorld}
use Rattle.pulse_world.proofs.WorldDeliveries.{pending-below, room-in}
use Rattle.pulse_world.proofs.ReaderDeliveries.{cell-reacts, cell-step, rail-step, rail-unpulsed, world-is}
use Rattle.pulse_world.proofs.worlds.World.deliver_at.Goals as goal

pub reader-reader-requires : goal.reader-reader-requires
reader-reader-requires c =
    let world = world_of c.self.inside.net.now c.self.inside.opened c.self.inside.vector.items c.self.inside.cell_states.states c.self.inside.pending.wires c.self.inside.counted in
    let at = c.take_at-wire.ensures.wire in
    let wire = c.take_at-wire.result.number in
    pending-below world c.self.invariant.0 c.args.place wire at

pub react_at-emitted-requires : goal.react_at-emitted-requires
react_at-emitted-requires c =
    let world = world_of c.self.inside.net.now c.self.inside.opened c.self.inside.vector.items c.self.inside.cell_states.states c.self.inside.pending.wires c.self.inside.counted in
    let at = c.take_at-wire.ensures.wire in
    let wire = c.take_at-wire.result.number in
    let target = sym c.target_of.ensures ∙ c.in-Cell.is in
    let cells_are = c.self.invariant.2 in
    subst (λ cells. (x : Reaction) × (reaction_at cells c.self.inside.cell_states.states c.in-Cell.id.number c.reader-reader.result ≡ Some x)) (sym cells_are)
    (cell-reacts world c.self.invariant.0 c.args.place wire at c.readers_of_wires.ensures.delivery c.readers_of_wires.ensures.shape c.reader-reader.result c.reader-reader.ensures c.in-Cell.id target)

pub append_emitted-requires : goal.append_emitted-requires
append_emitted-requires c =
    let world = world_of c.self.inside.net.now c.self.inside.opened c.self.inside.vector.items c.self.inside.cell_states.states c.self.inside.pending.wires c.self.inside.counted in
    let at = c.take_at-wire.ensures.wire in
    let wire = c.take_at-wire.result.number in
    let target = sym c.target_of.ensures ∙ c.in-Cell.is in
    let cells_are = c.self.invariant.2 in
    let reacted = c.react_at-emitted.ensures.reacted in
    let is = subst (λ cells. reaction_at cells c.self.inside.cell_states.states c.in-Cell.id.number c.reader-reader.result ≡ Some reacted) cells_are c.react_at-emitted.ensures.by_table in
    let step = cell-step world c.self.invariant.0 c.args.place wire at c.readers_of_wires.ensures.delivery c.readers_of_wires.ensures.shape
    c.reader-reader.result c.reader-reader.ensures c.in-Cell.id target reacted is in
    rw (c.take_at-wire.ensures.rest, c.react_at-emitted.ensures.emits)
    (room-in _ step.1 (swap_remove c.self.inside.pending.wires c.args.place 0) reacted.emitted c.self.inside.pending.bound c.self.invariant.1 refl)

pub invariant_of-self : goal.invariant_of-self
invariant_of-self c =
    let world = world_of c.self.inside.net.now c.self.inside.opened c.self.inside.vector.items c.self.inside.cell_states.states c.self.inside.pending.wires c.self.inside.counted in
    let at = c.take_at-wire.ensures.wire in
    let wire = c.take_at-wire.result.number in
    let target = sym c.target_of.ensures ∙ c.in-Cell.is in
    let cells_are = c.self.invariant.2 in
    let reacted = c.react_at-emitted.ensures.reacted in
    let is = subst (λ cells. reaction_at cells c.self.inside.cell_states.states c.in-Cell.id.number c.reader-reader.result ≡ Some reacted) cells_are c.react_at-emitted.ensures.by_table in
    let step = cell-step world c.self.invariant.0 c.args.place wire at c.readers_of_wires.ensures.delivery c.readers_of_wires.ensures.shape
    c.reader-reader.result c.reader-reader.ensures c.in-Cell.id target reacted is in
    let wires_are : c.append_emitted.new.pending.wires ≡ swap_remove c.self.inside.pending.wires c.args.place 0 ++ reacted.emitted =
    ap (λ (r : PlainQueue). r.wires) c.append_emitted.ensures
    ∙ (ap (λ (r : PlainQueue). r.wires ++ wires_of c.react_at-emitted.result) c.take_at-wire.ensures.rest
    ∙ ap (λ ws. swap_remove c.self.inside.pending.wires c.args.place 0 ++ ws) c.react_at-emitted.ensures.emits) in
    let after_is = world-is world c.react_at-emitted.new.cell_states.states c.append_emitted.new.pending.wires c.self.inside.counted _ _ c.self.inside.counted
    (ap (λ (kept : PlainStates). kept.states) c.react_at-emitted.ensures.keeps) wires_are refl in (
      subst IsWorld (sym after_is) step.1,
      ap (λ (r : PlainQueue). r.bound) c.append_emitted.ensures ∙ (ap (λ (r : PlainQueue). r.bound) c.take_at-wire.ensures.rest ∙ c.self.invariant.1),
      ap (λ (kept : PlainStates). kept.cells) c.react_at-emitted.ensures.keeps ∙ c.self.invariant.2,
    )

pub count-requires : goal.count-requires
count-requires c =
    let world = world_of c.self.inside.net.now c.self.inside.opened c.self.inside.vector.items c.self.inside.cell_states.states c.self.inside.pending.wires c.self.inside.counted in
    let at = c.take_at-wire.ensures.wire in
    let wire = c.take_at-wire.result.number in
    let target = sym c.target_of.ensures ∙ c.in-Rail.is in
    rail-unpulsed world c.self.invariant.0 c.args.place wire at c.readers_of_wires.ensures.delivery c.readers_of_wires.ensures.shape
    c.reader-reader.result c.reader-reader.ensures c.in-Rail.id target

pub invariant_of-self-in-Rail : goal.invariant_of-self-in-Rail
invariant_of-self-in-Rail c =
    let world = world_of c.self.inside.net.now c.self.inside.opened c.self.inside.vector.items c.self.inside.cell_states.states c.self.inside.pending.wires c.self.inside.counted in
    let at = c.take_at-wire.ensures.wire in
    let wire = c.take_at-wire.result.number in
    let target = sym c.target_of.ensures ∙ c.in-Rail.is in
    let step = rail-step world c.self.invariant.0 c.args.place wire at c.readers_of_wires.ensures.delivery c.readers_of_wires.ensures.shape
    c.reader-reader.result c.reader-reader.ensures c.in-Rail.id target in
    let wires_are = ap (λ (r : PlainQueue). r.wires) c.take_at-wire.ensures.rest in
    let counted_are = c.count.ensures in
    let after_is = world-is world c.self.inside.cell_states.states c.take_at-wire.new.self.wires c.count.new.self c.self.inside.cell_states.states _ _ refl wires_are counted_are in
    (subst IsWorld (sym after_is) step.1, ap (λ (r : PlainQueue). r.bound) c.take_at-wire.ensures.rest ∙ c.self.invariant.1, c.self.invariant.2)

pub returns-in-Cell : goal.returns-in-Cell
returns-in-Cell c =
    let world = world_of c.self.inside.net.now c.self.inside.opened c.self.inside.vector.items c.self.inside.cell_states.states c.self.inside.pending.wires c.self.inside.counted in
    let at = c.take_at-wire.ensures.wire in
    let wire = c.take_at-wire.result.number in
    let target = sym c.target_of.ensures ∙ c.in-Cell.is in
    let cells_are = c.self.invariant.2 in
    let reacted = c.react_at-emitted.ensures.reacted in
    let is = subst (λ cells. reaction_at cells c.self.inside.cell_states.states c.in-Cell.id.number c.reader-reader.result ≡ Some reacted) cells_are c.react_at-emitted.ensures.by_table in
    let step = cell-step world c.self.invariant.0 c.args.place wire at c.readers_of_wires.ensures.delivery c.readers_of_wires.ensures.shape
    c.reader-reader.result c.reader-reader.ensures c.in-Cell.id target reacted is in
    let wires_are : c.append_emitted.new.pending.wires ≡ swap_remove c.self.inside.pending.wires c.args.place 0 ++ reacted.emitted =
    ap (λ (r : PlainQueue). r.wires) c.append_emitted.ensures
    ∙ (ap (λ (r : PlainQueue). r.wires ++ wires_of c.react_at-emitted.result) c.take_at-wire.ensures.rest
    ∙ ap (λ ws. swap_remove c.self.inside.pending.wires c.args.place 0 ++ ws) c.react_at-emitted.ensures.emits) in
    let after_is = world-is world c.react_at-emitted.new.cell_states.states c.append_emitted.new.pending.wires c.self.inside.counted _ _ c.self.inside.counted
    (ap (λ (kept : PlainStates). kept.states) c.react_at-emitted.ensures.keeps) wires_are refl in
    let after = world_of c.self.inside.net.now c.self.inside.opened c.self.inside.vector.items c.react_at-emitted.new.cell_states.states c.append_emitted.new.pending.wires c.self.inside.counted in
    subst (λ (before : PlainWorld). DeliversAt before after c.args.place wire) c.self.view_is (record {
      at = at;
      delivered = step.0 ∙ ap (λ w. Delivered (state_of w)) (sym after_is);
      reader = c.reader-reader.result;
      reads = c.reader-reader.ensures;
      queue = wires_are ∙ ap (λ ws. swap_remove c.self.inside.pending.wires c.args.place 0 ++ ws) (sym step.2);
      net = refl;
      opened = refl;
      vector = refl;
    })

pub returns-in-Rail : goal.returns-in-Rail
returns-in-Rail c =
    let world = world_of c.self.inside.net.now c.self.inside.opened c.self.inside.vector.items c.self.inside.cell_states.states c.self.inside.pending.wires c.self.inside.counted in
    let at = c.take_at-wire.ensures.wire in
    let wire = c.take_at-wire.result.number in
    let target = sym c.target_of.ensures ∙ c.in-Rail.is in
    let step = rail-step world c.self.invariant.0 c.args.place wire at c.readers_of_wires.ensures.delivery c.readers_of_wires.ensures.shape
    c.reader-reader.result c.reader-reader.ensures c.in-Rail.id target in
    let wires_are = ap (λ (r : PlainQueue). r.wires) c.take_at-wire.ensures.rest in
    let counted_are = c.count.ensures in
    let after_is = world-is world c.self.inside.cell_states.states c.take_at-wire.new.self.wires c.count.new.self c.self.inside.cell_states.states _ _ refl wires_are counted_are in
    let after = world_of c.self.inside.net.now c.self.inside.opened c.self.inside.vector.items c.self.inside.cell_states.states c.take_at-wire.new.self.wires c.count.new.self in
    subst (λ (before : PlainWorld). DeliversAt before after c.args.place wire) c.self.view_is (record {
      at = at;
      delivered = step.0 ∙ ap (λ w. Delivered (state_of w)) (sym after_is);
      reader = c.reader-reader.result;
      reads = c.reader-reader.ensures;
      queue = wires_are ∙ (sym (append-nil (swap_remove c.self.inside.pending.wires c.args.place 0)) ∙ ap (λ ws. swap_remove c.self.inside.pending.wires c.args.place 0 ++ ws) (sym step.2));
      net = refl;
      opened = refl;
      vector = refl;
    })
