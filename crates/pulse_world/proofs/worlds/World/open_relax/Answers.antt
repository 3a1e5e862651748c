use Rattle.std.proofs.Common.{◌≡◌, ◌∙◌, ◌++◌, [], length, ap, sym, subst, refl}
use Rattle.cell_netlist.specs.declared.kinds.Phase.TheVariants.{Excite, Relax}
use Rattle.cell_netlist.specs.World.{opening_pulses}
use Rattle.pulse_world.specs.PackedStates.{PlainStates}
use Rattle.pulse_world.specs.PendingQueues.{PlainQueue}
use Rattle.pulse_world.specs.Worlds.{PlainWorld, world_of, state_of, phase_of, opened_world, IsWorld}
use Rattle.pulse_world.proofs.QueueRoom.{zeros-of}
use Rattle.pulse_world.proofs.WorldDeliveries.{relax-world, opened-is, room-in, world-shape}
use Rattle.pulse_world.proofs.worlds.World.open_relax.Goals as goal

pub open_phase-requires : goal.open_phase-requires
open_phase-requires c =
    let world = world_of c.self.inside.net.now c.self.inside.opened c.self.inside.vector.items c.self.inside.cell_states.states c.self.inside.pending.wires c.self.inside.counted in
    let phase = subst (λ (w : PlainWorld). phase_of w.opened ≡ Excite) (sym c.self.view_is) c.requires.phase in
    let settled : c.self.inside.pending.wires ≡ [] = subst (λ (w : PlainWorld). w.queue ≡ []) (sym c.self.view_is) c.requires.settled in
    let is_next = relax-world world c.self.invariant.0 phase settled in
    let pulses = opening_pulses c.self.inside.net.now Relax c.self.inside.vector.items (state_of world) in
    rw (c.net.ensures.net, c.relax_vector.ensures, c.self.invariant.2)
    (room-in (opened_world Relax c.self.inside.vector.items world) is_next c.self.inside.pending.wires pulses c.self.inside.pending.bound
    c.self.invariant.1 (ap (λ ws. ws ++ pulses) (sym settled)))

pub invariant_of-self : goal.invariant_of-self
invariant_of-self c =
    let world = world_of c.self.inside.net.now c.self.inside.opened c.self.inside.vector.items c.self.inside.cell_states.states c.self.inside.pending.wires c.self.inside.counted in
    let phase = subst (λ (w : PlainWorld). phase_of w.opened ≡ Excite) (sym c.self.view_is) c.requires.phase in
    let settled : c.self.inside.pending.wires ≡ [] = subst (λ (w : PlainWorld). w.queue ≡ []) (sym c.self.view_is) c.requires.settled in
    let is_next = relax-world world c.self.invariant.0 phase settled in
    let shape = world-shape c.readers_of_wires.ensures.shape world c.self.invariant.0 in
    let pulses = opening_pulses c.self.inside.net.now Relax c.self.inside.vector.items (state_of world) in
    let queue : c.open_phase.new.pending ≡ record c.self.inside.pending { wires = c.self.inside.pending.wires ++ pulses } =
    c.open_phase.ensures.queue ∙ rw (c.net.ensures.net, c.relax_vector.ensures, c.self.invariant.2) refl in
    let wires : c.open_phase.new.pending.wires ≡ pulses = ap (λ (r : PlainQueue). r.wires) queue ∙ ap (λ ws. ws ++ pulses) settled in
    let zeros = c.open_phase.ensures.counted ∙ zeros-of c.self.inside.net.now.output_rails (length c.self.inside.counted) shape.1 in
    let is = opened-is world Relax c.self.inside.vector.items c.self.inside.vector.items c.open_phase.new.cell_states.states c.open_phase.new.pending.wires
    c.open_phase.new.counted refl (ap (λ (kept : PlainStates). kept.states) c.open_phase.ensures.cleared) wires zeros in (
      subst IsWorld (sym is) is_next,
      ap (λ (r : PlainQueue). r.bound) c.open_phase.ensures.queue ∙ c.self.invariant.1,
      ap (λ (kept : PlainStates). kept.cells) c.open_phase.ensures.cleared ∙ c.self.invariant.2,
    )

pub returns : goal.returns
returns c =
    let world = world_of c.self.inside.net.now c.self.inside.opened c.self.inside.vector.items c.self.inside.cell_states.states c.self.inside.pending.wires c.self.inside.counted in
    let phase = subst (λ (w : PlainWorld). phase_of w.opened ≡ Excite) (sym c.self.view_is) c.requires.phase in
    let settled : c.self.inside.pending.wires ≡ [] = subst (λ (w : PlainWorld). w.queue ≡ []) (sym c.self.view_is) c.requires.settled in
    let is_next = relax-world world c.self.invariant.0 phase settled in
    let shape = world-shape c.readers_of_wires.ensures.shape world c.self.invariant.0 in
    let pulses = opening_pulses c.self.inside.net.now Relax c.self.inside.vector.items (state_of world) in
    let queue : c.open_phase.new.pending ≡ record c.self.inside.pending { wires = c.self.inside.pending.wires ++ pulses } =
    c.open_phase.ensures.queue ∙ rw (c.net.ensures.net, c.relax_vector.ensures, c.self.invariant.2) refl in
    let wires : c.open_phase.new.pending.wires ≡ pulses = ap (λ (r : PlainQueue). r.wires) queue ∙ ap (λ ws. ws ++ pulses) settled in
    let zeros = c.open_phase.ensures.counted ∙ zeros-of c.self.inside.net.now.output_rails (length c.self.inside.counted) shape.1 in
    let is = opened-is world Relax c.self.inside.vector.items c.self.inside.vector.items c.open_phase.new.cell_states.states c.open_phase.new.pending.wires
    c.open_phase.new.counted refl (ap (λ (kept : PlainStates). kept.states) c.open_phase.ensures.cleared) wires zeros in
    is ∙ ap (λ (w : PlainWorld). opened_world Relax w.vector w) c.self.view_is
