-- The two phases of a cycle.
use Rattle.std.proofs.Common.{◌∙◌, ap, subst}
use Rattle.cell_netlist.specs.declared.kinds.Phase.TheVariants.{Relax}
use Rattle.pulse_world.specs.Worlds.{PlainWorld, opened_world}
use Rattle.schedule_replay.specs.Settling.{DeliversInTurn}
use Rattle.pulse_traces.proofs.cycles.make_cycle.Goals as goal

pub returns-clause-made : goal.returns-clause-made
returns-clause-made g c =
    let names = g.F.Choose.names c.args.chooser.now in
    let first = c.settle_phase-middle.new.room.log.wires in
    let middle = c.settle_phase-middle.new.world in
    let excited = subst (λ w. DeliversInTurn names c.args.step w first middle) c.begin_excite.ensures c.settle_phase-middle.ensures.delivers in
    let vector = c.settle_phase-middle.ensures.keeps.vector ∙ ap (λ (w : PlainWorld). w.vector) c.begin_excite.ensures in
    let opened = c.begin_relax.ensures ∙ ap (λ v. opened_world Relax v middle) vector in
    let relaxed = subst (λ n. DeliversInTurn names n (opened_world Relax c.args.vector.now middle) c.settle_phase.new.room.log.wires c.settle_phase.new.world) c.settle_phase-middle.ensures.next
    (subst (λ w. DeliversInTurn names c.settle_phase-middle.result w c.settle_phase.new.room.log.wires c.settle_phase.new.world) opened c.settle_phase.ensures.delivers) in
    record { middle = middle; excites = excited; rests = c.settle_phase-middle.ensures.settled; relaxes = relaxed; settled = c.settle_phase.ensures.settled }
