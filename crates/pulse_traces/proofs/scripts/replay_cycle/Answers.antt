-- The scripts of a cycle's two phases.
use Rattle.std.proofs.Common.{◌∙◌, Ok, Err, ap, subst, map}
use Rattle.cell_netlist.specs.declared.kinds.Phase.TheVariants.{Relax}
use Rattle.pulse_world.specs.Worlds.{PlainWorld, opened_world}
use Rattle.schedule_replay.specs.Logs.{wire_number}
use Rattle.schedule_replay.specs.Replaying.{Replays}
use Rattle.pulse_traces.specs.Rooms.{cycle_asked}
use Rattle.pulse_traces.proofs.ScriptCycles.{both-made}
use Rattle.pulse_traces.proofs.scripts.replay_cycle.Goals as goal

pub returns-in-Err-clause-fails : goal.returns-in-Err-clause-fails
returns-in-Err-clause-fails c = (
  c.replay_phase.new.world,
  subst (λ w. Replays w (map wire_number c.args.asked.excite.now) c.replay_phase.new.world (Err c.in-Err.fault)) c.begin_excite.ensures c.in-Err.ensures.replays,
)

pub returns-in-Ok-replay_phase-clause-made : goal.returns-in-Ok-replay_phase-clause-made
returns-in-Ok-replay_phase-clause-made c =
    let middle = c.replay_phase.new.world in
    let first = subst (λ w. Replays w (map wire_number c.args.asked.excite.now) middle (Ok tt)) c.begin_excite.ensures c.in-Ok.ensures.replays in
    let vector = c.replay_phase.ensures.keeps.vector ∙ ap (λ (w : PlainWorld). w.vector) c.begin_excite.ensures in
    let opened = c.begin_relax.ensures ∙ ap (λ v. opened_world Relax v middle) vector in
    let second = subst (λ w. Replays w (map wire_number c.args.asked.relax.now) c.replay_phase-2.new.world (Ok tt)) opened c.in-Ok-replay_phase.ensures.replays in
    both-made c.args.world.now middle c.replay_phase-2.new.world (cycle_asked c.args.asked) first second

pub returns-in-Err-replay_phase-clause-fails : goal.returns-in-Err-replay_phase-clause-fails
returns-in-Err-replay_phase-clause-fails c =
    let middle = c.replay_phase.new.world in
    let first = subst (λ w. Replays w (map wire_number c.args.asked.excite.now) middle (Ok tt)) c.begin_excite.ensures c.in-Ok.ensures.replays in
    let vector = c.replay_phase.ensures.keeps.vector ∙ ap (λ (w : PlainWorld). w.vector) c.begin_excite.ensures in
    let opened = c.begin_relax.ensures ∙ ap (λ v. opened_world Relax v middle) vector in
    let second = subst (λ w. Replays w (map wire_number c.args.asked.relax.now) c.replay_phase-2.new.world (Err c.in-Err-replay_phase.fault)) opened c.in-Err-replay_phase.ensures.replays in
    (middle, first, c.replay_phase-2.new.world, second)
