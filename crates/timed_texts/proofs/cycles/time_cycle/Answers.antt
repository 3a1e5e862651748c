use Rattle.timed_texts.proofs.TwoPhases.{cycle_timed}
use Rattle.timed_texts.proofs.cycles.time_cycle.Goals as goal

pub returns-clause-timed : goal.returns-clause-timed
returns-clause-timed g c =
    cycle_timed (g.F.Delay.gives c.args.delays.now) c.one_answer.ensures c.args.net.now c.args.vector.now c.args.world.now c.begin_excite.new.self c.timed_phase.new.world
    c.begin_relax.new.self c.timed_phase-2.new.world c.timed_phase.new.log.wires c.timed_phase-2.new.log.wires
    (record { excite = c.in_ok-excite.excite; relax = c.in_ok-relax.relax }) c.requires.world c.begin_excite.ensures c.in_ok-excite.ensures.timed c.timed_phase.ensures.keeps
    c.begin_relax.ensures c.in_ok-relax.ensures.timed
