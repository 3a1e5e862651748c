use Rattle.pulse_traces.proofs.SimulationsThere as there
use Rattle.pulse_traces.proofs.laws.simulations_exist.Goals as goal

pub returns-clause-ordered : goal.returns-clause-ordered
returns-clause-ordered c = there.simulations_exist c.moments_of_worlds.ensures.start c.cycles_of_orders.ensures.cycles

pub returns-clause-scripted : goal.returns-clause-scripted
returns-clause-scripted c =
    there.replays_exist c.scripts_end.ensures c.one_replay.ensures c.deliveries_in_turn.ensures.keep c.moments_of_worlds.ensures.relax
    c.moments_of_worlds.ensures.excite c.moments_of_worlds.ensures.start
