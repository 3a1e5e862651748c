use Rattle.schedule_replay.proofs.ScriptsThere.{scripts-end}
use Rattle.schedule_replay.proofs.laws.scripts_end.Goals as goal

pub returns : goal.returns
returns c = scripts-end c.every_order.ensures.delivers c.every_order.ensures.follows c.equation_runs.ensures.exists c.readers_of_wires.ensures.places
    c.readers_of_wires.ensures.delivery c.readers_of_wires.ensures.shape c.moments_of_worlds.ensures.delivery
