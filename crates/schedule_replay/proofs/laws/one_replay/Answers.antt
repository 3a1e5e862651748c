use Rattle.schedule_replay.proofs.OneReplay.{one-replay}
use Rattle.schedule_replay.proofs.laws.one_replay.Goals as goal

pub returns : goal.returns
returns c = one-replay c.moments_of_worlds.ensures.delivery c.every_order.ensures.follows c.equation_runs.ensures.exists
