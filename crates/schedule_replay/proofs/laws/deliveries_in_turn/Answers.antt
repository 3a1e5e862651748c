use Rattle.schedule_replay.proofs.Turns.{deliveries-keep, deliveries-are-few}
use Rattle.schedule_replay.proofs.laws.deliveries_in_turn.Goals as goal

pub returns-clause-keep : goal.returns-clause-keep
returns-clause-keep c = deliveries-keep c.moments_of_worlds.ensures.delivery

pub returns-clause-few : goal.returns-clause-few
returns-clause-few c = deliveries-are-few c.moments_of_worlds.ensures.delivery c.every_order.ensures.delivers c.equation_runs.ensures.exists
