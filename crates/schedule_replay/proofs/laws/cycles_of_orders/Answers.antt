use Rattle.schedule_replay.proofs.OneList.{one-list, one-list-of-cycles}
use Rattle.schedule_replay.proofs.CyclesThere.{orders-settle, cycles-there}
use Rattle.schedule_replay.proofs.laws.cycles_of_orders.Goals as goal

pub returns-clause-one : goal.returns-clause-one
returns-clause-one c = one-list

pub returns-clause-one_cycles : goal.returns-clause-one_cycles
returns-clause-one_cycles c = one-list-of-cycles

pub returns-clause-settle : goal.returns-clause-settle
returns-clause-settle c = orders-settle c.every_order.ensures.delivers c.every_order.ensures.follows c.equation_runs.ensures.exists c.readers_of_wires.ensures.places
    c.readers_of_wires.ensures.delivery c.readers_of_wires.ensures.shape c.moments_of_worlds.ensures.excite c.moments_of_worlds.ensures.relax c.moments_of_worlds.ensures.delivery

pub returns-clause-cycles : goal.returns-clause-cycles
returns-clause-cycles c = cycles-there c.every_order.ensures.delivers c.every_order.ensures.follows c.equation_runs.ensures.exists c.readers_of_wires.ensures.places
    c.readers_of_wires.ensures.delivery c.readers_of_wires.ensures.shape c.moments_of_worlds.ensures.excite c.moments_of_worlds.ensures.relax c.moments_of_worlds.ensures.delivery
