use Rattle.std.proofs.Common.{◌≡◌}
use Rattle.timed_world.specs.ArrivalTables.{table_arrival}
use Rattle.timed_world.specs.Bounding.{IsLatestBelow}
use Rattle.timed_world.proofs.bounding.latest.Given as goal

abbrev pub invariant-loop-number : goal.invariant-loop-number
invariant-loop-number l = record {
  latest : IsLatestBelow (table_arrival l.delays l.net l.table) l.number l.last.number;
  greatest : l.greatest ≡ table_arrival l.delays l.net l.table l.last.number;
}
