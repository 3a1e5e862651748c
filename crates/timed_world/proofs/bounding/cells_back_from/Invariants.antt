use Rattle.std.specs.Prelude.{option_map}
use Rattle.timed_world.specs.ArrivalTables.{table_arrival}
use Rattle.timed_world.specs.Bounding.{numbers_of}
use Rattle.timed_world.proofs.Latest.{BackTo, way_left}
use Rattle.timed_world.proofs.bounding.cells_back_from.Given as goal

-- the way back gets shorter
abbrev pub decreases-loop-id : goal.decreases-loop-id
decreases-loop-id l = way_left (table_arrival l.delays l.net l.table) (option_map (λ wire. wire.number) l.wire)

-- the cells so far lead back from the last wire
abbrev pub invariant-loop-id : goal.invariant-loop-id
invariant-loop-id l = BackTo l.delays l.net (table_arrival l.delays l.net l.table) l.fn.last.number (numbers_of l.cells.items) (option_map (λ wire. wire.number) l.wire)
