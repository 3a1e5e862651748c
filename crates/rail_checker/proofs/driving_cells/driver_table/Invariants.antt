use Rattle.rail_checker.specs.DrivingCells.{ShowsDrivers}
use Rattle.rail_checker.proofs.driving_cells.driver_table.Given as goal

-- the cells so far are shown
abbrev pub invariant-loop-number : goal.invariant-loop-number
invariant-loop-number l = ShowsDrivers l.net l.number l.table
