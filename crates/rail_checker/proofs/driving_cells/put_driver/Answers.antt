use Rattle.std.proofs.Common.{sym}
use Rattle.rail_checker.proofs.DriverTable.{first_driven}
use Rattle.rail_checker.proofs.driving_cells.put_driver.Goals as goal

pub set-requires : goal.set-requires
set-requires c = c.requires c.in-Some.wire.number (first_driven c.args.cell c.in-Some.wire.number (sym c.in-Some.ensures))
