use Rattle.std.proofs.Common.{Some, sym, subst}
use Rattle.timed_world.specs.Bounding.{IsDriven}
use Rattle.timed_world.proofs.DrivingCells.{driven_at}
use Rattle.timed_world.proofs.drivers.driver_cell.Goals as goal

pub returns : goal.returns
returns c =
    subst (IsDriven c.args.net.now (Some c.args.wire.number)) (sym c.cell_of.ensures) (driven_at c.args.net.now c.args.wire.number c.driver.result c.driver.ensures)
