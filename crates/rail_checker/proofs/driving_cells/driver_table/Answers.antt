use Rattle.std.proofs.Common.{◌≡◌, ◌+◌, List, Some, slice_get, sym, subst, arith}
use Rattle.pulse_ids.specs.Ids.{CellId}
use Rattle.cell_netlist.specs.declared.lines.Cell.{Cell}
use Rattle.rail_checker.specs.DrivingCells.{ShowsDrivers}
use Rattle.rail_checker.proofs.Refusing.{wired}
use Rattle.rail_checker.proofs.DriverTable.{out_low, one_more_shown}
use Rattle.rail_checker.proofs.driving_cells.driver_table.Goals as goal

pub put_driver-requires : goal.put_driver-requires
put_driver-requires c =
    let at : slice_get c.args.net.now.cells c.loop-number.number ≡ Some c.get.result.now =
    subst (λ (l : List Cell). slice_get l c.loop-number.number ≡ Some c.get.result.now) c.cells-in-loop-number.ensures
    (subst (λ k. slice_get c.cells-in-loop-number.result.now k ≡ Some c.get.result.now) c.new-id.ensures c.get.ensures) in
    out_low c.args.net.now (wired c.args.net.now 4 (omega arith) c.requires) c.loop-number.number c.get.result.now at c.new-id.result c.new-id.ensures c.loop-number.table
    c.loop-number.invariant

pub loop-number-preserved : goal.loop-number-preserved
loop-number-preserved c =
    let at : slice_get c.args.net.now.cells c.loop-number.number ≡ Some c.get.result.now =
    subst (λ (l : List Cell). slice_get l c.loop-number.number ≡ Some c.get.result.now) c.cells-in-loop-number.ensures
    (subst (λ k. slice_get c.cells-in-loop-number.result.now k ≡ Some c.get.result.now) c.new-id.ensures c.get.ensures) in
    subst (λ (t : List CellId). ShowsDrivers c.args.net.now (c.loop-number.number + 1) t) (sym c.put_driver.ensures)
    (one_more_shown c.args.net.now (wired c.args.net.now 4 (omega arith) c.requires) c.loop-number.number c.get.result.now at c.new-id.result c.new-id.ensures c.loop-number.table
    c.loop-number.invariant)
