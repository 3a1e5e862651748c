use Rattle.std.proofs.Common.{◌≡◌, Some, length, slice_get, refl, ap, ◌∙◌, arith, List}
use Rattle.cell_netlist.specs.declared.lines.Cell.{Cell}
use Rattle.cell_netlist.specs.Netlists.{outs}
use Rattle.rail_checker.specs.DrivingCells.{cells_of}
use Rattle.rail_checker.specs.Needs.{needs_of_cell}
use Rattle.rail_checker.proofs.DriverTable.{number_here, cell_here}
use Rattle.rail_checker.proofs.CellNeeds.{added_needs_fit, added_yields_fit, added_stays_small, added_is_first}
use Rattle.rail_checker.proofs.grounding.add_cells.Goals as goal

pub get-cell-requires : goal.get-cell-requires
get-cell-requires c =
    omega (
      arith,
      ap (λ (l : List Cell). length l) c.cells.ensures,
      number_here c.args.net.now c.args.drivers.now c.requires.drivers c.loop-driver.driver-index c.loop-driver-test.true,
    )

pub push-requires-clause-needs : goal.push-requires-clause-needs
push-requires-clause-needs c =
    let at : slice_get (cells_of c.args.net.now c.args.drivers.now) c.loop-driver.driver-index ≡ Some c.get-cell.result.now =
    cell_here c.args.net.now c.args.drivers.now c.requires.drivers c.loop-driver.driver-index c.loop-driver-test.true c.cells.result.now c.cells.ensures c.get-cell.result.now c.get-cell.ensures in
    let needs : c.as_slice.result.now ≡ needs_of_cell c.get-cell.result.now = c.as_slice.ensures.value ∙ c.in_ok-push_needs.ensures ∙ rw (c.clear.ensures.items) refl in
    let yields : c.as_slice-in-loop-driver.result.now ≡ outs c.get-cell.result.now =
    c.as_slice-in-loop-driver.ensures.value ∙ c.in_ok-push_outs.ensures ∙ rw (c.clear-in-loop-driver.ensures.items) refl in
    added_needs_fit c.args.net.now c.args.drivers.now c.requires.drivers c.loop-driver.driver-index c.get-cell.result.now at c.loop-driver.dependencies c.loop-driver.invariant
    c.as_slice.result.now c.as_slice-in-loop-driver.result.now needs yields

pub push-requires-clause-yields : goal.push-requires-clause-yields
push-requires-clause-yields c =
    let at : slice_get (cells_of c.args.net.now c.args.drivers.now) c.loop-driver.driver-index ≡ Some c.get-cell.result.now =
    cell_here c.args.net.now c.args.drivers.now c.requires.drivers c.loop-driver.driver-index c.loop-driver-test.true c.cells.result.now c.cells.ensures c.get-cell.result.now c.get-cell.ensures in
    let needs : c.as_slice.result.now ≡ needs_of_cell c.get-cell.result.now = c.as_slice.ensures.value ∙ c.in_ok-push_needs.ensures ∙ rw (c.clear.ensures.items) refl in
    let yields : c.as_slice-in-loop-driver.result.now ≡ outs c.get-cell.result.now =
    c.as_slice-in-loop-driver.ensures.value ∙ c.in_ok-push_outs.ensures ∙ rw (c.clear-in-loop-driver.ensures.items) refl in
    added_yields_fit c.args.net.now c.args.drivers.now c.requires.drivers c.loop-driver.driver-index c.get-cell.result.now at c.loop-driver.dependencies c.loop-driver.invariant
    c.as_slice.result.now c.as_slice-in-loop-driver.result.now needs yields

pub push-requires-clause-small : goal.push-requires-clause-small
push-requires-clause-small c =
    let at : slice_get (cells_of c.args.net.now c.args.drivers.now) c.loop-driver.driver-index ≡ Some c.get-cell.result.now =
    cell_here c.args.net.now c.args.drivers.now c.requires.drivers c.loop-driver.driver-index c.loop-driver-test.true c.cells.result.now c.cells.ensures c.get-cell.result.now c.get-cell.ensures in
    let needs : c.as_slice.result.now ≡ needs_of_cell c.get-cell.result.now = c.as_slice.ensures.value ∙ c.in_ok-push_needs.ensures ∙ rw (c.clear.ensures.items) refl in
    let yields : c.as_slice-in-loop-driver.result.now ≡ outs c.get-cell.result.now =
    c.as_slice-in-loop-driver.ensures.value ∙ c.in_ok-push_outs.ensures ∙ rw (c.clear-in-loop-driver.ensures.items) refl in
    added_stays_small c.args.net.now c.args.drivers.now c.requires.drivers c.loop-driver.driver-index c.get-cell.result.now at c.loop-driver.dependencies c.loop-driver.invariant
    c.as_slice.result.now c.as_slice-in-loop-driver.result.now needs yields

pub loop-driver-preserved : goal.loop-driver-preserved
loop-driver-preserved c =
    let at : slice_get (cells_of c.args.net.now c.args.drivers.now) c.loop-driver.driver-index ≡ Some c.get-cell.result.now =
    cell_here c.args.net.now c.args.drivers.now c.requires.drivers c.loop-driver.driver-index c.loop-driver-test.true c.cells.result.now c.cells.ensures c.get-cell.result.now c.get-cell.ensures in
    let needs : c.as_slice.result.now ≡ needs_of_cell c.get-cell.result.now = c.as_slice.ensures.value ∙ c.in_ok-push_needs.ensures ∙ rw (c.clear.ensures.items) refl in
    let yields : c.as_slice-in-loop-driver.result.now ≡ outs c.get-cell.result.now =
    c.as_slice-in-loop-driver.ensures.value ∙ c.in_ok-push_outs.ensures ∙ rw (c.clear-in-loop-driver.ensures.items) refl in
    c.in_ok-push.ensures.ok ∙ added_is_first c.args.net.now c.args.drivers.now c.requires.drivers c.loop-driver.driver-index c.get-cell.result.now at c.loop-driver.dependencies
    c.loop-driver.invariant c.as_slice.result.now c.as_slice-in-loop-driver.result.now needs yields
