use Rattle.std.proofs.Common.{◌≡◌, ◌+◌, ◌∙◌, Some, length, drop, slice_get, ap, subst, arith}
use Rattle.cell_netlist.specs.Netlists.{reads}
use Rattle.cell_netlist.specs.Places.{cell_places, reading}
use Rattle.cell_netlist.specs.PlaceTables.{written}
use Rattle.cell_netlist.proofs.TableLemmas.{written_cell, written-length, cell_bounds}
use Rattle.cell_netlist.proofs.sound_nets.read_by_cells.Goals as goal

pub read_by_cell-requires : goal.read_by_cell-requires
read_by_cell-requires c =
    let at = subst (λ k. slice_get c.args.cells.now k ≡ Some c.get.result.now) c.new-id.ensures c.get.ensures in
    let bound = cell_bounds reads c.args.cells.now c.loop-number.number c.get.result.now at in
    let low = c.loop-number.invariant.1 in
    omega arith

pub loop-number-preserved : goal.loop-number-preserved
loop-number-preserved c =
    let at = subst (λ k. slice_get c.args.cells.now k ≡ Some c.get.result.now) c.new-id.ensures c.get.ensures in
    let bound = cell_bounds reads c.args.cells.now c.loop-number.number c.get.result.now at in
    let low = c.loop-number.invariant.1 in
    let put = c.read_by_cell.ensures ∙ ap (λ k. written (reading k c.get.result.now) c.loop-number.table) c.new-id.ensures in
    let long = ap length put ∙ written-length (reading c.loop-number.number c.get.result.now) c.loop-number.table in (
      ap (λ t. written (cell_places reading (c.loop-number.number + 1) (drop (c.loop-number.number + 1) c.args.cells.now)) t) put
          ∙ (written_cell reading c.args.cells.now c.loop-number.number c.get.result.now c.loop-number.table at ∙ c.loop-number.invariant.0),
      omega arith,
    )
