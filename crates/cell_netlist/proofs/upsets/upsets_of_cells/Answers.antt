use Rattle.cell_netlist.proofs.UpsetCells.{upsets_are_of_cells, reading_cells_are_upset}
use Rattle.cell_netlist.proofs.upsets.upsets_of_cells.Goals as goal

pub returns-clause-cells : goal.returns-clause-cells
returns-clause-cells c = upsets_are_of_cells

pub returns-clause-reader : goal.returns-clause-reader
returns-clause-reader c = reading_cells_are_upset
