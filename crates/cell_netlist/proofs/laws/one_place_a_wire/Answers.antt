use Rattle.cell_netlist.proofs.WireLemmas.{driving_cell-is, reading_cell-is}
use Rattle.cell_netlist.proofs.PlacesOfWires.{driver-only, reader-only}
use Rattle.cell_netlist.proofs.laws.one_place_a_wire.Goals as goal

pub returns-clause-drivers : goal.returns-clause-drivers
returns-clause-drivers c = λ net wired wire. driver-only net wire wired

pub returns-clause-readers : goal.returns-clause-readers
returns-clause-readers c = λ net wired wire. reader-only net wire wired

pub returns-clause-driving_cells : goal.returns-clause-driving_cells
returns-clause-driving_cells c = driving_cell-is

pub returns-clause-reading_cells : goal.returns-clause-reading_cells
returns-clause-reading_cells c = reading_cell-is
