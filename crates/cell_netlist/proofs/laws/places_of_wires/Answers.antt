use Rattle.cell_netlist.proofs.WireLemmas.{named_below}
use Rattle.cell_netlist.proofs.PlacesOfWires.{driver-is, reader-is, out-driver, read-reader}
use Rattle.cell_netlist.proofs.laws.places_of_wires.Goals as goal

pub returns-clause-below : goal.returns-clause-below
returns-clause-below c = named_below

pub returns-clause-drivers : goal.returns-clause-drivers
returns-clause-drivers c = driver-is

pub returns-clause-readers : goal.returns-clause-readers
returns-clause-readers c = reader-is

pub returns-clause-outs : goal.returns-clause-outs
returns-clause-outs c = λ net cell_number cell wire. out-driver net wire cell_number cell

pub returns-clause-reads : goal.returns-clause-reads
returns-clause-reads c = λ net cell_number cell wire. read-reader net wire cell_number cell
