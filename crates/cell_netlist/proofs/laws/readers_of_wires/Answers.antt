use Rattle.cell_netlist.proofs.PlaceLemmas.{drivers-count, readers-count, delivery-to}
use Rattle.cell_netlist.proofs.MomentShapes.{moments_keep_shape}
use Rattle.cell_netlist.proofs.laws.readers_of_wires.Goals as goal

pub returns-clause-places : goal.returns-clause-places
returns-clause-places c = λ net wire. (drivers-count net wire, readers-count net wire)

pub returns-clause-delivery : goal.returns-clause-delivery
returns-clause-delivery c = delivery-to

pub returns-clause-shape : goal.returns-clause-shape
returns-clause-shape c = λ net vectors moment reached. moments_keep_shape net vectors reached.0 moment reached.1
