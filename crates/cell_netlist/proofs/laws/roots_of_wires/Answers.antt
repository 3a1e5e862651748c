use Rattle.cell_netlist.proofs.RootsInRuns.{wires_carry_root_bits}
use Rattle.cell_netlist.proofs.WireLemmas.{wire_grounded, wire_root}
use Rattle.cell_netlist.proofs.laws.roots_of_wires.Goals as goal

pub returns-clause-grounded : goal.returns-clause-grounded
returns-clause-grounded c = wire_grounded

pub returns-clause-rooted : goal.returns-clause-rooted
returns-clause-rooted c = wire_root

pub returns-clause-bits : goal.returns-clause-bits
returns-clause-bits c = wires_carry_root_bits
