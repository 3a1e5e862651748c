use Rattle.cell_netlist.proofs.MoreLines.{cells_add, input_adds, output_adds}
use Rattle.cell_netlist.proofs.laws.more_lines.Goals as goal

pub returns-clause-cells : goal.returns-clause-cells
returns-clause-cells c = cells_add

pub returns-clause-input : goal.returns-clause-input
returns-clause-input c = input_adds

pub returns-clause-output : goal.returns-clause-output
returns-clause-output c = output_adds
