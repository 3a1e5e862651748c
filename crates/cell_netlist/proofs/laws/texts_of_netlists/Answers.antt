use Rattle.cell_netlist.proofs.NetlistTexts.{texts_are_no_prefixes}
use Rattle.cell_netlist.proofs.laws.texts_of_netlists.Goals as goal

pub returns : goal.returns
returns c = texts_are_no_prefixes
