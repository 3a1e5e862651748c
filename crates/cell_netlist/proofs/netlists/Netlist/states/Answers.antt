use Rattle.std.proofs.Common.{arith}
use Rattle.cell_netlist.proofs.StateLemmas.{states_few}
use Rattle.cell_netlist.proofs.netlists.Netlist.states.Goals as goal

pub overflow_cast-result : goal.overflow_cast-result
overflow_cast-result c = let few = states_few _ _ c.self.invariant.netlist.states in rw c.len.ensures (omega arith)
