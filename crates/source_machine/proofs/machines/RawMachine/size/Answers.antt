use Rattle.std.proofs.Common.{arith}
use Rattle.source_machine.proofs.PlainLists.{equations_done}
use Rattle.source_machine.proofs.machines.RawMachine.size.Goals as goal

pub returns : goal.returns
returns c = omega (arith, equations_done c.args.self.now.equations.items c.loop-equation.equation-index (omega arith), c.loop-equation.invariant.1)
