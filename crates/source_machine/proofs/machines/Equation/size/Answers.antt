use Rattle.std.proofs.Common.{arith}
use Rattle.source_machine.proofs.PlainLists.{size_done}
use Rattle.source_machine.proofs.machines.Equation.size.Goals as goal

pub returns : goal.returns
returns c = omega (arith, size_done c.args.self.now.rows.items c.loop-cube.cube-index (omega arith), c.loop-cube.invariant.1)
