use Rattle.source_machine.proofs.NetNumbers.{cubes_mapped_nets}
use Rattle.source_machine.proofs.machines.Equation.push_cube_nets.Goals as goal

pub returns : goal.returns
returns c = rw (cubes_mapped_nets c.args.self.now.rows.items, ← c.as_slice.ensures.value) c.push_cubes.ensures
