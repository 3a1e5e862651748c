use Rattle.source_machine.proofs.PlainLists.{cubes_mapped, cubes_from_mapped}
use Rattle.source_machine.proofs.machines.Equation.fits.Goals as goal

pub returns-then-is_numbered : goal.returns-then-is_numbered
returns-then-is_numbered c = (
  λ t. (c.is_numbered.ensures.0 c.if-is_numbered.true, cubes_mapped c.args.nets c.args.self.now.rows.items (c.cubes_fit.ensures.0 t)),
  λ h. c.cubes_fit.ensures.1 (cubes_from_mapped c.args.nets c.args.self.now.rows.items h.1),
)
