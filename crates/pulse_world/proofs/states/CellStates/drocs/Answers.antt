use Rattle.std.proofs.Common.{subst}
use Rattle.pulse_world.specs.PackedStates.{AreStatesOf}
use Rattle.pulse_world.proofs.StateBits.{states-fit}
use Rattle.pulse_world.proofs.states.CellStates.drocs.Goals as goal

pub returns-clause-fit : goal.returns-clause-fit
returns-clause-fit c = subst AreStatesOf c.self.view_is (states-fit c.self.inside.cells.now c.self.inside.bits c.self.invariant.0)
