use Rattle.std.proofs.Common.{◌<◌, subst}
use Rattle.cell_netlist.specs.Netlists.{number_of_wires}
use Rattle.pulse_world.specs.Worlds.{PlainWorld}
use Rattle.pulse_world.proofs.WorldDeliveries.{pending-below}
use Rattle.pulse_world.proofs.worlds.World.pending_at.Goals as goal

pub returns-clause-below : goal.returns-clause-below
returns-clause-below c =
    subst (λ (w : PlainWorld). c.at.result.number < number_of_wires w.net) c.self.view_is
    (pending-below _ c.self.invariant.0 c.args.place c.at.result.number c.at.ensures)
