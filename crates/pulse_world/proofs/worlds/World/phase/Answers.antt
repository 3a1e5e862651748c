use Rattle.std.proofs.Common.{◌≤◌, ◌<◌, ℕ, subst}
use Rattle.pulse_ids.specs.Lists.{IsIn, occurrences}
use Rattle.cell_netlist.specs.Netlists.{number_of_wires}
use Rattle.pulse_world.specs.Worlds.{PlainWorld}
use Rattle.pulse_world.proofs.WorldDeliveries.{queue-once, queue-below}
use Rattle.pulse_world.proofs.worlds.World.phase.Goals as goal

pub returns-clause-once : goal.returns-clause-once
returns-clause-once c =
    subst (λ (w : PlainWorld). (wire : ℕ) → occurrences wire w.queue ≤ 1) c.self.view_is (queue-once _ c.self.invariant.0)

pub returns-clause-below : goal.returns-clause-below
returns-clause-below c =
    subst (λ (w : PlainWorld). (wire : ℕ) → IsIn wire w.queue → wire < number_of_wires w.net) c.self.view_is (queue-below _ c.self.invariant.0)
