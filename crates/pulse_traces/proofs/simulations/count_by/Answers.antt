-- A simulation begins at the start of its netlist.
use Rattle.std.proofs.Common.{replicate}
use Rattle.pulse_traces.proofs.Starts.{counts-from-start}
use Rattle.pulse_traces.proofs.simulations.count_by.Goals as goal

pub returns : goal.returns
returns g c =
    counts-from-start c.args.order c.simulation.inside.world c.args.simulation (replicate c.args.cycles c.args.vector.now) _ c.simulation.view_is c.simulation.invariant.0
    c.count_cycles.ensures
