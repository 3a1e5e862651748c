-- A simulation begins at the start of its netlist.
use Rattle.pulse_traces.proofs.Starts.{from-start}
use Rattle.pulse_traces.proofs.simulations.write_by.Goals as goal

pub returns : goal.returns
returns g c =
    from-start c.args.order c.args.trace c.simulation.inside.world c.args.simulation c.args.vectors.now.vectors _ _ _ _ _ c.simulation.view_is c.simulation.invariant.0 c.write_cycles.ensures
