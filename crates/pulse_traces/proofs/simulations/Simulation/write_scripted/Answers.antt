-- A simulation begins at the start of its netlist.
use Rattle.pulse_traces.specs.Scripts.{scripted}
use Rattle.pulse_traces.proofs.Starts.{replay-from-start}
use Rattle.pulse_traces.proofs.simulations.Simulation.write_scripted.Goals as goal

pub returns : goal.returns
returns g c =
    replay-from-start c.args.trace c.self.inside.world c.args.self (scripted c.args.vectors.now) _ _ _ _ _ c.self.view_is c.self.invariant.0 c.write_scripted.ensures
