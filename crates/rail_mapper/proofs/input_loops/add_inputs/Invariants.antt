use Rattle.std.proofs.Common.{◌*◌}
use Rattle.rail_mapper.specs.InputStages.{InputsAt}
use Rattle.rail_mapper.proofs.input_loops.add_inputs.Given as goal

-- the rails of the ports before this one are added
abbrev pub invariant-loop-port : goal.invariant-loop-port
invariant-loop-port l = InputsAt l.circuit.built.now l.circuit.demand.now l.circuit.ask l.circuit.version (2 * l.port) l.draft
