use Rattle.std.proofs.Common.{◌*◌, []}
use Rattle.rail_mapper.specs.InputStages.{TreesAt}
use Rattle.rail_mapper.specs.Lines.{AddsLines}
use Rattle.rail_mapper.proofs.input_loops.grow_inputs.Given as goal

-- the trees of the ports before this one stand
abbrev pub invariant-loop-port : goal.invariant-loop-port
invariant-loop-port l = TreesAt l.circuit.built.now l.circuit.demand.now l.circuit.ask (2 * l.port) l.wire l.draft × AddsLines [] [] l.fn.draft l.draft
