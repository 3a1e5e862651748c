use Rattle.rail_mapper.specs.Lines.{KeepsCells}
use Rattle.rail_mapper.specs.OutputStages.{OutputsAt}
use Rattle.rail_mapper.proofs.output_loops.add_outputs.Given as goal

-- the output rails of the ports before this one stand
abbrev pub invariant-loop-port : goal.invariant-loop-port
invariant-loop-port l = OutputsAt l.circuit.built.now l.circuit.ask l.port l.draft × KeepsCells l.fn.draft l.draft
