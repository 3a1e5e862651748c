use Rattle.std.proofs.Common.{◌≡◌, map, take}
use Rattle.pulse_ids.specs.Ids.{Lit}
use Rattle.source_machine.specs.Machines.{literal_of}
use Rattle.graph_build.specs.Literals.{node_literal}
use Rattle.graph_build.proofs.building.output_literals.Given as goal

-- the literals so far
abbrev pub invariant-loop-output : goal.invariant-loop-output
invariant-loop-output l =
    l.given.items ≡ map (λ (literal : Lit). node_literal l.literals (literal_of literal)) (take l.output-index l.outputs)
