use Rattle.std.proofs.Common.{◌≡◌, ◌≤◌, ◌*◌, ◌-◌, []}
use Rattle.rail_mapper.specs.Cells.{gates_from}
use Rattle.rail_mapper.specs.Lines.{AddsLines}
use Rattle.rail_mapper.specs.Stages.{IsStage}
use Rattle.rail_mapper.proofs.gates.map_gates.Given as goal

-- the gates of the nodes before this one stand
abbrev pub invariant-loop-number : goal.invariant-loop-number
invariant-loop-number l =
    IsStage l.circuit.built.now l.circuit.demand.now l.circuit.ask (2 * l.number) l.draft × AddsLines (gates_from l.circuit.demand.now l.first (l.number - l.first)) [] l.fn.draft l.draft
    × (l.draft.pending ≡ l.fn.draft.pending) × (l.first ≤ l.number)
