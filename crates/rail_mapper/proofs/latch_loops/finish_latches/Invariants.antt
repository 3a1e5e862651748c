use Rattle.std.proofs.Common.{◌≡◌, ◌+◌, [], length, replicate}
use Rattle.cell_netlist.specs.declared.kinds.Role.TheVariants.{Front}
use Rattle.rail_mapper.specs.LatchStages.{FrontsAt}
use Rattle.rail_mapper.specs.Lines.{AddsLines}
use Rattle.rail_mapper.proofs.latch_loops.finish_latches.Given as goal

-- so many fronts stand, and the others are to come
abbrev pub invariant-loop-finished : goal.invariant-loop-finished
invariant-loop-finished l =
    FrontsAt l.circuit.built.now l.circuit.ask l.draft × (length l.fn.draft.pending ≡ length l.draft.pending + l._finished) × AddsLines [] (replicate l._finished Front) l.fn.draft l.draft
