use Rattle.std.proofs.Common.{[], length, replicate}
use Rattle.cell_netlist.specs.declared.kinds.Role.TheVariants.{Back}
use Rattle.rail_mapper.specs.LatchStages.{BacksAt}
use Rattle.rail_mapper.specs.Lines.{AddsLines}
use Rattle.rail_mapper.proofs.latch_loops.begin_latches.Given as goal

-- the backs of the latches before this one stand
abbrev pub invariant-loop-latch : goal.invariant-loop-latch
invariant-loop-latch l = BacksAt l.circuit.built.now l.circuit.demand.now l.circuit.ask l.latch l.draft × AddsLines [] (replicate (length l.draft.pending) Back) l.fn.draft l.draft
