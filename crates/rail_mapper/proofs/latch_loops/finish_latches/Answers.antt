use Rattle.std.proofs.Common.{◌∷◌, [], List, replicate, subst, arith}
use Rattle.cell_netlist.specs.declared.kinds.Role.{Role}
use Rattle.cell_netlist.specs.declared.kinds.Role.TheVariants.{Front}
use Rattle.rail_mapper.specs.Lines.{AddsLines}
use Rattle.rail_mapper.proofs.LineSteps.{lines_on}
use Rattle.rail_mapper.proofs.ShelfLemmas.{replicate_last}
use Rattle.rail_mapper.proofs.latch_loops.finish_latches.Goals as goal

pub loop-finished-preserved : goal.loop-finished-preserved
loop-finished-preserved c = (
  c.in_ok-finish_latch.ensures.fronts,
  omega (arith, c.in_ok-finish_latch.ensures.less, c.loop-finished.invariant.1),
  subst (λ (l : List Role). AddsLines [] l c.args.draft.now c.finish_latch.new.draft) (replicate_last c.loop-finished._finished Front)
      (lines_on [] [] (replicate c.loop-finished._finished Front) (Front ∷ []) c.args.draft.now c.loop-finished.draft c.finish_latch.new.draft c.loop-finished.invariant.2
      c.in_ok-finish_latch.ensures.lines),
)
