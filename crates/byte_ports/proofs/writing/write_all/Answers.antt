-- Each write takes the sink further in the piece, and one that fails leaves it where it was.
use Rattle.std.proofs.Common.{arith, ◌∙◌}
use Rattle.std.proofs.lemmas.Grind.{common_steps}
use Rattle.byte_ports.proofs.CallerLemmas.{grown_further}
use Rattle.byte_ports.proofs.Pieces.{failed_so_far}
use Rattle.byte_ports.proofs.writing.write_all.Goals as goal

pub loop-at-preserved : goal.loop-at-preserved
loop-at-preserved g c =
    record {
      within = grind (arith, common_steps, c.in-Ok.ensures.bound);
      calm = c.in-Ok.ensures.cause.kept ∙ c.loop-at.invariant.calm;
      grown = grown_further _ _ _ c.loop-at.at c.in-Ok.count _ c.loop-at.invariant.grown c.in-Ok.ensures.bytes;
      opened = λ _. c.in-Ok.ensures.unflushed;
      untouched = grind (arith, common_steps, c.in-Ok.ensures.progress);
    }

pub returns-in-Err-clause-written : goal.returns-in-Err-clause-written
returns-in-Err-clause-written g c =
    failed_so_far _ _ _ c.loop-at.at _ _ _ _ _ c.loop-at.invariant.grown c.in-Err.ensures.bytes c.loop-at.invariant.calm c.in-Err.ensures.cause
