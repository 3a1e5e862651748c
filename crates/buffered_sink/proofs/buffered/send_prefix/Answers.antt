-- Each write sends more of the piece.
use Rattle.std.proofs.Common.{◌∙◌, arith}
use Rattle.std.proofs.lemmas.Grind.{common_steps}
use Rattle.byte_ports.proofs.CallerLemmas.{grown_further}
use Rattle.buffered_sink.proofs.buffered.send_prefix.Goals as goal

pub loop-count-preserved : goal.loop-count-preserved
loop-count-preserved g c = record {
  within = grind (arith, common_steps, c.in-Ok.ensures.bound);
  grown = grown_further _ _ _ c.loop-count.count c.in-Ok.more _ c.loop-count.invariant.grown c.in-Ok.ensures.bytes;
  calm = c.in-Ok.ensures.cause.kept ∙ c.loop-count.invariant.calm;
}
