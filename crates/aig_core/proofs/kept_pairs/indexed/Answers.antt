use Rattle.std.proofs.Common.{subst}
use Rattle.aig_core.specs.KeptPairs.{IsPlaced}
use Rattle.aig_core.proofs.PairLemmas.{indexed_goes_on}
use Rattle.aig_core.proofs.kept_pairs.indexed.Goals as goal

pub loop-pair-preserved : goal.loop-pair-preserved
loop-pair-preserved c =
    indexed_goes_on c.args.list.now c.loop-pair.pair-index c.in_ok-insert.field-0 c.pair-item.result c.loop-pair.set.keys c.insert.new.set.keys c.requires c.loop-pair-test.true c.loop-pair.invariant
    (subst (λ pair. IsPlaced c.loop-pair.set.keys pair c.in_ok-insert.field-0 c.insert.new.set.keys) c.pair-item.is c.in_ok-insert.ensures.placed)
