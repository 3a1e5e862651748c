use Rattle.std.proofs.Common.{sym, subst}
use Rattle.aig_core.specs.KeptPairs.{pairs_of, IsOnce}
use Rattle.aig_core.proofs.kept_pairs.KeptPairs.make_index.Goals as goal

pub indexed-requires : goal.indexed-requires
indexed-requires c =
    subst IsOnce (sym c.as_slice.ensures.value) (subst (λ kept. IsOnce (pairs_of kept)) c.in-Listed.is c.requires)
