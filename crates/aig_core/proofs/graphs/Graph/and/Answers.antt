use Rattle.std.proofs.Common.{◌∙◌, sym, subst}
use Rattle.aig_core.specs.Folds.{FoldsTo}
use Rattle.aig_core.specs.Tidy.{IsKept}
use Rattle.aig_core.proofs.FoldLemmas.{fold_folds, value-folded}
use Rattle.aig_core.proofs.GrowthLemmas.{Places, placed_grows, placed_within, and_value, foldable_absent}
use Rattle.aig_core.proofs.graphs.Graph.and.Goals as goal

-- the literal is that of a fold
folds : (c : goal.In-Some) → FoldsTo c.args.a c.args.b c.in-Some.literal
folds c = fold_folds c.args.a c.args.b c.in-Some.literal (sym c.folded.ensures ∙ c.in-Some.is)

-- what placing the pair says
places : (c : goal.After-place) → Places c.args.self.now c.place.new.self c.ordered.result c.place.result
places c = record {
  found = c.place.ensures.found;
  added = c.place.ensures.added;
  err = c.place.ensures.err;
}

pub returns-in-Some-clause-value : goal.returns-in-Some-clause-value
returns-in-Some-clause-value c = λ state vector. value-folded state vector c.args.self.now c.args.a c.args.b c.in-Some.literal (folds c)

pub returns-in-Some-clause-found : goal.returns-in-Some-clause-found
returns-in-Some-clause-found c = λ place at.
    let kept : IsKept c.args.self.now = subst IsKept c.self.view_is c.self.invariant in
    absurd (foldable_absent c.args.self.now c.args.a c.args.b kept.tidy (c.in-Some.literal, folds c) place at)

pub returns-in-None-clause-value : goal.returns-in-None-clause-value
returns-in-None-clause-value c =
    let kept : IsKept c.args.self.now = subst IsKept c.self.view_is c.self.invariant in
    and_value c.args.self.now c.place.new.self c.args.a c.args.b c.ordered.result c.place.result c.ordered.ensures (places c) kept.tidy

pub returns-in-None-clause-within : goal.returns-in-None-clause-within
returns-in-None-clause-within c = placed_within c.args.self.now c.place.new.self c.ordered.result c.place.result (places c)

pub returns-in-None-clause-grows : goal.returns-in-None-clause-grows
returns-in-None-clause-grows c = placed_grows c.args.self.now c.place.new.self c.ordered.result c.place.result (places c)
