use Rattle.std.proofs.Common.{arith, List, ℕ, refl, sym, subst, ◌∙◌}
use Rattle.dependency_order.specs.Searches.{IsSearch, Steps}
use Rattle.dependency_order.proofs.Steps.{steps_none, steps_then, settled_more}
use Rattle.dependency_order.proofs.search.visit_all.Goals as goal

pub visit-requires-clause-fits : goal.visit-requires-clause-fits
visit-requires-clause-fits g c =
    subst (λ (k : List ℕ). g.A.Agenda.fits k c.loop-item.item) (sym c.loop-item.invariant.kept) (c.requires.fits c.loop-item.item (omega (arith, c.loop-item-test.true, c.len-count.ensures)))

pub visit-requires-clause-search : goal.visit-requires-clause-search
visit-requires-clause-search g c =
    subst (λ (k : List ℕ). IsSearch c.args.dependencies.now (g.A.Agenda.allows k) c.loop-item.progress (g.A.Agenda.waiting c.loop-item.agenda))
    (sym c.loop-item.invariant.kept) c.loop-item.invariant.steps.search

pub loop-item-init : goal.loop-item-init
loop-item-init g c = record {
  steps = steps_none _ _ _ _ c.requires.search;
  settled = λ other lt. absurd (omega arith);
  kept = refl;
}

pub loop-item-preserved : goal.loop-item-preserved
loop-item-preserved g c =
    let steps = subst (λ (k : List ℕ). Steps c.args.dependencies.now (g.A.Agenda.allows k) c.loop-item.progress c.visit.new.progress
    (g.A.Agenda.waiting c.visit.new.agenda)) c.loop-item.invariant.kept c.in_ok-visit.ensures.steps in
    record {
      steps = steps_then _ _ c.args.progress.now c.loop-item.progress c.visit.new.progress _ _ c.loop-item.invariant.steps steps;
      settled = settled_more _ _ c.loop-item.progress c.visit.new.progress _ c.loop-item.item steps c.in_ok-visit.ensures.settled c.loop-item.invariant.settled;
      kept = c.in_ok-visit.ensures.kept ∙ c.loop-item.invariant.kept;
    }
