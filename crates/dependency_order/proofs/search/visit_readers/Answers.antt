use Rattle.std.proofs.Common.{arith, ◌-◌, ◌<◌, ◌⊎◌, length, List, ℕ, refl, sym, subst, ◌∙◌}
use Rattle.dependency_order.specs.Searches.{IsSearch, IsSettled, IsReader, Steps}
use Rattle.dependency_order.proofs.Steps.{steps_none, steps_then, left_after, no_reader_left}
use Rattle.dependency_order.proofs.search.visit_readers.Goals as goal

pub visit-requires-clause-fits : goal.visit-requires-clause-fits
visit-requires-clause-fits g c =
    subst (λ (k : List ℕ). g.A.Agenda.fits k c.owner.result) (sym c.loop-head.invariant.kept)
    (c.requires.fits c.owner.result (omega (arith, c.owner.ensures, c.requires.readers.owned (c.loop-head.head - 1) (omega (arith, c.loop-head.invariant.low)))))

pub visit-requires-clause-search : goal.visit-requires-clause-search
visit-requires-clause-search g c =
    subst (λ (k : List ℕ). IsSearch c.args.dependencies.now (g.A.Agenda.allows k) c.loop-head.progress (g.A.Agenda.waiting c.loop-head.agenda))
    (sym c.loop-head.invariant.kept) c.loop-head.invariant.steps.search

pub loop-head-init : goal.loop-head-init
loop-head-init g c = record {
  low = omega (arith, c.head-head.ensures, c.requires.readers.links.low c.args.number);
  steps = steps_none _ _ _ _ c.requires.search;
  left = subst (λ (h : ℕ). (item : ℕ) → item < length c.args.dependencies.now.needs → IsSettled c.args.dependencies.now c.args.progress.now item
      ⊎ IsReader c.args.readers.now h item) (sym c.head-head.ensures) c.requires.left;
  kept = refl;
}

pub loop-head-preserved : goal.loop-head-preserved
loop-head-preserved g c =
    let steps = subst (λ (k : List ℕ). Steps c.args.dependencies.now (g.A.Agenda.allows k) c.loop-head.progress c.visit.new.progress
    (g.A.Agenda.waiting c.visit.new.agenda)) c.loop-head.invariant.kept c.in_ok-visit.ensures.steps in
    record {
      low = omega (
        arith,
        c.next-head.ensures,
        c.requires.readers.links.back (c.loop-head.head - 1)
            (omega (arith, c.loop-head.invariant.low, c.requires.readers.links.paired)),
        c.loop-head.invariant.low,
      );
      steps = steps_then _ _ c.args.progress.now c.loop-head.progress c.visit.new.progress _ _ c.loop-head.invariant.steps steps;
      left = left_after _ _ c.args.readers.now c.loop-head.progress c.visit.new.progress _ c.loop-head.head c.next-head.result c.owner.result
          steps c.in_ok-visit.ensures.settled c.owner.ensures c.next-head.ensures c.loop-head.invariant.left;
      kept = c.in_ok-visit.ensures.kept ∙ c.loop-head.invariant.kept;
    }

pub returns-clause-settled : goal.returns-clause-settled
returns-clause-settled g c =
    no_reader_left c.args.dependencies.now c.args.readers.now c.loop-head.progress c.loop-head.head (omega arith) c.loop-head.invariant.left
