use Rattle.std.proofs.Common.{arith, ◌≡◌, ◌<◌, inr, length, get_or, List, ℕ, sym, subst, ap, ◌∙◌, [], Contains}
use Rattle.dependency_order.specs.Dependencies.{AreBelow, yields_of}
use Rattle.dependency_order.specs.Searches.{IsSearch, AreYielded, LearnsOne}
use Rattle.std.proofs.lemmas.List.Elements.{Contains-get_or}
use Rattle.dependency_order.proofs.Turns.{yielded_less, none_left}
use Rattle.dependency_order.proofs.search.spread.Goals as goal

pub learn-requires-clause-number : goal.learn-requires-clause-number
learn-requires-clause-number g c =
    let inside : c.args.item < length c.args.dependencies.now.yields = omega (arith, c.requires.item, c.requires.range.paired) in
    subst (λ (l : List ℕ). AreBelow c.args.dependencies.now.count l) (sym c.yields-number-items.ensures)
    (c.requires.range.yields_fit c.args.item [] inside) c.loop-number.number-index 0 c.loop-number-test.true

pub learn-requires-clause-yielded : goal.learn-requires-clause-yielded
learn-requires-clause-yielded g c =
    inr (
      c.args.item,
      subst (λ (l : List ℕ). Contains l c.args.item) (sym c.loop-number.invariant.order) c.requires.last,
      subst
          (λ (l : List ℕ). Contains l (get_or c.yields-number-items.result.now c.loop-number.number-index 0)) c.yields-number-items.ensures
          (Contains-get_or c.yields-number-items.result.now c.loop-number.number-index 0 c.loop-number-test.true),
    )

pub loop-number-preserved : goal.loop-number-preserved
loop-number-preserved g c =
    let numbers : List ℕ = yields_of c.args.dependencies.now c.args.item in
    let same : c.yields-number-items.result.now ≡ numbers = c.yields-number-items.ensures in
    let low : c.loop-number.number-index < length numbers = subst (λ (l : List ℕ). c.loop-number.number-index < length l) same c.loop-number-test.true in
    let learnt : LearnsOne c.loop-number.progress.known (get_or numbers c.loop-number.number-index 0) c.learn.new.progress.known = subst
    (λ (l : List ℕ). LearnsOne c.loop-number.progress.known (get_or l c.loop-number.number-index 0) c.learn.new.progress.known) same c.in_ok-learn.ensures.known in
    record {
      search = subst (λ (k : List ℕ). IsSearch c.args.dependencies.now (g.A.Agenda.allows k) c.learn.new.progress
          (g.A.Agenda.waiting c.learn.new.agenda)) c.loop-number.invariant.kept c.in_ok-learn.ensures.search;
      settled = c.in_ok-learn.ensures.settled;
      yielded = yielded_less c.args.dependencies.now numbers c.loop-number.number-index c.loop-number.progress c.learn.new.progress
          low c.in_ok-learn.ensures.order learnt c.loop-number.invariant.yielded;
      order = c.in_ok-learn.ensures.order ∙ c.loop-number.invariant.order;
      kept = c.in_ok-learn.ensures.kept ∙ c.loop-number.invariant.kept;
    }

pub returns-clause-yielded : goal.returns-clause-yielded
returns-clause-yielded g c =
    let numbers : List ℕ = yields_of c.args.dependencies.now c.args.item in
    subst (λ (l : List ℕ). AreYielded c.args.dependencies.now l c.loop-number.progress) (none_left numbers c.loop-number.number-index
    (omega (arith, ap (λ (l : List ℕ). length l) c.yields-number-items.ensures))) c.loop-number.invariant.yielded
