use Rattle.std.proofs.Common.{List, ℕ, sym, subst, ◌∙◌, Contains}
use Rattle.dependency_order.specs.Dependencies.{yields_of}
use Rattle.dependency_order.specs.Searches.{Stage, IsSearch, AllSettled, AreYielded}
use Rattle.std.proofs.lemmas.List.Elements.{Contains-push}
use Rattle.dependency_order.proofs.Turns.{taken_in_range, put_keeps, put_settled, put_yielded}
use Rattle.dependency_order.proofs.search.take_all.Goals as goal

pub spread-requires-clause-item : goal.spread-requires-clause-item
spread-requires-clause-item g c =
    taken_in_range c.args.dependencies.now _ c.loop-item.progress _ c.loop-item.invariant.search c.in-Some.item _ c.in-Some.ensures.taken

pub spread-requires-clause-last : goal.spread-requires-clause-last
spread-requires-clause-last g c =
    subst (λ (s : Stage). Contains s.order c.in-Some.item) (sym c.in_ok-put.ensures) (Contains-push c.loop-item.progress.order c.in-Some.item)

pub spread-requires-clause-search : goal.spread-requires-clause-search
spread-requires-clause-search g c =
    let before = c.loop-item.invariant in
    let first = λ (other : ℕ) (i : Contains (g.A.Agenda.waiting c.loop-item.agenda) other). subst
    (λ (k : List ℕ). g.A.Agenda.allows k c.in-Some.item other) before.kept (c.in-Some.ensures.allowed other i) in
    subst (λ (k : List ℕ). IsSearch c.args.dependencies.now (g.A.Agenda.allows k) c.put.new.self (g.A.Agenda.waiting c.take.new.self))
    (sym (c.take.ensures.kept ∙ before.kept))
    (subst
    (λ (s : Stage). IsSearch c.args.dependencies.now (g.A.Agenda.allows (g.A.Agenda.keys c.args.agenda.now)) s (g.A.Agenda.waiting c.take.new.self))
    (sym c.in_ok-put.ensures)
    (put_keeps c.args.dependencies.now _ c.loop-item.progress _ before.search c.in-Some.item _ c.in-Some.ensures.taken before.settled before.yielded first))

pub spread-requires-clause-settled : goal.spread-requires-clause-settled
spread-requires-clause-settled g c =
    let before = c.loop-item.invariant in
    subst (λ (s : Stage). AllSettled c.args.dependencies.now s) (sym c.in_ok-put.ensures)
    (put_settled c.args.dependencies.now _ c.loop-item.progress _ before.search c.in-Some.item _ c.in-Some.ensures.taken before.settled)

pub spread-requires-clause-yielded : goal.spread-requires-clause-yielded
spread-requires-clause-yielded g c =
    let before = c.loop-item.invariant in
    subst (λ (s : Stage). AreYielded c.args.dependencies.now (yields_of c.args.dependencies.now c.in-Some.item) s) (sym c.in_ok-put.ensures)
    (put_yielded c.args.dependencies.now _ c.loop-item.progress _ before.search c.in-Some.item _ c.in-Some.ensures.taken before.yielded)
