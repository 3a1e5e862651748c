use Rattle.std.proofs.Common.{List, Bool, ℕ, sym, subst}
use Rattle.dependency_order.specs.Orders.{IsOrderOf, IsChosen}
use Rattle.dependency_order.specs.Searches.{IsSearch}
use Rattle.dependency_order.proofs.Turns.{begins, begun_yielded, is_order_of}
use Rattle.dependency_order.proofs.orders.order_of.Goals as goal

pub visit_all-requires-clause-search : goal.visit_all-requires-clause-search
visit_all-requires-clause-search g c =
    subst (λ (w : List ℕ). IsSearch c.args.dependencies.now (g.A.Agenda.allows (g.A.Agenda.keys c.args.agenda)) c.in_ok-progress.progress w) (sym c.requires.none)
    (begins c.args.dependencies.now _ c.range.ensures c.in_ok-progress.progress c.in_ok-progress.ensures)

pub take_all-requires-clause-yielded : goal.take_all-requires-clause-yielded
take_all-requires-clause-yielded g c =
    begun_yielded c.args.dependencies.now (g.A.Agenda.allows
    (g.A.Agenda.keys c.args.agenda)) c.in_ok-progress.progress c.visit_all.new.progress c.in_ok-progress.ensures c.in_ok-visit_all.ensures.steps.order

pub take_all-requires-clause-search : goal.take_all-requires-clause-search
take_all-requires-clause-search g c =
    subst (λ (k : List ℕ). IsSearch c.args.dependencies.now (g.A.Agenda.allows k) c.visit_all.new.progress (g.A.Agenda.waiting c.visit_all.new.agenda))
    (sym c.in_ok-visit_all.ensures.kept) c.in_ok-visit_all.ensures.steps.search

pub returns-clause-order : goal.returns-clause-order
returns-clause-order g c =
    subst (λ (l : List ℕ). IsOrderOf c.args.dependencies.now (record { items = l; known = c.into_parts-items.result.1.items })) (sym c.into_parts-items.ensures.order)
    (subst (λ (k : List Bool). IsOrderOf c.args.dependencies.now (record { items = c.take_all.new.progress.order; known = k })) (sym c.into_parts-items.ensures.known)
    (is_order_of c.args.dependencies.now _ c.take_all.new.progress c.in_ok-take_all.ensures))

pub returns-clause-chosen : goal.returns-clause-chosen
returns-clause-chosen g c =
    subst (λ (l : List ℕ). IsChosen (g.A.Agenda.allows (g.A.Agenda.keys c.args.agenda)) c.args.dependencies.now l) (sym c.into_parts-items.ensures.order)
    (subst (λ (k : List ℕ). IsChosen (g.A.Agenda.allows k) c.args.dependencies.now c.take_all.new.progress.order) c.in_ok-visit_all.ensures.kept c.in_ok-take_all.ensures.search.chosen)
