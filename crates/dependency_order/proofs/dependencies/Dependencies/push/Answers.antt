use Rattle.std.proofs.Common.{arith, ◌≡◌, ◌++◌, ◌∷◌, [], length, sym, subst, ap, ◌∙◌, List, ℕ}
use Rattle.dependency_order.specs.Lists.{lists_of, lists_from}
use Rattle.dependency_order.specs.Dependencies.{PlainDependencies, AreBelow, StaysSmall}
use Rattle.dependency_order.proofs.Cuts.{lists_total}
use Rattle.dependency_order.proofs.Ranges.{range_more}
use Rattle.dependency_order.proofs.dependencies.Dependencies.push.Goals as goal

pub push-requires-clause-few : goal.push-requires-clause-few
push-requires-clause-few c =
    let few = subst (λ (d : PlainDependencies). StaysSmall d c.args.needs.now c.args.yields.now) (sym c.self.view_is) c.requires.small in
    omega (arith, few.more_needs, ap (λ (l : List ℕ). length l) c.in_ok-reserve.ensures.values, lists_total 0 c.self.inside.needs.ends.items c.self.inside.needs.values.items c.self.invariant.0)

pub push-requires-2-clause-few : goal.push-requires-2-clause-few
push-requires-2-clause-few c =
    let few = subst (λ (d : PlainDependencies). StaysSmall d c.args.needs.now c.args.yields.now) (sym c.self.view_is) c.requires.small in
    omega (arith, few.more_yields, ap (λ (l : List ℕ). length l) c.in_ok-reserve-2.ensures.values, lists_total 0 c.self.inside.yields.ends.items c.self.inside.yields.values.items c.self.invariant.1)

pub invariant_of-self-2 : goal.invariant_of-self-2
invariant_of-self-2 c =
    let before : PlainDependencies = record { count = c.self.inside.count; starts = c.self.inside.starts.items; needs = lists_of c.self.inside.needs; yields = lists_of c.self.inside.yields } in
    let few : StaysSmall before c.args.needs.now c.args.yields.now = subst (λ (d : PlainDependencies). StaysSmall d c.args.needs.now c.args.yields.now) (sym c.self.view_is) c.requires.small in
    let needs : AreBelow c.self.inside.count c.args.needs.now = subst (λ (d : PlainDependencies). AreBelow d.count c.args.needs.now) (sym c.self.view_is) c.requires.needs in
    let yields : AreBelow c.self.inside.count c.args.yields.now = subst (λ (d : PlainDependencies). AreBelow d.count c.args.yields.now) (sym c.self.view_is) c.requires.yields in
    let new_needs : lists_of c.push.new.self ≡ lists_of c.self.inside.needs ++ c.args.needs.now ∷ [] = c.in_ok-push.ensures.lists ∙ ap
    (λ (l : List (List ℕ)). l ++ c.args.needs.now ∷ []) (ap (λ l. lists_from 0 l c.reserve.new.self.values.items) c.in_ok-reserve.ensures.ends ∙ ap
    (λ l. lists_from 0 c.self.inside.needs.ends.items l) c.in_ok-reserve.ensures.values) in
    let new_yields : lists_of c.push-2.new.self ≡ lists_of c.self.inside.yields ++ c.args.yields.now ∷ [] = c.in_ok-push-2.ensures.lists ∙ ap
    (λ (l : List (List ℕ)). l ++ c.args.yields.now ∷ []) (ap (λ l. lists_from 0 l c.reserve-2.new.self.values.items) c.in_ok-reserve-2.ensures.ends ∙ ap
    (λ l. lists_from 0 c.self.inside.yields.ends.items l) c.in_ok-reserve-2.ensures.values) in
    (c.in_ok-push.ensures.table, c.in_ok-push-2.ensures.table, rw (new_needs, new_yields) (range_more before c.args.needs.now c.args.yields.now c.self.invariant.2 needs yields few))
