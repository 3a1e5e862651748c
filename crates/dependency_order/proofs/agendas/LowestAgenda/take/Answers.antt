use Rattle.std.proofs.Common.{◌≡◌, ℕ, subst, map, heap_items, ◌∷◌, Contains, IsPermutation}
use Rattle.std.specs.Prelude.{slice_index}
use Rattle.std.proofs.lemmas.List.Sorted.{All-permutation, IsPermutation-map}
use Rattle.std.proofs.lemmas.List.Elements.{All-head, All-tail}
use Rattle.std.specs.Ordering.{nat_cmp, ordering_then}
use Rattle.std.specs.declared.cmp.Reverse.{Reverse}
use Rattle.dependency_order.specs.declared.agendas.Turn.{Turn}
use Rattle.dependency_order.specs.Agendas.{AllowsLowest, PlainLowest}
use Rattle.dependency_order.proofs.Heaps.{lowest_first, key_first}
use Rattle.dependency_order.proofs.agendas.LowestAgenda.take.Goals as goal

pub invariant_of-self-2 : goal.invariant_of-self-2
invariant_of-self-2 c =
    let all = All-permutation (λ turn. turn.0.key ≡ slice_index c.self.inside.keys.items turn.0.item) (heap_items c.self.inside.heap) _ c.in-Some.ensures.permutation c.self.invariant.1 in
    ((c.in-Some.ensures.heap_order c.self.invariant.0).0, All-tail (λ turn. turn.0.key ≡ slice_index c.self.inside.keys.items turn.0.item) c.in-Some.turn (heap_items c.pop.new.self) all)

pub returns-clause-taken : goal.returns-clause-taken
returns-clause-taken c =
    subst (λ (s : PlainLowest). IsPermutation s.waiting (c.in-Some.turn.0.item ∷ map (λ turn. turn.0.item) (heap_items c.pop.new.self))) c.self.view_is
    (IsPermutation-map (λ turn. turn.0.item) (heap_items c.self.inside.heap) (c.in-Some.turn ∷ heap_items c.pop.new.self) c.in-Some.ensures.permutation)

pub returns-clause-allowed : goal.returns-clause-allowed
returns-clause-allowed c =
    let all = All-permutation (λ turn. turn.0.key ≡ slice_index c.self.inside.keys.items turn.0.item) (heap_items c.self.inside.heap) _ c.in-Some.ensures.permutation c.self.invariant.1 in
    subst (λ (s : PlainLowest). (other : ℕ) → Contains s.waiting other → AllowsLowest s.keys c.in-Some.turn.0.item other) c.self.view_is
    (lowest_first (λ turn. turn.0.item) (λ (x y : Reverse Turn). ordering_then (nat_cmp y.0.key x.0.key) (nat_cmp y.0.item x.0.item))
    (λ turn. turn.0.key) c.self.inside.keys.items (λ x y e. key_first x.0.key y.0.key x.0.item y.0.item e) c.in-Some.turn (heap_items c.self.inside.heap)
    (All-head (λ turn. turn.0.key ≡ slice_index c.self.inside.keys.items turn.0.item) c.in-Some.turn (heap_items c.pop.new.self) all) c.self.invariant.1
    (c.in-Some.ensures.heap_order c.self.invariant.0).1)
