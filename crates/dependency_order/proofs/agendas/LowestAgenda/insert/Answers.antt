use Rattle.std.proofs.Common.{◌≡◌, List, ℕ, sym, subst, ◌∙◌, ap, map, heap_items, ◌∷◌, IsPermutation}
use Rattle.std.specs.Prelude.{slice_index}
use Rattle.std.proofs.lemmas.List.Sorted.{All-permutation, IsPermutation-map}
use Rattle.std.proofs.lemmas.List.Elements.{All-cons}
use Rattle.dependency_order.specs.declared.agendas.Turn.{Turn}
use Rattle.dependency_order.specs.Agendas.{PlainLowest}
use Rattle.dependency_order.proofs.agendas.LowestAgenda.insert.Goals as goal

pub invariant_of-self-2 : goal.invariant_of-self-2
invariant_of-self-2 c =
    let keys : List ℕ = c.self.inside.keys.items in
    let key : c.turn_of.result.key ≡ slice_index keys c.turn_of.result.item =
    ap (λ (t : Turn). t.key) c.turn_of.ensures ∙ ap (λ (l : List ℕ). slice_index l c.args.item) c.deref.ensures.value
    ∙ ap (λ n. slice_index keys n) (sym (ap (λ (t : Turn). t.item) c.turn_of.ensures)) in (
      c.in_ok-push.ensures.heap_order c.self.invariant.0,
      All-permutation (λ turn. turn.0.key ≡ slice_index keys turn.0.item) _ (heap_items c.push.new.self)
          c.in_ok-push.ensures.permutation
          (All-cons (λ turn. turn.0.key ≡ slice_index keys turn.0.item) _ (heap_items c.self.inside.heap) key c.self.invariant.1),
    )

pub returns-clause-more : goal.returns-clause-more
returns-clause-more c =
    let more : List ℕ = map (λ turn. turn.0.item) (heap_items c.push.new.self) in
    subst (λ (s : PlainLowest). IsPermutation (c.args.item ∷ s.waiting) more) c.self.view_is
    (subst (λ (n : ℕ). IsPermutation (n ∷ map (λ turn. turn.0.item) (heap_items c.self.inside.heap)) more)
    (ap (λ (t : Turn). t.item) c.turn_of.ensures)
    (IsPermutation-map (λ turn. turn.0.item) (_ ∷ heap_items c.self.inside.heap) (heap_items c.push.new.self)
    c.in_ok-push.ensures.permutation))
