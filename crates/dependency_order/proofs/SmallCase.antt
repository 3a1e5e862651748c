-- The orders of three items.
use Rattle.std.proofs.Common.{◌≡◌, ℕ, zero, suc, ◌≤◌, ◌<◌, inl, inr, [], ◌∷◌, take, subst, arith, Contains}
use Rattle.std.specs.Prelude.{slice_index}
use Rattle.dependency_order.specs.Orders.{Reached, at_start, by_item, Reaches, IsReady, IsOrder}
use Rattle.dependency_order.specs.Searches.{times_in}
use Rattle.dependency_order.specs.Examples.{three_items}
use Rattle.dependency_order.proofs.Members.{Contains-nil, Contains-first, Contains-later, Contains-cons_cases, times_in-other, distinct_by_times}

only_one : (x y : ℕ) → Contains (y ∷ []) x → y ≡ x
only_one x y h = elim (Contains-cons_cases x y [] h) [ inl e ↦ e | inr i ↦ absurd (Contains-nil x i) ]

-- the least set has no number above 2
low : (number : ℕ) → Reached three_items number → number ≤ 2
low _ (at_start number i) = omega (arith, only_one number 0 i)
low _ (by_item number zero lt all i) = omega (arith, only_one number 1 i)
low _ (by_item number (suc zero) lt all i) = omega (arith, only_one number 2 i)
low _ (by_item number (suc (suc zero)) lt all i) = absurd (omega (arith, low 3 (all 3 (Contains-first 3 []))))
low _ (by_item number (suc (suc (suc item))) lt all i) = absurd (omega (arith, lt))

pub three_circle : Reached three_items 3 → ⊥
three_circle h = omega (arith, low 3 h)

zero_reached : Reached three_items 0
zero_reached = at_start 0 (Contains-first 0 [])

two_reached : Reached three_items 2
two_reached =
    by_item 2 1 (omega arith) (λ used i. subst (λ n. Reached three_items n) (only_one used 0 i) zero_reached) (Contains-first 2 [])

comes : (item : ℕ) → Reaches three_items item → Contains (1 ∷ 0 ∷ []) item
comes zero r = Contains-later 0 1 (0 ∷ []) (Contains-first 0 [])
comes (suc zero) r = Contains-first 1 (0 ∷ [])
comes (suc (suc zero)) r = absurd (three_circle (r.1 3 (Contains-first 3 [])))
comes (suc (suc (suc item))) r = absurd (omega (arith, r.0))

reaches_zero : Reaches three_items 0
reaches_zero = (omega arith, λ used i. subst (λ n. Reached three_items n) (only_one used 2 i) two_reached)

reaches_one : Reaches three_items 1
reaches_one = (omega arith, λ used i. subst (λ n. Reached three_items n) (only_one used 0 i) zero_reached)

reaches : (item : ℕ) → Contains (1 ∷ 0 ∷ []) item → Reaches three_items item
reaches item h = elim (Contains-cons_cases item 1 (0 ∷ []) h) [
  | inl e ↦ subst (λ n. Reaches three_items n) e reaches_one
  | inr i ↦ subst (λ n. Reaches three_items n) (only_one item 0 i) reaches_zero
]

ready : (place : ℕ) → place < 2 → IsReady three_items (take place (1 ∷ 0 ∷ [])) (slice_index (1 ∷ 0 ∷ []) place)
ready zero lt used i = inl (subst (λ n. Contains (0 ∷ []) n) (only_one used 0 i) (Contains-first 0 []))
ready (suc zero) lt used i =
    inr (1, Contains-first 1 [], subst (λ n. Contains (2 ∷ []) n) (only_one used 2 i) (Contains-first 2 []))
ready (suc (suc place)) lt used i = absurd (omega arith)

once : (n : ℕ) → times_in n (1 ∷ 0 ∷ []) ≤ 1
once zero = omega arith
once (suc zero) = omega arith
once (suc (suc n)) =
    omega (arith, times_in-other (suc (suc n)) 1 (0 ∷ []) (λ e. absurd (omega (arith, e))), times_in-other (suc (suc n)) 0 [] (λ e. absurd (omega (arith, e))))

pub three_in_order : IsOrder three_items (1 ∷ 0 ∷ [])
three_in_order = record { once = distinct_by_times (1 ∷ 0 ∷ []) once; ready = ready; exact = λ item. (reaches item, comes item) }

-- nothing that comes before item 0 makes 2
pub three_other_way : IsOrder three_items (0 ∷ 1 ∷ []) → ⊥
three_other_way h = elim (h.ready 0 (omega arith) 2 (Contains-first 2 [])) [
  | inl s ↦ omega (arith, only_one 2 0 s)
  | inr y ↦ Contains-nil y.0 y.1
]
