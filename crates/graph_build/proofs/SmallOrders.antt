-- The order in which the equations of a half adder are built.
use Rattle.std.proofs.Common.{◌≡◌, ℕ, zero, suc, ◌≤◌, ◌<◌, ◌⊎◌, inl, inr, List, [], ◌∷◌, take, refl, arith, lit≤}
use Rattle.std.specs.Prelude.{slice_index}
use Rattle.pulse_ids.specs.Lists.{occurrences}
use Rattle.pulse_ids.specs.Lists.{IsIn}
use Rattle.graph_build.specs.Orders.{IsReady, IsBuildOrder, equation_nets}
use Rattle.pulse_ids.proofs.CallerLemmasOnCounts.{occurrences-absent}
use Rattle.graph_build.specs.Examples.{adder, OrdersAreJudged}

-- nets 6 and 7 are ready at once
carry_ready : (order : List ℕ) → IsReady adder order 1
carry_ready order used (inl e) = inl (inr (inl e))
carry_ready order used (inr (inl e)) = inl (inr (inr (inl e)))
carry_ready order used (inr (inr i)) = absurd i

none_ready : (order : List ℕ) → IsReady adder order 2
none_ready order used (inl e) = inl (inr (inl e))
none_ready order used (inr (inl e)) = inl (inr (inr (inl e)))
none_ready order used (inr (inr i)) = absurd i

-- net 3 isn't, before both are built
sum_lacks_carry : IsReady adder [] 0 → ⊥
sum_lacks_carry ready = go (ready 6 (inl refl))
  where
    go : (IsIn {X = ℕ} 6 (0 ∷ 1 ∷ 2 ∷ []) ⊎ ⊥) → ⊥
    go (inl (inl e)) = omega (arith, e)
    go (inl (inr (inl e))) = omega (arith, e)
    go (inl (inr (inr (inl e)))) = omega (arith, e)
    go (inl (inr (inr (inr i)))) = i
    go (inr i) = i

sum_lacks_none : IsReady adder (1 ∷ []) 0 → ⊥
sum_lacks_none ready = go (ready 7 (inr (inl refl)))
  where
    go : (IsIn {X = ℕ} 7 (0 ∷ 1 ∷ 2 ∷ []) ⊎ IsIn {X = ℕ} 7 (6 ∷ [])) → ⊥
    go (inl (inl e)) = omega (arith, e)
    go (inl (inr (inl e))) = omega (arith, e)
    go (inl (inr (inr (inl e)))) = omega (arith, e)
    go (inl (inr (inr (inr i)))) = i
    go (inr (inl e)) = omega (arith, e)
    go (inr (inr i)) = i

sum_ready : IsReady adder (1 ∷ 2 ∷ []) 0
sum_ready used (inl e) = inr (inl e)
sum_ready used (inr (inl e)) = inr (inr (inl e))
sum_ready used (inr (inr i)) = absurd i

in_range : (equation : ℕ) → IsIn equation (1 ∷ 2 ∷ 0 ∷ []) → equation < 3
in_range equation (inl e) = omega (arith, e)
in_range equation (inr (inl e)) = omega (arith, e)
in_range equation (inr (inr (inl e))) = omega (arith, e)
in_range equation (inr (inr (inr i))) = absurd i

complete : (equation : ℕ) → equation < 3 → IsIn equation (1 ∷ 2 ∷ 0 ∷ [])
complete zero lt = inr (inr (inl refl))
complete (suc zero) lt = inl refl
complete (suc (suc zero)) lt = inr (inl refl)
complete (suc (suc (suc n))) lt = absurd (omega arith)

once : (equation : ℕ) → occurrences equation (1 ∷ 2 ∷ 0 ∷ []) ≤ 1
once zero = lit≤ tt
once (suc zero) = lit≤ tt
once (suc (suc zero)) = lit≤ tt
once (suc (suc (suc n))) =
    let absent : occurrences (suc (suc (suc n))) (1 ∷ 2 ∷ 0 ∷ []) ≡ 0 =
    occurrences-absent (suc (suc (suc n))) (1 ∷ 2 ∷ 0 ∷ []) (λ i. let low = in_range (suc (suc (suc n))) i in omega (arith, low)) in
    omega (arith, absent)

ready : (place : ℕ) → place < 3 → IsReady adder (take place (1 ∷ 2 ∷ 0 ∷ [])) (slice_index (1 ∷ 2 ∷ 0 ∷ []) place)
ready zero lt = carry_ready []
ready (suc zero) lt = none_ready (1 ∷ [])
ready (suc (suc zero)) lt = sum_ready
ready (suc (suc (suc n))) lt = absurd (omega arith)

lowest : (place other : ℕ) → place < 3 → other < 3 → (IsIn other (take place (1 ∷ 2 ∷ 0 ∷ [])) → ⊥) → IsReady adder (take place (1 ∷ 2 ∷ 0 ∷ [])) other
    → slice_index (equation_nets adder) (slice_index (1 ∷ 2 ∷ 0 ∷ []) place) ≤ slice_index (equation_nets adder) other
lowest zero zero lt below out r = absurd (sum_lacks_carry r)
lowest zero (suc zero) lt below out r = lit≤ tt
lowest zero (suc (suc zero)) lt below out r = lit≤ tt
lowest (suc zero) zero lt below out r = absurd (sum_lacks_none r)
lowest (suc zero) (suc zero) lt below out r = absurd (out (inl refl))
lowest (suc zero) (suc (suc zero)) lt below out r = lit≤ tt
lowest (suc (suc zero)) zero lt below out r = lit≤ tt
lowest (suc (suc zero)) (suc zero) lt below out r = lit≤ tt
lowest (suc (suc zero)) (suc (suc zero)) lt below out r = lit≤ tt
lowest (suc (suc (suc n))) other lt below out r = absurd (omega arith)
lowest place (suc (suc (suc n))) lt below out r = absurd (omega arith)

higher_first : IsBuildOrder adder (2 ∷ 1 ∷ 0 ∷ []) → ⊥
higher_first h =
    let le : 7 ≤ 6 = h.lowest 0 1 (lit≤ tt) (lit≤ tt) (λ i. i) (carry_ready []) in omega (arith, le)

sum_first : IsBuildOrder adder (0 ∷ 1 ∷ 2 ∷ []) → ⊥
sum_first h = sum_lacks_carry (h.ready 0 (lit≤ tt))

pub orders_are_judged : OrdersAreJudged
orders_are_judged = record {
  lowest_first = record {
    in_range = in_range;
    complete = complete;
    once = once;
    ready = ready;
    lowest = lowest;
  };
  higher_first = higher_first;
  sum_first = sum_first;
}
