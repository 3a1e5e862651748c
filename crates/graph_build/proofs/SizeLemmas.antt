-- The equations of an order need at most as many conjunctions as the machine has cubes and literals.
use Rattle.std.proofs.Common.{◌≡◌, ◌≢◌, ℕ, zero, suc, ◌+◌, ◌≤◌, ◌<◌, inl, inr, List, [], ◌∷◌, length, map, get_or, set, if◌then◌else◌, refl, ◌∙◌, ap, subst, arith, eq-eqb}
use Rattle.std.proofs.lemmas.List.{length-set, get_or-set_other, length-map}
use Rattle.source_machine.specs.Machines.{PlainEquation, PlainMachine}
use Rattle.pulse_ids.specs.Lists.{occurrences}
use Rattle.pulse_ids.specs.Lists.{IsIn}
use Rattle.source_machine.specs.Fitting.{size_of_cubes, size_of_equations, size_of}
use Rattle.graph_build.specs.Orders.{IsBuildOrder}
use Rattle.graph_build.specs.Sizes.{equation_sizes, sum_at}

-- the sum of all sizes
abbrev total : List ℕ → ℕ
total [] = 0
total (size ∷ sizes) = size + total sizes

total_without : (sizes : List ℕ) (i : ℕ) → i < length sizes → total (set sizes i 0) + get_or sizes i 0 ≡ total sizes
total_without [] i lt = absurd (omega arith)
total_without (size ∷ sizes) zero lt = omega arith
total_without (size ∷ sizes) (suc i) lt = let h = total_without sizes i (omega arith) in omega (arith, h)

times_here : (n : ℕ) (order : List ℕ) → occurrences n (n ∷ order) ≡ 1 + occurrences n order
times_here n order = ap (λ t. (if t then 1 else 0) + occurrences n order) (eq-eqb n n refl)

sum_without : (sizes order : List ℕ) (i : ℕ) → occurrences i order ≡ 0 → sum_at (set sizes i 0) order ≡ sum_at sizes order
sum_without sizes [] i none = refl
sum_without sizes (number ∷ order) i none =
    let apart : number ≢ i = λ e. omega (arith, none, subst (λ n. occurrences n (number ∷ order) ≡ 1 + occurrences n order) e (times_here number order)) in
    let rest : occurrences i order ≡ 0 = omega (arith, none) in
    ap (λ n. n + sum_at (set sizes i 0) order) (get_or-set_other sizes i number 0 0 apart) ∙ ap (λ n. get_or sizes number 0 + n) (sum_without sizes order i rest)

sum_within : (order sizes : List ℕ) → ((n : ℕ) → IsIn n order → n < length sizes) → ((n : ℕ) → occurrences n order ≤ 1) → sum_at sizes order ≤ total sizes
sum_within [] sizes fit once = omega arith
sum_within (number ∷ order) sizes fit once =
    let here : number < length sizes = fit number (inl refl) in
    let none : occurrences number order ≡ 0 = omega (arith, times_here number order, once number) in
    let rest = sum_within order (set sizes number 0) (λ n i. omega (arith, fit n (inr i), length-set sizes number 0)) (λ n. omega (arith, once n)) in
    omega (arith, rest, total_without sizes number here, sum_without sizes order number none)

total_is : (equations : List PlainEquation) → total (map (λ equation. size_of_cubes equation.cubes) equations) ≡ size_of_equations equations
total_is [] = refl
total_is (equation ∷ equations) = ap (λ n. size_of_cubes equation.cubes + n) (total_is equations)

pub order_within : (machine : PlainMachine) (order : List ℕ) → IsBuildOrder machine order → sum_at (equation_sizes machine) order ≤ size_of machine
order_within machine order h =
    let sum = sum_within order (equation_sizes machine) (λ n i. omega (arith, h.in_range n i, length-map machine.equations (λ equation. size_of_cubes equation.cubes))) h.once in
    omega (arith, sum, total_is machine.equations)
