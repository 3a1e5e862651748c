-- The leaves of all rails, and the readers of all rails, where those of one rail change.
use Rattle.std.proofs.Common.{◌≡◌, ◌≤◌, ◌<◌, ◌+◌, ℕ, zero, suc, List, [], ◌∷◌, length, get_or, set, refl, arith}
use Rattle.std.specs.List.{flat_map}
use Rattle.pulse_ids.specs.Lists.{IsIn, occurrences}
use Rattle.rail_mapper.specs.Drafts.{total}
use Rattle.pulse_ids.proofs.CallerLemmasOnCounts.{IsIn-occurrences, occurrences-append}

abbrev pub all_of : List (List ℕ) → List ℕ
all_of stock = flat_map (λ (wires : List ℕ). wires) stock

pub all_of-set : (stock : List (List ℕ)) (rail : ℕ) (leaves : List ℕ) (wire : ℕ) → rail < length stock
    → occurrences wire (all_of (set stock rail leaves)) + occurrences wire (get_or stock rail []) ≡ occurrences wire (all_of stock) + occurrences wire leaves
all_of-set [] rail leaves wire low = absurd (omega arith)
all_of-set (first ∷ stock) zero leaves wire low =
    let a = occurrences-append wire first (all_of stock) in let b = occurrences-append wire leaves (all_of stock) in omega arith
all_of-set (first ∷ stock) (suc rail) leaves wire low =
    let r = all_of-set stock rail leaves wire (omega arith) in
    let a = occurrences-append wire first (all_of stock) in let b = occurrences-append wire first (all_of (set stock rail leaves)) in omega arith

-- a rail that has leaves is one of the stock's
pub has_place : (stock : List (List ℕ)) (rail wire : ℕ) (rest : List ℕ) → get_or stock rail [] ≡ wire ∷ rest → rail < length stock
has_place [] rail wire rest e = absurd cc
has_place (first ∷ stock) zero wire rest e = omega arith
has_place (first ∷ stock) (suc rail) wire rest e = let h = has_place stock rail wire rest e in omega arith

-- with no leaves of any rail none is open
pub none_open : (stock : List (List ℕ)) → ((rail : ℕ) → length (get_or stock rail []) ≡ 0) → all_of stock ≡ []
none_open [] none = refl
none_open ([] ∷ stock) none = none_open stock (λ rail. none (suc rail))
none_open ((wire ∷ wires) ∷ stock) none = let e = none 0 in absurd (omega arith)

pub sum-set_zero : (counts : List ℕ) (rail : ℕ) → rail < length counts → total (set counts rail 0) + get_or counts rail 0 ≡ total counts
sum-set_zero [] rail low = absurd (omega arith)
sum-set_zero (first ∷ counts) zero low = omega arith
sum-set_zero (first ∷ counts) (suc rail) low = let r = sum-set_zero counts rail (omega arith) in omega arith

pub counted_place : (counts : List ℕ) (rail : ℕ) → 1 ≤ get_or counts rail 0 → rail < length counts
counted_place [] rail some = absurd (omega arith)
counted_place (first ∷ counts) zero some = omega arith
counted_place (first ∷ counts) (suc rail) some = let r = counted_place counts rail some in omega arith

pub at_most_total : (counts : List ℕ) (rail : ℕ) → get_or counts rail 0 ≤ total counts
at_most_total [] rail = omega arith
at_most_total (first ∷ counts) zero = omega arith
at_most_total (first ∷ counts) (suc rail) = let r = at_most_total counts rail in omega arith

-- a leaf of a rail is one of all leaves
pub among_all : (stock : List (List ℕ)) (rail wire : ℕ) → IsIn wire (get_or stock rail []) → 1 ≤ occurrences wire (all_of stock)
among_all [] rail wire m = absurd m
among_all (first ∷ stock) zero wire m = let a = occurrences-append wire first (all_of stock) in let o = IsIn-occurrences wire first m in omega arith
among_all (first ∷ stock) (suc rail) wire m = let a = occurrences-append wire first (all_of stock) in let r = among_all stock rail wire m in omega arith
