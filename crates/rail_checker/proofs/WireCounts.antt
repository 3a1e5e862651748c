-- Counts of wires.
use Rattle.std.proofs.Common.{◌≡◌, ◌≢◌, ℕ, zero, suc, ◌+◌, ◌≤◌, ◌<◌, ◌⊎◌, inl, inr, List, [], ◌∷◌, ◌++◌, length, drop, map, get_or, replicate, min, true, ◌==◌, nat_le, Option, Some, slice_get}
use Rattle.std.proofs.Common.{refl, sym, ◌∙◌, ap, subst, arith, eq-eqb}
use Rattle.std.specs.List.{flat_map, position}
use Rattle.std.proofs.lemmas.Bool.{eqb-true, cases_eq}
use Rattle.std.proofs.lemmas.List.{get_or-set_same, get_or-set_other, length-set, get_or-replicate, length-replicate}
use Rattle.pulse_ids.specs.Lists.{occurrences}
use Rattle.pulse_ids.proofs.CallerLemmasOnCounts.{occurrences-head, occurrences-other}
use Rattle.pulse_ids.specs.Ids.{numbered}
use Rattle.cell_netlist.specs.declared.unsound.Unsound.TheVariants.{WireUndriven, WireTwiceDriven, WireUnread, WireTwiceRead}
use Rattle.cell_netlist.specs.Netlists.{PlainNetlist, wire_bound, driven, read, number_of_wires}
use Rattle.cell_netlist.specs.Sound.{Breaks}
use Rattle.cell_netlist.proofs.CallerLemmas.{wire_bound-append, driven_within, read_within}
use Rattle.rail_checker.specs.Counts.{Counts, with_wire, with_wires}
use Rattle.rail_checker.specs.Verdicts.{IsFirst}
use Rattle.rail_checker.proofs.Refusing.{first_is}

pub width : (counts wires : List ℕ) → length (with_wires counts wires) ≡ length counts
width counts [] = refl
width counts (wire ∷ wires) = width (with_wire counts wire) wires ∙ length-set counts wire _

pub width-one : (counts : List ℕ) (wire : ℕ) → length (with_wire counts wire) ≡ length counts
width-one counts wire = length-set counts wire _

pub with_wires-append : (counts xs ys : List ℕ) → with_wires counts (xs ++ ys) ≡ with_wires (with_wires counts xs) ys
with_wires-append counts [] ys = refl
with_wires-append counts (x ∷ xs) ys = with_wires-append (with_wire counts x) xs ys

counted : (counts wires : List ℕ) (n : ℕ) → n < length counts → get_or counts n 0 ≤ 255
    → get_or (with_wires counts wires) n 0 ≡ min (get_or counts n 0 + occurrences n wires) 255
counted counts [] n lt le = omega arith
counted counts (wire ∷ wires) n lt le = go (cases_eq wire n) (counted (with_wire counts wire) wires n (omega (arith, width-one counts wire)))
  where
    go : (wire ≡ n) ⊎ (wire ≢ n)
        → (get_or (with_wire counts wire) n 0 ≤ 255 → get_or (with_wires (with_wire counts wire) wires) n 0 ≡ min (get_or (with_wire counts wire) n 0 + occurrences n wires) 255)
        → get_or (with_wires counts (wire ∷ wires)) n 0 ≡ min (get_or counts n 0 + occurrences n (wire ∷ wires)) 255
    go (inl e) rest =
        let here : get_or (with_wire counts wire) n 0 ≡ min (get_or counts n 0 + 1) 255 = rw e (get_or-set_same counts n _ 0 lt) in
        let r = rest (omega (arith, here)) in
        let more = occurrences-head n wire wires e in
        omega (arith, r, here, more)
    go (inr ne) rest =
        let here : get_or (with_wire counts wire) n 0 ≡ get_or counts n 0 = get_or-set_other counts wire n _ 0 (λ e. ne (sym e)) in
        let r = rest (omega (arith, here)) in
        let more = occurrences-other n wire wires ne in
        omega (arith, r, here, more)

-- counting from 0 on
pub all_counted : (bound : ℕ) (wires : List ℕ) → Counts bound wires (with_wires (replicate bound 0) wires)
all_counted bound wires = record {
  width = width (replicate bound 0) wires ∙ length-replicate {A = ℕ} bound 0;
  counted = λ n lt.
      let none : get_or (replicate {A = ℕ} bound 0) n 0 ≡ 0 = get_or-replicate bound n 0 0 lt in
      let all = counted (replicate bound 0) wires n (omega (arith, length-replicate {A = ℕ} bound 0)) (omega (arith, none)) in
      omega (arith, all, none);
}

-- the counts from one place of a list of lists on
pub next_wires : {X : Type 0} (f : X → List ℕ) (xs : List X) (i : ℕ) (x : X) (counts : List ℕ) → slice_get xs i ≡ Some x
    → with_wires (with_wires counts (f x)) (flat_map f (drop (i + 1) xs)) ≡ with_wires counts (flat_map f (drop i xs))
next_wires f [] i x counts e = absurd cc
next_wires f (y ∷ xs) zero x counts e = let same : y ≡ x = cc in rw same (sym (with_wires-append counts (f x) (flat_map f xs)))
next_wires f (y ∷ xs) (suc i) x counts e =
    let next : suc i + 1 ≡ suc (i + 1) = omega arith in
    subst (λ k. with_wires (with_wires counts (f x)) (flat_map f (drop k (y ∷ xs))) ≡ with_wires counts (flat_map f (drop i xs))) (sym next) (next_wires f xs i x counts e)

pub bound_at : {X : Type 0} (f : X → List ℕ) (xs : List X) (i : ℕ) (x : X) → slice_get xs i ≡ Some x → wire_bound (f x) ≤ wire_bound (flat_map f xs)
bound_at f [] i x e = absurd cc
bound_at f (y ∷ xs) zero x e = let same : y ≡ x = cc in rw same (omega (arith, wire_bound-append (f x) (flat_map f xs)))
bound_at f (y ∷ xs) (suc i) x e = let r = bound_at f xs i x e in omega (arith, wire_bound-append (f y) (flat_map f xs))

-- the same for one wire an item
pub next_wire : {X : Type 0} (f : X → ℕ) (xs : List X) (i : ℕ) (x : X) (counts : List ℕ) → slice_get xs i ≡ Some x
    → with_wires (with_wire counts (f x)) (map f (drop (i + 1) xs)) ≡ with_wires counts (map f (drop i xs))
next_wire f [] i x counts e = absurd cc
next_wire f (y ∷ xs) zero x counts e = let same : y ≡ x = cc in rw same refl
next_wire f (y ∷ xs) (suc i) x counts e =
    let next : suc i + 1 ≡ suc (i + 1) = omega arith in
    subst (λ k. with_wires (with_wire counts (f x)) (map f (drop k (y ∷ xs))) ≡ with_wires counts (map f (drop i xs))) (sym next) (next_wire f xs i x counts e)

pub wire_at : {X : Type 0} (f : X → ℕ) (xs : List X) (i : ℕ) (x : X) → slice_get xs i ≡ Some x → f x < wire_bound (map f xs)
wire_at f [] i x e = absurd cc
wire_at f (y ∷ xs) zero x e = let same : y ≡ x = cc in rw same (omega arith)
wire_at f (y ∷ xs) (suc i) x e = let r = wire_at f xs i x e in omega arith

at_two : (n : ℕ) → nat_le 2 (min n 255) ≡ true → 2 ≤ n
at_two n e = grind arith

from_two : (n m : ℕ) → m ≡ min n 255 → 2 ≤ n → nat_le 2 m ≡ true
from_two n m e h = grind arith

at_none : (n m : ℕ) → m ≡ min n 255 → (m == 0) ≡ true → n ≡ 0
at_none n m e t = let z : m ≡ 0 = eqb-true m 0 t in omega arith

pub none_first : (bound : ℕ) (numbers counts : List ℕ) → Counts bound numbers counts
    → IsFirst (λ n. (n < bound) × (occurrences n numbers ≡ 0)) (position (λ count. count == 0) counts)
none_first bound numbers counts h =
    first_is (λ n. (n < bound) × (occurrences n numbers ≡ 0)) (λ count. count == 0) counts 0
    (λ k lt e. let l : k < bound = omega (arith, h.width) in (l, at_none (occurrences k numbers) (get_or counts k 0) (h.counted k l) e))
    (λ k none. (omega (arith, h.width, none.0), eq-eqb (get_or counts k 0) 0 (omega (arith, h.counted k none.0, none.1))))

pub two_first : (bound : ℕ) (numbers counts : List ℕ) → ((n : ℕ) → 1 ≤ occurrences n numbers → n < bound) → Counts bound numbers counts
    → IsFirst (λ n. 2 ≤ occurrences n numbers) (position (λ n. nat_le 2 n) counts)
two_first bound numbers counts fit h =
    first_is (λ n. 2 ≤ occurrences n numbers) (λ n. nat_le 2 n) counts 0
    (λ k lt e. at_two (occurrences k numbers) (ap (λ n. nat_le 2 n) (sym (h.counted k (omega (arith, h.width)))) ∙ e))
    (λ k twice. let lt = fit k (omega (arith, twice)) in (omega (arith, h.width), from_two (occurrences k numbers) (get_or counts k 0) (h.counted k lt) twice))

-- The lowest wire at which each rule on wires is broken.
module _ (net : PlainNetlist) (counts : List ℕ) where
  pub first_undriven : Counts (number_of_wires net) (driven net) counts → (found : Option ℕ) → found ≡ position (λ count. count == 0) counts
      → IsFirst (λ n. Breaks net (WireUndriven (numbered n))) found
  first_undriven h found e = subst (λ f. IsFirst (λ n. Breaks net (WireUndriven (numbered n))) f) (sym e) (none_first (number_of_wires net) (driven net) counts h)

  pub first_twice_driven : Counts (number_of_wires net) (driven net) counts → (found : Option ℕ) → found ≡ position (λ count. nat_le 2 count) counts
      → IsFirst (λ n. Breaks net (WireTwiceDriven (numbered n))) found
  first_twice_driven h found e =
      subst (λ f. IsFirst (λ n. Breaks net (WireTwiceDriven (numbered n))) f) (sym e) (two_first (number_of_wires net) (driven net) counts (driven_within net) h)

  pub first_unread : Counts (number_of_wires net) (read net) counts → (found : Option ℕ) → found ≡ position (λ count. count == 0) counts
      → IsFirst (λ n. Breaks net (WireUnread (numbered n))) found
  first_unread h found e = subst (λ f. IsFirst (λ n. Breaks net (WireUnread (numbered n))) f) (sym e) (none_first (number_of_wires net) (read net) counts h)

  pub first_twice_read : Counts (number_of_wires net) (read net) counts → (found : Option ℕ) → found ≡ position (λ count. nat_le 2 count) counts
      → IsFirst (λ n. Breaks net (WireTwiceRead (numbered n))) found
  first_twice_read h found e =
      subst (λ f. IsFirst (λ n. Breaks net (WireTwiceRead (numbered n))) f) (sym e) (two_first (number_of_wires net) (read net) counts (read_within net) h)
