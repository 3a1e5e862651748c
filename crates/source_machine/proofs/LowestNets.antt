-- Tables of bits and counts, and the first place that passes a test.
use Rattle.std.proofs.Common.{if◌then◌else◌, ◌≡◌, ◌≢◌, ℕ, ◌+◌, ◌≤◌, ◌<◌, ◌⊎◌, inl, inr, List, [], ◌∷◌, ◌++◌, length, take, get_or, set, replicate, min, cond, Bool, true, false, nat_lt, nat_le, refl, sym, ◌∙◌, ap, arith, ltb-true, ltb-false}
use Rattle.std.specs.List.{position, position_or_len}
use Rattle.std.specs.declared.option.Option.TheVariants.{None, Some}
use Rattle.std.specs.declared.option.Option.{Option}
use Rattle.std.proofs.lemmas.List.{take_more, get_or-set_same, get_or-set_other, length-set, get_or-replicate, length-replicate}
use Rattle.std.proofs.lemmas.List.Sums.{fails_before_first, passes_at_first}
use Rattle.std.proofs.lemmas.Bool.{cases_eq, cases_lt}
use Rattle.pulse_ids.specs.Lists.{IsIn, occurrences}
use Rattle.pulse_ids.proofs.CallerLemmas.{is_in, IsIn-behind, IsIn-taken, IsIn-left, IsIn-right}
use Rattle.pulse_ids.proofs.CallerLemmasOnCounts.{occurrences-absent, occurrences-append, occurrences-head, occurrences-other}
use Rattle.source_machine.specs.LowestNets.{MarksAll, Counts, IsFirst, IsFirstTwice, IsFirstMissing, IsUnknownIn, lower_of}
use Rattle.source_machine.specs.Grounding.{IsNever}

MarksAll-behind : (before : List Bool) (nets : List ℕ) (net : ℕ) (value : Bool) (bits : List Bool) → net < length bits → MarksAll before nets value bits
    → MarksAll before (nets ++ net ∷ []) value (set bits net value)
MarksAll-behind before nets net value bits lt h = record {
  width = length-set bits net value ∙ h.width;
  marked = λ other i. marked other (cases_eq other net) i;
  kept = λ other out. get_or-set_other bits net other value false (λ e. out (IsIn-right other nets (net ∷ []) (inl (sym e)))) ∙ h.kept other (λ i. out (IsIn-left other nets (net ∷ []) i));
}
  where
    marked : (other : ℕ) → (other ≡ net) ⊎ (other ≢ net) → IsIn other (nets ++ net ∷ []) → get_or (set bits net value) other false ≡ value
    marked other (inl e) i = rw e (get_or-set_same bits net value false lt)
    marked other (inr ne) i = get_or-set_other bits net other value false ne ∙ (elim (IsIn-behind other net nets i) [ inl j ↦ h.marked other j | inr e ↦ absurd (ne (sym e)) ])

pub MarksAll-more : (before : List Bool) (nets : List ℕ) (i : ℕ) (value : Bool) (bits : List Bool) → i < length nets → get_or nets i 0 < length bits
    → MarksAll before (take i nets) value bits → MarksAll before (take (i + 1) nets) value (set bits (get_or nets i 0) value)
MarksAll-more before nets i value bits lt fits h =
    rw (take_more nets i 0 lt) (MarksAll-behind before (take i nets) (get_or nets i 0) value bits fits h)

pub MarksAll-none : (bits : List Bool) (value : Bool) → MarksAll bits [] value bits
MarksAll-none bits value = record { width = refl; marked = λ net i. absurd i; kept = λ net out. refl }

pub Counts-none : (count : ℕ) → Counts count [] (replicate count 0)
Counts-none count = record { width = length-replicate count 0; counted = λ net lt. get_or-replicate count net 0 0 lt ∙ omega arith }

Counts-behind : (count : ℕ) (nets : List ℕ) (net : ℕ) (counts : List ℕ) → net < count → Counts count nets counts
    → Counts count (nets ++ net ∷ []) (set counts net (min (get_or counts net 0 + 1) 255))
Counts-behind count nets net counts lt h = record {
  width = length-set counts net _ ∙ h.width;
  counted = λ other l. here other l (cases_eq other net);
}
  where
    here : (other : ℕ) → other < count → (other ≡ net) ⊎ (other ≢ net)
        → get_or (set counts net (min (get_or counts net 0 + 1) 255)) other 0 ≡ min (occurrences other (nets ++ net ∷ [])) 255
    here other l (inl e) =
        let more : occurrences net (nets ++ net ∷ []) ≡ occurrences net nets + 1 = occurrences-append net nets (net ∷ []) ∙ ap (λ n. occurrences net nets + n)
        (occurrences-head net net [] refl) in
        rw e (get_or-set_same counts net _ 0 (omega (arith, h.width)) ∙ omega (arith, more, h.counted net lt))
    here other l (inr ne) =
        let same : occurrences other (nets ++ net ∷ []) ≡ occurrences other nets + 0 = occurrences-append other nets (net ∷ []) ∙ ap (λ n. occurrences other nets + n)
        (occurrences-other other net [] (λ e. ne (sym e))) in
        get_or-set_other counts net other _ 0 ne ∙ h.counted other l ∙ omega (arith, same)

pub Counts-more : (count : ℕ) (nets : List ℕ) (i : ℕ) (counts : List ℕ) (n : ℕ) → i < length nets → get_or nets i 0 < count
    → n ≡ min (get_or counts (get_or nets i 0) 0 + 1) 255 → Counts count (take i nets) counts → Counts count (take (i + 1) nets) (set counts (get_or nets i 0) n)
Counts-more count nets i counts n lt fits e h =
    rw (take_more nets i 0 lt, e) (Counts-behind count (take i nets) (get_or nets i 0) counts fits h)

-- a search that finds the places of which a fact holds finds the lowest
pub first_is : {X : Type 0} (P : ℕ → Type 0) (p : X → Bool) (xs : List X) (d : X) → ((k : ℕ) → k < length xs → p (get_or xs k d) ≡ true → P k)
    → ((k : ℕ) → P k → (k < length xs) × (p (get_or xs k d) ≡ true)) → IsFirst P (position p xs)
first_is P p xs d holds found = go (nat_lt (position_or_len p xs) (length xs)) refl
  where
    apart : (k : ℕ) → k < position_or_len p xs → P k → ⊥
    apart k lt h = let t : p (get_or xs k d) ≡ true = (found k h).1 in let f : p (get_or xs k d) ≡ false = fails_before_first p xs k d lt in cc

    go : (test : Bool) → nat_lt (position_or_len p xs) (length xs) ≡ test → IsFirst P (cond test (Some (position_or_len p xs)) None)
    go true e = let lt : position_or_len p xs < length xs = ltb-true _ _ e in (holds (position_or_len p xs) lt (passes_at_first p xs d lt), apart)
    go false e = λ k h. let le : length xs ≤ position_or_len p xs = ltb-false _ _ e in let l = (found k h).0 in apart k (omega arith) h

at_two : (n : ℕ) → nat_le 2 (min n 255) ≡ true → 2 ≤ n
at_two n e = grind arith

from_two : (n m : ℕ) → m ≡ min n 255 → 2 ≤ n → nat_le 2 m ≡ true
from_two n m e h = grind arith

pub first_twice_is : (count : ℕ) (nets counts : List ℕ) → ((net : ℕ) → IsIn net nets → net < count) → Counts count nets counts → IsFirstTwice nets (position (λ n. nat_le 2 n) counts)
first_twice_is count nets counts fit h =
    first_is (λ net. 2 ≤ occurrences net nets) (λ n. nat_le 2 n) counts 0
    (λ k lt e. at_two (occurrences k nets) (ap (λ n. nat_le 2 n) (sym (h.counted k (omega (arith, h.width)))) ∙ e))
    (λ k twice. let lt = below k twice in (omega (arith, h.width), from_two (occurrences k nets) (get_or counts k 0) (h.counted k lt) twice))
  where
    below : (k : ℕ) → 2 ≤ occurrences k nets → k < count
    below k twice = elim (is_in k nets) [ inl i ↦ fit k i | inr out ↦ absurd (omega (arith, occurrences-absent k nets out)) ]

pub first_missing_is : (count : ℕ) (nets removed : List ℕ) (marks bits : List Bool) → ((net : ℕ) → IsIn net nets → net < count)
    → MarksAll (replicate count false) nets true marks → MarksAll marks removed false bits → IsFirstMissing nets removed (position (λ bit. bit) bits)
first_missing_is count nets removed marks bits fit h g =
    first_is (λ net. IsIn net nets × (IsIn net removed → ⊥)) (λ bit. bit) bits false
    (λ k lt e. here k lt e (is_in k nets) (is_in k removed))
    (λ k m. (omega (arith, fit k m.0, wide), g.kept k m.1 ∙ h.marked k m.0))
  where
    wide : length bits ≡ count
    wide = g.width ∙ h.width ∙ length-replicate count false

    here : (k : ℕ) → k < length bits → get_or bits k false ≡ true → IsIn k nets ⊎ (IsIn k nets → ⊥) → IsIn k removed ⊎ (IsIn k removed → ⊥)
        → IsIn k nets × (IsIn k removed → ⊥)
    here k lt e a (inl j) = let f = g.marked k j in absurd (cc)
    here k lt e (inl i) (inr out) = (i, out)
    here k lt e (inr absent) (inr out) =
        let f : get_or bits k false ≡ false = g.kept k out ∙ h.kept k absent ∙ get_or-replicate count k false false (omega (arith, wide)) in absurd (cc)

-- the lowest of facts that hold of the same numbers
pub IsFirst-same : (P Q : ℕ → Type 0) → ((n : ℕ) → P n → Q n) → ((n : ℕ) → Q n → P n) → (found : Option ℕ) → IsFirst P found → IsFirst Q found
IsFirst-same P Q f g None never = λ n q. never n (g n q)
IsFirst-same P Q f g (Some net) lowest = (f net lowest.0, λ lower lt q. lowest.1 lower lt (g lower q))

-- a search that found no net
pub never_when : (P : ℕ → Type 0) (found : Option ℕ) → ((net : ℕ) → found ≡ Some net → ⊥) → IsFirst P found → IsNever P
never_when P None none h = h
never_when P (Some net) none h = absurd (none net refl)

-- where a fact holds of one more number, the lower of that and of the one before is the lowest
pub lower_is_first : (P Q : ℕ → Type 0) (found : Option ℕ) (net : ℕ) → IsFirst P found → ((n : ℕ) → P n → Q n)
    → Q net → ((n : ℕ) → Q n → P n ⊎ (n ≡ net)) → IsFirst Q (Some (lower_of found net))
lower_is_first P Q None net h f q only =
    (q, λ lower lt x. elim (only lower x) [ inl p ↦ h lower p | inr e ↦ absurd (omega arith) ])
lower_is_first P Q (Some other) net h f q only = go (cases_lt other net)
  where
    go : (other < net) ⊎ (net ≤ other) → IsFirst Q (Some (min other net))
    go (inl lt) =
        let low : min other net ≡ other = omega arith in
        rw low (f other h.0, λ lower l x. elim (only lower x) [ inl p ↦ h.1 lower l p | inr e ↦ absurd (omega arith) ])
    go (inr le) =
        let low : min other net ≡ net = omega arith in
        rw low (q, λ lower l x. elim (only lower x) [ inl p ↦ h.1 lower (omega arith) p | inr e ↦ absurd (omega arith) ])

unknown_then : (nets : List ℕ) (known : List Bool) (found : Option ℕ) (i net : ℕ) → i < length nets → net ≡ get_or nets i 0 → get_or known net false ≡ false
    → IsFirst (IsUnknownIn (take i nets) known) found → IsFirst (IsUnknownIn (take (i + 1) nets) known) (Some (lower_of found net))
unknown_then nets known found i net lt e out h =
    lower_is_first (IsUnknownIn (take i nets) known) (IsUnknownIn (take (i + 1) nets) known) found net h
    (λ n p. (rw (take_more nets i 0 lt) (IsIn-left n (take i nets) _ p.0), p.1)) (rw (take_more nets i 0 lt) (IsIn-right net (take i nets) _ (inl (sym e))), out)
    (λ n q. elim (IsIn-taken n nets i 0 lt q.0) [ inl j ↦ inl (j, q.1) | inr s ↦ inr (sym s ∙ sym e) ])

known_then : (nets : List ℕ) (known : List Bool) (found : Option ℕ) (i net : ℕ) → i < length nets → net ≡ get_or nets i 0 → get_or known net false ≡ true
    → IsFirst (IsUnknownIn (take i nets) known) found → IsFirst (IsUnknownIn (take (i + 1) nets) known) found
known_then nets known found i net lt e here h =
    IsFirst-same (IsUnknownIn (take i nets) known) (IsUnknownIn (take (i + 1) nets) known) (λ n p. (rw (take_more nets i 0 lt) (IsIn-left n (take i nets) _ p.0), p.1))
    (λ n q. elim (IsIn-taken n nets i 0 lt q.0) [ inl j ↦ (j, q.1) | inr s ↦ absurd (bad n q.1 (sym s ∙ sym e)) ]) found h
  where
    bad : (n : ℕ) → get_or known n false ≡ false → n ≡ net → ⊥
    bad n f same = let t : get_or known n false ≡ true = ap (λ m. get_or known m false) same ∙ here in cc

-- one net more
pub unknown_more : (nets : List ℕ) (known : List Bool) (found : Option ℕ) (i net : ℕ) → i < length nets → net ≡ get_or nets i 0
    → IsFirst (IsUnknownIn (take i nets) known) found → IsFirst (IsUnknownIn (take (i + 1) nets) known) (if get_or known net false then found else Some (lower_of found net))
unknown_more nets known found i net lt e h = go (get_or known net false) refl
  where
    go : (bit : Bool) → get_or known net false ≡ bit → IsFirst (IsUnknownIn (take (i + 1) nets) known) (if bit then found else Some (lower_of found net))
    go true k = known_then nets known found i net lt e k h
    go false k = unknown_then nets known found i net lt e k h
