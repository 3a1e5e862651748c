-- A refusal of one rule, after the rules before it.
use Rattle.std.proofs.Common.{◌≡◌, ℕ, ◌+◌, ◌≤◌, ◌<◌, inl, inr, Option, Some, None, List, [], ◌∷◌, length, get_or, Bool, true, false, cond, nat_lt, slice_get, refl, sym, ap, subst, ◌∙◌, arith}
use Rattle.std.proofs.Common.{ltb-true, ltb-false}
use Rattle.std.specs.List.{position, position_or_len}
use Rattle.std.proofs.lemmas.Bool.{cases_lt}
use Rattle.std.proofs.lemmas.List.Sums.{fails_before_first, passes_at_first}
use Rattle.std.proofs.lemmas.Option.{slice_get-get_or, get_or_from_slice_get, slice_get_within}
use Rattle.pulse_ids.specs.Ids.{numbered}
use Rattle.pulse_ids.specs.declared.ids.Id.{Id}
use Rattle.cell_netlist.specs.declared.unsound.RailLine.TheVariants.{Input, Output}
use Rattle.cell_netlist.specs.declared.unsound.Unsound.{Unsound}
use Rattle.cell_netlist.specs.declared.unsound.Unsound.TheVariants.{WireUndriven, WireTwiceDriven, WireUnread, WireTwiceRead, PortRange, RailTwice, Loop, LooseDroc, WrongPreload, LooseState}
use Rattle.pulse_ids.specs.Lists.{occurrences}
use Rattle.cell_netlist.specs.Netlists.{PlainNetlist, driven, read}
use Rattle.cell_netlist.specs.Sound.{Breaks, rule_of, number_in, ComesBefore, IsFirstUnsound}
use Rattle.cell_netlist.specs.Wired.{IsWired}
use Rattle.rail_checker.specs.Verdicts.{IsFirst, PassesAt, IsClear}

-- the refusals of one rule are made of their numbers
abbrev pub IsOfRule : ℕ → (ℕ → Unsound) → Type 0
IsOfRule rule make = (unsound : Unsound) → rule_of unsound ≡ rule → unsound ≡ make (number_in unsound)

pub undriven : IsOfRule 1 (λ n. WireUndriven (numbered n))
undriven (WireUndriven id) e = refl
undriven (PortRange (Input id)) e = absurd (omega arith)
undriven (PortRange (Output id)) e = absurd (omega arith)
undriven other e = absurd (omega arith)

pub twice_driven : IsOfRule 2 (λ n. WireTwiceDriven (numbered n))
twice_driven (WireTwiceDriven id) e = refl
twice_driven (PortRange (Input id)) e = absurd (omega arith)
twice_driven (PortRange (Output id)) e = absurd (omega arith)
twice_driven other e = absurd (omega arith)

pub unread : IsOfRule 3 (λ n. WireUnread (numbered n))
unread (WireUnread id) e = refl
unread (PortRange (Input id)) e = absurd (omega arith)
unread (PortRange (Output id)) e = absurd (omega arith)
unread other e = absurd (omega arith)

pub twice_read : IsOfRule 4 (λ n. WireTwiceRead (numbered n))
twice_read (WireTwiceRead id) e = refl
twice_read (PortRange (Input id)) e = absurd (omega arith)
twice_read (PortRange (Output id)) e = absurd (omega arith)
twice_read other e = absurd (omega arith)

pub input_range : IsOfRule 5 (λ n. PortRange (Input (numbered n)))
input_range (PortRange (Input id)) e = refl
input_range (PortRange (Output id)) e = absurd (omega arith)
input_range other e = absurd (omega arith)

pub output_range : IsOfRule 6 (λ n. PortRange (Output (numbered n)))
output_range (PortRange (Output id)) e = refl
output_range (PortRange (Input id)) e = absurd (omega arith)
output_range other e = absurd (omega arith)

pub rail_twice : IsOfRule 7 (λ n. RailTwice (numbered n))
rail_twice (RailTwice id) e = refl
rail_twice (PortRange (Input id)) e = absurd (omega arith)
rail_twice (PortRange (Output id)) e = absurd (omega arith)
rail_twice other e = absurd (omega arith)

pub loop_at : IsOfRule 8 (λ n. Loop (numbered n))
loop_at (Loop id) e = refl
loop_at (PortRange (Input id)) e = absurd (omega arith)
loop_at (PortRange (Output id)) e = absurd (omega arith)
loop_at other e = absurd (omega arith)

pub loose_at : IsOfRule 9 (λ n. LooseDroc (numbered n))
loose_at (LooseDroc id) e = refl
loose_at (PortRange (Input id)) e = absurd (omega arith)
loose_at (PortRange (Output id)) e = absurd (omega arith)
loose_at other e = absurd (omega arith)

pub preload_at : IsOfRule 10 (λ n. WrongPreload (numbered n))
preload_at (WrongPreload id) e = refl
preload_at (PortRange (Input id)) e = absurd (omega arith)
preload_at (PortRange (Output id)) e = absurd (omega arith)
preload_at other e = absurd (omega arith)

pub state_at : IsOfRule 11 (λ n. LooseState n)
state_at (LooseState k) e = refl
state_at (PortRange (Input id)) e = absurd (omega arith)
state_at (PortRange (Output id)) e = absurd (omega arith)
state_at other e = absurd (omega arith)

pub none_clear : (net : PlainNetlist) → IsClear net 0
none_clear net (PortRange (Input id)) breaks le = omega arith
none_clear net (PortRange (Output id)) breaks le = omega arith
none_clear net other breaks le = omega arith

-- the identifier of a number
pub numbered_is : {K : Type 0} (id : Id K) (n : ℕ) → id.number ≡ n → numbered n ≡ id
numbered_is id n e = ap (λ (m : ℕ). numbered m) (sym e)

module _ (net : PlainNetlist) (rules rule : ℕ) (make : ℕ → Unsound) (next : rule ≡ rules + 1) (of_rule : IsOfRule rule make) (clear : IsClear net rules) where
  -- the lowest number at which the rule is broken gives the first refusal
  pub judged_some : (number : ℕ) → IsFirst (λ n. Breaks net (make n)) (Some number) → (unsound : Unsound) → rule_of unsound ≡ rule → number_in unsound ≡ number
      → IsFirstUnsound net unsound × (rule_of unsound ≤ rule)
  judged_some number lowest unsound r n = (
    record {
      breaks = subst (λ u. Breaks net u) (sym (of_rule unsound r ∙ ap make n)) lowest.0;
      first = λ other breaks comes. before other breaks comes;
    },
    omega (arith, r),
  )
    where
      before : (other : Unsound) → Breaks net other → ComesBefore other unsound → ⊥
      before other breaks (inl lower) = clear other breaks (omega (arith, lower, r, next))
      before other breaks (inr same) =
          lowest.1 (number_in other) (omega (arith, same.1, n)) (subst (λ u. Breaks net u) (of_rule other (same.0 ∙ r)) breaks)

  -- where it is broken nowhere, one rule more is not broken
  pub judged_none : IsFirst (λ n. Breaks net (make n)) None → IsClear net rule
  judged_none never other breaks le = elim (cases_lt (rule_of other) rule) [
    | inl lower ↦ clear other breaks (omega (arith, lower, next))
    | inr high ↦ never (number_in other) (subst (λ u. Breaks net u) (of_rule other (omega (arith, high, le))) breaks)
  ]

-- the lowest number of one property is that of another one that is the same
pub first_same : (P Q : ℕ → Type 0) → ((n : ℕ) → P n → Q n) → ((n : ℕ) → Q n → P n) → (found : Option ℕ) → IsFirst P found → IsFirst Q found
first_same P Q f g None never = λ n q. never n (g n q)
first_same P Q f g (Some n) lowest = (f n lowest.0, λ lower lt q. lowest.1 lower lt (g lower q))

-- the first place that passes a test, where it tells the numbers that have a property
pub first_is : {X : Type 0} (P : ℕ → Type 0) (p : X → Bool) (xs : List X) (d : X) → ((k : ℕ) → k < length xs → p (get_or xs k d) ≡ true → P k)
    → ((k : ℕ) → P k → (k < length xs) × (p (get_or xs k d) ≡ true)) → IsFirst P (position p xs)
first_is P p xs d holds found = go (nat_lt (position_or_len p xs) (length xs)) refl
  where
    apart : (k : ℕ) → k < position_or_len p xs → P k → ⊥
    apart k lt h =
        let t : p (get_or xs k d) ≡ true = (found k h).1 in let f : p (get_or xs k d) ≡ false = fails_before_first p xs k d lt in cc

    go : (test : Bool) → nat_lt (position_or_len p xs) (length xs) ≡ test → IsFirst P (cond test (Some (position_or_len p xs)) None)
    go true e =
        let lt : position_or_len p xs < length xs = ltb-true _ _ e in (holds (position_or_len p xs) lt (passes_at_first p xs d lt), apart)
    go false e = λ k h. let le : length xs ≤ position_or_len p xs = ltb-false _ _ e in let l = (found k h).0 in apart k (omega arith) h

-- the first place that passes a test
pub first_passes : {X : Type 0} (p : X → Bool) (xs : List X) → IsFirst (PassesAt p xs) (position p xs)
first_passes p [] = λ k h. let e = h.1 in absurd cc
first_passes p (x ∷ xs) =
    first_is (PassesAt p (x ∷ xs)) p (x ∷ xs) x (λ k lt t. (get_or (x ∷ xs) k x, slice_get-get_or (x ∷ xs) k x lt, t))
    (λ k h. (slice_get_within (x ∷ xs) k h.0 h.1, ap p (get_or_from_slice_get (x ∷ xs) k h.0 x h.1) ∙ h.2))

-- the places before one place don't pass the test
abbrev pub NonePassesBefore : {X : Type 0} → (X → Bool) → List X → ℕ → Type 0
NonePassesBefore {X} test xs count = (place : ℕ) → place < count → PassesAt test xs place → ⊥

pub none_more : {X : Type 0} (test : X → Bool) (xs : List X) (i : ℕ) (x : X) → slice_get xs i ≡ Some x → test x ≡ false → NonePassesBefore test xs i
    → NonePassesBefore test xs (i + 1)
none_more test xs i x at f before place lt h = elim (cases_lt place i) [
  | inl earlier ↦ before place earlier h
  | inr late ↦
      let same : place ≡ i = omega arith in
      let its : slice_get xs i ≡ Some h.0 = subst (λ k. slice_get xs k ≡ Some h.0) same h.1 in
      let one : h.0 ≡ x = cc in
      let t : test x ≡ true = subst (λ y. test y ≡ true) one h.2 in
      absurd cc
]

pub none_at_all : {X : Type 0} (test : X → Bool) (xs : List X) (n : ℕ) → length xs ≤ n → NonePassesBefore test xs n → IsFirst (PassesAt test xs) None
none_at_all test xs n le before place h = before place (omega (arith, slice_get_within xs place h.0 h.1)) h

pub passes_first : {X : Type 0} (test : X → Bool) (xs : List X) (i : ℕ) (x : X) → slice_get xs i ≡ Some x → test x ≡ true → NonePassesBefore test xs i
    → IsFirst (PassesAt test xs) (Some i)
passes_first test xs i x at t before = ((x, at, t), before)

-- the first four rules are those of wiring
pub wired : (net : PlainNetlist) (rules : ℕ) → 4 ≤ rules → IsClear net rules → IsWired net
wired net rules le clear = record {
  all_driven = λ wire lt. elim (cases_lt 0 (occurrences wire (driven net))) [
    | inl some ↦ omega (arith, some)
    | inr none ↦ absurd (clear (WireUndriven (numbered wire)) (lt, omega (arith, none)) (omega (arith, le)))
  ];
  none_driven_twice = λ wire lt. elim (cases_lt (occurrences wire (driven net)) 2) [
    | inl few ↦ omega (arith, few)
    | inr twice ↦ absurd (clear (WireTwiceDriven (numbered wire)) twice (omega (arith, le)))
  ];
  all_read = λ wire lt. elim (cases_lt 0 (occurrences wire (read net))) [
    | inl some ↦ omega (arith, some)
    | inr none ↦ absurd (clear (WireUnread (numbered wire)) (lt, omega (arith, none)) (omega (arith, le)))
  ];
  none_read_twice = λ wire lt. elim (cases_lt (occurrences wire (read net)) 2) [
    | inl few ↦ omega (arith, few)
    | inr twice ↦ absurd (clear (WireTwiceRead (numbered wire)) twice (omega (arith, le)))
  ];
}
