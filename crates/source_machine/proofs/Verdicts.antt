-- A machine that fits is well founded or has a first refusal.
use Rattle.std.proofs.Common.{◌≡◌, ◌≢◌, ℕ, zero, suc, ◌+◌, ◌≤◌, ◌<◌, ◌⊎◌, inl, inr, List, [], ◌∷◌, ◌++◌, map, refl, sym, ap, subst, arith}
use Rattle.std.proofs.lemmas.Bool.{cases_eq, cases_lt}
use Rattle.pulse_ids.specs.Lists.{IsIn, occurrences}
use Rattle.pulse_ids.proofs.CallerLemmas.{is_in, IsIn-append, IsIn-left, IsIn-right}
use Rattle.pulse_ids.proofs.CallerLemmasOnCounts.{occurrences-absent}
use Rattle.source_machine.specs.Machines.{PlainEquation, PlainMachine}
use Rattle.source_machine.specs.Fitting.{Fits}
use Rattle.source_machine.specs.Runs.{driven_nets}
use Rattle.source_machine.specs.Grounding.{Grounded, of_constant, of_input, of_latch, of_equation, cube_nets, used_nets, Refusal, driven_twice, undriven, ungrounded, IsFirstRefusal, IsWellFounded, IsLowest, IsNever, IsDrivenTwice, IsUndriven, IsUngrounded}
use Rattle.source_machine.specs.Laws.{FitsIsJudged}
use Rattle.source_machine.proofs.CallerLemmasOnRanges.{driven_numbered, used_in_range, equation_in_range}
use Rattle.source_machine.proofs.Refusals.{Grounded-induction}

-- 1 for a net that isn't known
unfoldable flag : {A : Type 0} → A ⊎ (A → ⊥) → ℕ
flag (inl a) = 0
flag (inr out) = 1

flag-in : {A : Type 0} (c : A ⊎ (A → ⊥)) → A → flag c ≡ 0
unfolding flag
flag-in (inl a) b = refl
flag-in (inr out) b = absurd (out b)

flag-out : {A : Type 0} (c : A ⊎ (A → ⊥)) → (A → ⊥) → flag c ≡ 1
unfolding flag
flag-out (inl a) out = absurd (out a)
flag-out (inr other) out = refl

flag-le : {A B : Type 0} (c : A ⊎ (A → ⊥)) (d : B ⊎ (B → ⊥)) → (B → A) → flag c ≤ flag d
unfolding flag
flag-le (inl a) (inl b) f = omega arith
flag-le (inl a) (inr b) f = omega arith
flag-le (inr a) (inl b) f = absurd (a (f b))
flag-le (inr a) (inr b) f = omega arith

abbrev AllIn : List ℕ → List ℕ → Type 0
AllIn nets known = (n : ℕ) → IsIn n nets → IsIn n known

all_in : (nets known : List ℕ) → AllIn nets known ⊎ (AllIn nets known → ⊥)
all_in [] known = inl (λ n i. absurd i)
all_in (net ∷ nets) known = go (is_in net known) (all_in nets known)
  where
    both : IsIn net known → AllIn nets known → AllIn (net ∷ nets) known
    both i all n (inl e) = subst (λ m. IsIn m known) e i
    both i all n (inr j) = all n j

    go : IsIn net known ⊎ (IsIn net known → ⊥) → AllIn nets known ⊎ (AllIn nets known → ⊥) → AllIn (net ∷ nets) known ⊎ (AllIn (net ∷ nets) known → ⊥)
    go (inl i) (inl all) = inl (both i all)
    go (inl i) (inr out) = inr (λ all. out (λ n j. all n (inr j)))
    go (inr out) rest = inr (λ all. out (all net (inl refl)))

-- how many equations are of nets that aren't known
missing : List ℕ → List PlainEquation → ℕ
missing known [] = 0
missing known (equation ∷ equations) = flag (is_in equation.net known) + missing known equations

missing-le : (net : ℕ) (known : List ℕ) (equations : List PlainEquation) → missing (net ∷ known) equations ≤ missing known equations
unfolding missing
missing-le net known [] = omega arith
missing-le net known (equation ∷ equations) =
    omega (arith, missing-le net known equations, flag-le (is_in equation.net (net ∷ known)) (is_in equation.net known) (λ i. inr i))

missing-less : (known : List ℕ) (equation : PlainEquation) → (IsIn equation.net known → ⊥) → (equations : List PlainEquation) → IsIn equation equations
    → missing (equation.net ∷ known) equations + 1 ≤ missing known equations
unfolding missing
missing-less known equation out [] i = absurd i
missing-less known equation out (first ∷ equations) (inl e) =
    let here : flag (is_in first.net (equation.net ∷ known)) ≡ 0 = flag-in (is_in first.net (equation.net ∷ known)) (inl (ap (λ x. x.net) (sym e))) in
    let before : flag (is_in first.net known) ≡ 1 = flag-out (is_in first.net known) (λ j. out (subst (λ x. IsIn x.net known) e j)) in
    omega (arith, missing-le equation.net known equations)
missing-less known equation out (first ∷ equations) (inr i) =
    omega (arith, missing-less known equation out equations i, flag-le (is_in first.net (equation.net ∷ known)) (is_in first.net known) (λ j. inr j))

-- an equation of an unknown net whose cube nets are all known
record Ready (known : List ℕ) (equations : List PlainEquation) : Type 0 where
  equation : PlainEquation
  listed : IsIn equation equations
  reads : AllIn (cube_nets equation) known
  unknown : IsIn equation.net known → ⊥

abbrev IsClosed : List ℕ → List PlainEquation → Type 0
IsClosed known equations =
    (equation : PlainEquation) → IsIn equation equations → AllIn (cube_nets equation) known → IsIn equation.net known

ready : (known : List ℕ) (equations : List PlainEquation) → Ready known equations ⊎ IsClosed known equations
ready known [] = inr (λ equation i. absurd i)
ready known (first ∷ equations) =
    go (all_in (cube_nets first) known) (is_in first.net known) (ready known equations)
  where
    known_first : IsIn first.net known → IsClosed known equations → IsClosed known (first ∷ equations)
    known_first k closed equation (inl e) all = subst (λ x. IsIn x.net known) e k
    known_first k closed equation (inr i) all = closed equation i all

    stuck_first : (AllIn (cube_nets first) known → ⊥) → IsClosed known equations → IsClosed known (first ∷ equations)
    stuck_first out closed equation (inl e) all = absurd (out (subst (λ x. AllIn (cube_nets x) known) (sym e) all))
    stuck_first out closed equation (inr i) all = closed equation i all

    go : AllIn (cube_nets first) known ⊎ (AllIn (cube_nets first) known → ⊥) → IsIn first.net known ⊎ (IsIn first.net known → ⊥)
        → Ready known equations ⊎ IsClosed known equations → Ready known (first ∷ equations) ⊎ IsClosed known (first ∷ equations)
    go a b (inl r) = inl (record { equation = r.equation; listed = inr r.listed; reads = r.reads; unknown = r.unknown })
    go a (inl k) (inr closed) = inr (known_first k closed)
    go (inl all) (inr out) (inr closed) = inl (record { equation = first; listed = inl refl; reads = all; unknown = out })
    go (inr out) (inr other) (inr closed) = inr (stuck_first out closed)

module _ (machine : PlainMachine) where
  -- the nets that are grounded without an equation
  abbrev starts : List ℕ
  starts = 0 ∷ (machine.inputs ++ map (λ latch. latch.out) machine.latches)

  -- the grounded nets, as a list
  record Closure : Type 0 where
    known : List ℕ
    sound : (n : ℕ) → IsIn n known → Grounded machine n
    begun : AllIn starts known
    closed : IsClosed known machine.equations

  starts_sound : (n : ℕ) → IsIn n starts → Grounded machine n
  starts_sound n (inl e) = subst (Grounded machine) e of_constant
  starts_sound n (inr i) = elim (IsIn-append n machine.inputs (map (λ latch. latch.out) machine.latches) i) [ inl j ↦ of_input n j | inr j ↦ of_latch n j ]

  more_sound : (known : List ℕ) → ((n : ℕ) → IsIn n known → Grounded machine n) → (r : Ready known machine.equations)
      → (n : ℕ) → IsIn n (r.equation.net ∷ known) → Grounded machine n
  more_sound known sound r n (inl e) = of_equation n r.equation r.listed e (λ used j. sound used (r.reads used j))
  more_sound known sound r n (inr i) = sound n i

  close : (fuel : ℕ) (known : List ℕ) → ((n : ℕ) → IsIn n known → Grounded machine n) → AllIn starts known → missing known machine.equations ≤ fuel
      → Ready known machine.equations ⊎ IsClosed known machine.equations → Closure
  close fuel known sound begun few (inr closed) = record { known = known; sound = sound; begun = begun; closed = closed }
  close zero known sound begun few (inl r) = absurd (omega (arith, missing-less known r.equation r.unknown machine.equations r.listed))
  close (suc fuel) known sound begun few (inl r) = close fuel (r.equation.net ∷ known) (more_sound known sound r) (λ n i. inr (begun n i))
      (omega (arith, missing-less known r.equation r.unknown machine.equations r.listed)) (ready (r.equation.net ∷ known) machine.equations)

  closure : Closure
  closure = close (missing starts machine.equations) starts starts_sound (λ n i. i) (omega arith) (ready starts machine.equations)

  complete : (c : Closure) (net : ℕ) → Grounded machine net → IsIn net c.known
  complete c =
      Grounded-induction machine (λ n. IsIn n c.known) (c.begun 0 (inl refl)) (λ n i. c.begun n (inr (IsIn-left n machine.inputs _ i)))
      (λ n i. c.begun n (inr (IsIn-right n machine.inputs _ i))) c.closed

  pub is_grounded : (net : ℕ) → Grounded machine net ⊎ (Grounded machine net → ⊥)
  is_grounded net = go (is_in net closure.known)
    where
      go : IsIn net closure.known ⊎ (IsIn net closure.known → ⊥) → Grounded machine net ⊎ (Grounded machine net → ⊥)
      go (inl i) = inl (closure.sound net i)
      go (inr out) = inr (λ g. out (complete closure net g))

  is_driven_twice : (net : ℕ) → IsDrivenTwice machine net ⊎ (IsDrivenTwice machine net → ⊥)
  is_driven_twice net = elim (cases_lt (occurrences net (driven_nets machine)) 2) [ inl lt ↦ inr (λ twice. omega arith) | inr le ↦ inl le ]

  is_undriven : (net : ℕ) → IsUndriven machine net ⊎ (IsUndriven machine net → ⊥)
  is_undriven net = go (cases_eq net 0) (is_in net (used_nets machine)) (is_in net (driven_nets machine))
    where
      go : (net ≡ 0) ⊎ (net ≢ 0) → IsIn net (used_nets machine) ⊎ (IsIn net (used_nets machine) → ⊥)
          → IsIn net (driven_nets machine) ⊎ (IsIn net (driven_nets machine) → ⊥) → IsUndriven machine net ⊎ (IsUndriven machine net → ⊥)
      go (inl e) used driven = inr (λ u. u.0 e)
      go (inr ne) (inr out) driven = inr (λ u. out u.1)
      go (inr ne) (inl used) (inl i) = inr (λ u. u.2 i)
      go (inr ne) (inl used) (inr out) = inl (ne, used, out)

  is_ungrounded : (net : ℕ) → IsUngrounded machine net ⊎ (IsUngrounded machine net → ⊥)
  is_ungrounded net = go (is_in net (map (λ equation. equation.net) machine.equations)) (is_grounded net)
    where
      go : IsIn net (map (λ equation. equation.net) machine.equations) ⊎ (IsIn net (map (λ equation. equation.net) machine.equations) → ⊥)
          → Grounded machine net ⊎ (Grounded machine net → ⊥) → IsUngrounded machine net ⊎ (IsUngrounded machine net → ⊥)
      go (inr out) g = inr (λ u. out u.0)
      go (inl i) (inl g) = inr (λ u. u.1 g)
      go (inl i) (inr out) = inl (i, out)

-- the lowest number below a bound of which a fact holds, or none
pub lowest : (P : ℕ → Type 0) → ((n : ℕ) → P n ⊎ (P n → ⊥)) → (bound : ℕ) → ((n : ℕ) × IsLowest P n) ⊎ ((n : ℕ) → n < bound → P n → ⊥)
lowest P decided zero = inr (λ n lt p. absurd (omega arith))
lowest P decided (suc bound) = go (lowest P decided bound) (decided bound)
  where
    upto : ((n : ℕ) → n < bound → P n → ⊥) → (P bound → ⊥) → (n : ℕ) → n < suc bound → P n → ⊥
    upto below here n lt p = elim (cases_eq n bound) [
      | inl e ↦ here (subst P e p)
      | inr ne ↦ below n (omega arith) p
    ]

    go : ((n : ℕ) × IsLowest P n) ⊎ ((n : ℕ) → n < bound → P n → ⊥) → P bound ⊎ (P bound → ⊥) → ((n : ℕ) × IsLowest P n) ⊎ ((n : ℕ) → n < suc bound → P n → ⊥)
    go (inl found) here = inl found
    go (inr below) (inl p) = inl (bound, (p, below))
    go (inr below) (inr out) = inr (upto below out)

module _ (machine : PlainMachine) (fits : Fits machine) where
  twice_in_range : (net : ℕ) → IsDrivenTwice machine net → net < machine.nets + 1
  twice_in_range net twice = go (is_in net (driven_nets machine))
    where
      go : IsIn net (driven_nets machine) ⊎ (IsIn net (driven_nets machine) → ⊥) → net < machine.nets + 1
      go (inl i) = let r = driven_numbered machine fits net i in omega arith
      go (inr out) = absurd (omega (arith, occurrences-absent net (driven_nets machine) out))

  pub founded_if : IsNever (IsDrivenTwice machine) → IsNever (IsUndriven machine) → IsNever (IsUngrounded machine) → IsWellFounded machine
  founded_if once driven grounded = record {
    driven_once = once;
    all_driven = λ net ne used. elim (is_in net (driven_nets machine)) [ inl i ↦ i | inr out ↦ absurd (driven net (ne, used, out)) ];
    all_grounded = λ net i. elim (is_grounded machine net) [ inl g ↦ g | inr out ↦ absurd (grounded net (i, out)) ];
  }

  abbrev Judgement : Type 0
  Judgement = IsWellFounded machine ⊎ ((refusal : Refusal) × IsFirstRefusal machine refusal)

  third : IsNever (IsDrivenTwice machine) → IsNever (IsUndriven machine)
      → ((n : ℕ) × IsLowest (IsUngrounded machine) n) ⊎ ((n : ℕ) → n < machine.nets + 1 → IsUngrounded machine n → ⊥) → Judgement
  third once driven (inl found) = inr (ungrounded found.0, (once, driven, found.1))
  third once driven (inr none) = inl (founded_if once driven (λ net u. none net (equation_in_range machine fits net u.0) u))

  second : IsNever (IsDrivenTwice machine) → ((n : ℕ) × IsLowest (IsUndriven machine) n) ⊎ ((n : ℕ) → n < machine.nets + 1 → IsUndriven machine n → ⊥) → Judgement
  second once (inl found) = inr (undriven found.0, (once, found.1))
  second once (inr none) =
      third once (λ net u. let r = used_in_range machine fits net u.1 in none net (omega arith) u) (lowest (IsUngrounded machine) (is_ungrounded machine) (machine.nets + 1))

  first : ((n : ℕ) × IsLowest (IsDrivenTwice machine) n) ⊎ ((n : ℕ) → n < machine.nets + 1 → IsDrivenTwice machine n → ⊥) → Judgement
  first (inl found) = inr (driven_twice found.0, found.1)
  first (inr none) =
      second (λ net twice. none net (twice_in_range net twice) twice) (lowest (IsUndriven machine) (is_undriven machine) (machine.nets + 1))

pub fits_is_judged : FitsIsJudged
fits_is_judged machine fits =
    first machine fits (lowest (IsDrivenTwice machine) (is_driven_twice machine) (machine.nets + 1))
