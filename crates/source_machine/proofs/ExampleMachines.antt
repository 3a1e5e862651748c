-- The facts on the small machines.
use Rattle.std.proofs.Common.{◌≡◌, ◌≢◌, ℕ, zero, suc, ◌+◌, ◌≤◌, ◌<◌, ◌⊎◌, inl, inr, List, All, map, IfSome, [], ◌∷◌, Bool, true, false, ◌==◌, refl, sym, ◌∙◌, subst, arith, lit≤, eqb-true, if◌then◌else◌}
use Rattle.std.proofs.lemmas.List.Elements.{All-from_recursion, All-nil}
use Rattle.std.proofs.lemmas.Bool.{cases_eq}
use Rattle.pulse_ids.specs.Names.{IsPortName}
use Rattle.pulse_ids.specs.Lists.{IsIn, bit_at, occurrences}
use Rattle.pulse_ids.proofs.CallerLemmasOnCounts.{occurrences-head, occurrences-other, occurrences-absent}
use Rattle.source_machine.specs.Machines.{PlainLiteral, PlainEquation}
use Rattle.source_machine.specs.Fitting.{IsNumbered, LiteralFits, LatchFits, EquationFits}
use Rattle.source_machine.specs.Runs.{equation_value, Agrees, driven_nets}
use Rattle.source_machine.specs.Grounding.{Grounded, of_constant, of_input, of_latch, of_equation, cube_nets, used_nets, IsDrivenTwice, IsUndriven}
use Rattle.source_machine.specs.Examples.{plain, inverse, HalfAdderIsAccepted, NamesAreJudged, toggle, TogglesThrice, half_adder, AddsTwoBits, OffSetIsOr, NoCubeIsOff, EmptyCubeIsOn, ring, RingIsRefused, clash, ClashIsRefused, loose, LooseIsRefused, spare, SpareIsAccepted}

-- a number stands once in a list of one
times_one : (n a : ℕ) → occurrences n (a ∷ []) ≤ 1
times_one n a = elim (n == a) as (λ t. (if t then 1 else 0) + 0 ≤ 1) [ true ↦ omega arith | false ↦ omega arith ]

toggle_agrees : (bit : Bool) → Agrees toggle (bit ∷ []) [] (false ∷ bit ∷ [])
toggle_agrees bit = record {
  width = refl;
  constant = refl;
  undriven = other;
  inputs_agree = refl;
  latches_agree = refl;
  equations_agree = λ equation i. absurd i;
}
  where
    other : (net : ℕ) → (IsIn net (driven_nets toggle) → ⊥) → bit_at (false ∷ bit ∷ []) net ≡ false
    other zero out = refl
    other (suc zero) out = absurd (out (inl refl))
    other (suc (suc net)) out = refl

pub toggles_thrice : TogglesThrice
toggles_thrice = (toggle_agrees false, (toggle_agrees true, (toggle_agrees false, tt)))

half_adder_undriven : (a b c d : Bool) (net : ℕ) → (IsIn net (driven_nets half_adder) → ⊥) → bit_at (false ∷ a ∷ b ∷ c ∷ d ∷ []) net ≡ false
half_adder_undriven a b c d zero out = refl
half_adder_undriven a b c d (suc zero) out = absurd (out (inl refl))
half_adder_undriven a b c d (suc (suc zero)) out = absurd (out (inr (inl refl)))
half_adder_undriven a b c d (suc (suc (suc zero))) out = absurd (out (inr (inr (inl refl))))
half_adder_undriven a b c d (suc (suc (suc (suc zero)))) out = absurd (out (inr (inr (inr (inl refl)))))
half_adder_undriven a b c d (suc (suc (suc (suc (suc net))))) out = refl

half_adder_equations : (a b c d : Bool) → c ≡ equation_value (bit_at (false ∷ a ∷ b ∷ c ∷ d ∷ []))
    (record { net = 3; on = true; cubes = (plain 1 ∷ record { net = 4; negated = true } ∷ []) ∷ (plain 2 ∷ record { net = 4; negated = true } ∷ []) ∷ [] })
    → d ≡ equation_value (bit_at (false ∷ a ∷ b ∷ c ∷ d ∷ [])) (record { net = 4; on = true; cubes = (plain 1 ∷ plain 2 ∷ []) ∷ [] }) → (equation : PlainEquation)
    → IsIn equation half_adder.equations → bit_at (false ∷ a ∷ b ∷ c ∷ d ∷ []) equation.net ≡ equation_value (bit_at (false ∷ a ∷ b ∷ c ∷ d ∷ [])) equation
half_adder_equations a b c d p q equation (inl e) =
    subst (λ x. bit_at (false ∷ a ∷ b ∷ c ∷ d ∷ []) x.net ≡ equation_value (bit_at (false ∷ a ∷ b ∷ c ∷ d ∷ [])) x) e p
half_adder_equations a b c d p q equation (inr (inl e)) =
    subst (λ x. bit_at (false ∷ a ∷ b ∷ c ∷ d ∷ []) x.net ≡ equation_value (bit_at (false ∷ a ∷ b ∷ c ∷ d ∷ [])) x) e q
half_adder_equations a b c d p q equation (inr (inr i)) = absurd i

-- a number that isn't in a list of single numbers may be added to it
once_more : (a : ℕ) (xs : List ℕ) → (IsIn a xs → ⊥) → ((n : ℕ) → occurrences n xs ≤ 1) → (n : ℕ) → occurrences n (a ∷ xs) ≤ 1
once_more a xs out once n = go (cases_eq a n)
  where
    go : (a ≡ n) ⊎ (a ≢ n) → occurrences n (a ∷ xs) ≤ 1
    go (inl e) = omega (arith, occurrences-head n a xs e, occurrences-absent n xs (λ i. out (subst (λ m. IsIn m xs) (sym e) i)))
    go (inr ne) = omega (arith, occurrences-other n a xs ne, once n)

apart_4 : (a : ℕ) → a ≢ 4 → IsIn a (4 ∷ []) → ⊥
apart_4 a ne (inl e) = ne (sym e)
apart_4 a ne (inr i) = i

apart_34 : (a : ℕ) → a ≢ 3 → a ≢ 4 → IsIn a (3 ∷ 4 ∷ []) → ⊥
apart_34 a ne ne' (inl e) = ne (sym e)
apart_34 a ne ne' (inr i) = apart_4 a ne' i

apart_234 : (a : ℕ) → a ≢ 2 → a ≢ 3 → a ≢ 4 → IsIn a (2 ∷ 3 ∷ 4 ∷ []) → ⊥
apart_234 a ne ne' ne'' (inl e) = ne (sym e)
apart_234 a ne ne' ne'' (inr i) = apart_34 a ne' ne'' i

half_adder_once : (net : ℕ) → occurrences net (driven_nets half_adder) ≤ 1
half_adder_once =
    once_more 1 (2 ∷ 3 ∷ 4 ∷ []) (apart_234 1 (omega arith) (omega arith) (omega arith))
    (once_more 2 (3 ∷ 4 ∷ []) (apart_34 2 (omega arith) (omega arith)) (once_more 3 (4 ∷ []) (apart_4 3 (omega arith)) (λ n. times_one n 4)))

half_adder_driven : (net : ℕ) → net ≢ 0 → IsIn net (used_nets half_adder) → IsIn net (driven_nets half_adder)
half_adder_driven net ne (inl e) = inl e
half_adder_driven net ne (inr (inl e)) = inr (inr (inr (inl e)))
half_adder_driven net ne (inr (inr (inl e))) = inr (inl e)
half_adder_driven net ne (inr (inr (inr (inl e)))) = inr (inr (inr (inl e)))
half_adder_driven net ne (inr (inr (inr (inr (inl e))))) = inl e
half_adder_driven net ne (inr (inr (inr (inr (inr (inl e)))))) = inr (inl e)
half_adder_driven net ne (inr (inr (inr (inr (inr (inr (inl e))))))) = inr (inr (inl e))
half_adder_driven net ne (inr (inr (inr (inr (inr (inr (inr (inl e)))))))) = inr (inr (inr (inl e)))
half_adder_driven net ne (inr (inr (inr (inr (inr (inr (inr (inr i)))))))) = absurd i

half_adder_carry : Grounded half_adder 4
half_adder_carry = of_equation 4 (record { net = 4; on = true; cubes = (plain 1 ∷ plain 2 ∷ []) ∷ [] }) (inr (inl refl)) refl below
  where
    below : (used : ℕ) → IsIn used (1 ∷ 2 ∷ []) → Grounded half_adder used
    below used (inl e) = of_input used (inl e)
    below used (inr (inl e)) = of_input used (inr (inl e))
    below used (inr (inr i)) = absurd i

half_adder_sum : Grounded half_adder 3
half_adder_sum = of_equation 3 (record { net = 3; on = true; cubes = (plain 1 ∷ inverse 4 ∷ []) ∷ (plain 2 ∷ inverse 4 ∷ []) ∷ [] }) (inl refl) refl below
  where
    below : (used : ℕ) → IsIn used (1 ∷ 4 ∷ 2 ∷ 4 ∷ []) → Grounded half_adder used
    below used (inl e) = of_input used (inl e)
    below used (inr (inl e)) = subst (Grounded half_adder) e half_adder_carry
    below used (inr (inr (inl e))) = of_input used (inr (inl e))
    below used (inr (inr (inr (inl e)))) = subst (Grounded half_adder) e half_adder_carry
    below used (inr (inr (inr (inr i)))) = absurd i

half_adder_grounded : (net : ℕ) → IsIn net (map (λ equation. equation.net) half_adder.equations) → Grounded half_adder net
half_adder_grounded net (inl e) = subst (Grounded half_adder) e half_adder_sum
half_adder_grounded net (inr (inl e)) = subst (Grounded half_adder) e half_adder_carry
half_adder_grounded net (inr (inr i)) = absurd i

literals_fit : (a b : PlainLiteral) → a.net ≤ 4 → b.net ≤ 4 → All (LiteralFits 4) (a ∷ b ∷ [])
literals_fit a b p q = All-from_recursion (LiteralFits 4) (a ∷ b ∷ []) (p, (q, tt))

sum_fits : EquationFits 4 (record { net = 3; on = true; cubes = (plain 1 ∷ inverse 4 ∷ []) ∷ (plain 2 ∷ inverse 4 ∷ []) ∷ [] })
sum_fits = (
  (omega arith, omega arith),
  All-from_recursion (All (LiteralFits 4)) ((plain 1 ∷ inverse 4 ∷ []) ∷ (plain 2 ∷ inverse 4 ∷ []) ∷ [])
      (literals_fit (plain 1) (inverse 4) (omega arith) (omega arith), (literals_fit (plain 2) (inverse 4) (omega arith) (omega arith), tt)),
)

carry_fits : EquationFits 4 (record { net = 4; on = true; cubes = (plain 1 ∷ plain 2 ∷ []) ∷ [] })
carry_fits = ((omega arith, omega arith), All-from_recursion (All (LiteralFits 4)) ((plain 1 ∷ plain 2 ∷ []) ∷ []) (literals_fit (plain 1) (plain 2) (omega arith) (omega arith), tt))

pub half_adder_is_accepted : HalfAdderIsAccepted
half_adder_is_accepted = record {
  size = refl;
  fits = record {
    nets_fit = record {
      inputs_fit = All-from_recursion (IsNumbered 4) half_adder.inputs ((omega arith, omega arith), ((omega arith, omega arith), tt));
      latches_fit = All-nil (LatchFits 4);
      equations_fit = All-from_recursion (EquationFits 4) half_adder.equations (sum_fits, (carry_fits, tt));
      outputs_fit = literals_fit (plain 3) (plain 4) (omega arith) (omega arith);
    };
    input_names_fit = (refl, All-from_recursion (λ name. IfSome name IsPortName) half_adder.input_names (tt, (tt, tt)));
    output_names_fit = (refl, All-from_recursion (λ name. IfSome name IsPortName) half_adder.output_names (tt, (tt, tt)));
    limits = record {
      few_inputs = lit≤ tt;
      few_outputs = lit≤ tt;
      few_latches = lit≤ tt;
      few_nets = lit≤ tt;
      small = lit≤ tt;
    };
  };
  founded = record {
    driven_once = λ net twice. let once = half_adder_once net in omega arith;
    all_driven = half_adder_driven;
    all_grounded = half_adder_grounded;
  };
}

pub names_are_judged : NamesAreJudged
names_are_judged = record {
  named = record {
    not_empty = lit≤ tt;
    not_long = lit≤ tt;
    no_line_feed = All-from_recursion (λ byte. byte ≢ 10) (97 ∷ 32 ∷ 98 ∷ []) (omega arith, (omega arith, (omega arith, tt)));
  };
  empty = λ name. let long : 1 ≤ 0 = name.not_empty in omega arith;
  broken = λ name. name.no_line_feed 1 0 (lit≤ tt) refl;
}

pub adds_two_bits : AddsTwoBits
adds_two_bits = record {
  both = record {
    width = refl;
    constant = refl;
    undriven = half_adder_undriven true true false true;
    inputs_agree = refl;
    latches_agree = refl;
    equations_agree = half_adder_equations true true false true refl refl;
  };
  both_out = refl;
  one = record {
    width = refl;
    constant = refl;
    undriven = half_adder_undriven false true true false;
    inputs_agree = refl;
    latches_agree = refl;
    equations_agree = half_adder_equations false true true false refl refl;
  };
  one_out = refl;
}

pub off_set_is_or : OffSetIsOr
off_set_is_or true b = refl
off_set_is_or false true = refl
off_set_is_or false false = refl

pub no_cube_is_off : NoCubeIsOff
no_cube_is_off on bit = refl

pub empty_cube_is_on : EmptyCubeIsOn
empty_cube_is_on on bit = refl

-- a number doesn't stand twice in a list of two that differ
times_two : (n a b : ℕ) → a ≢ b → 2 ≤ occurrences n (a ∷ b ∷ []) → ⊥
times_two n a b apart twice = go (n == a) (n == b) refl refl twice
  where
    go : (s t : Bool) → (n == a) ≡ s → (n == b) ≡ t → 2 ≤ (if s then 1 else 0) + ((if t then 1 else 0) + 0) → ⊥
    go true true p q le = apart (sym (eqb-true n a p) ∙ eqb-true n b q)
    go true false p q le = omega arith
    go false true p q le = omega arith
    go false false p q le = omega arith

ring_ungrounded : (net : ℕ) → (net ≡ 2) ⊎ (net ≡ 3) → Grounded ring net → ⊥
ring_ungrounded _ which of_constant = elim which [ inl e ↦ omega arith | inr e ↦ omega arith ]
ring_ungrounded _ which (of_input net i) = i
ring_ungrounded _ which (of_latch net i) = i
ring_ungrounded _ which (of_equation net equation (inl p) q below) =
    ring_ungrounded 2 (inl refl) (below 2 (subst (λ x. IsIn 2 (cube_nets x)) p (inl refl)))
ring_ungrounded _ which (of_equation net equation (inr (inl p)) q below) =
    ring_ungrounded 3 (inr refl) (below 3 (subst (λ x. IsIn 3 (cube_nets x)) p (inl refl)))
ring_ungrounded _ which (of_equation net equation (inr (inr i)) q below) = absurd i

pub ring_is_refused : RingIsRefused
ring_is_refused = (
  λ net twice. times_two net 3 2 (omega arith) twice,
  ring_driven,
  ((inr (inl refl), ring_ungrounded 2 (inl refl)), λ lower lt u. ring_low lower lt u.0),
)
  where
    ring_driven : (net : ℕ) → IsUndriven ring net → ⊥
    ring_driven net u = elim u.1 [
      | inl e ↦ u.2 (inr (inl e))
      | inr i ↦ elim i [ inl e ↦ u.2 (inl e) | inr j ↦ elim j [ inl e ↦ u.2 (inl e) | inr k ↦ k ] ]
    ]

    ring_low : (lower : ℕ) → lower < 2 → IsIn lower (3 ∷ 2 ∷ []) → ⊥
    ring_low lower lt (inl e) = omega arith
    ring_low lower lt (inr (inl e)) = omega arith
    ring_low lower lt (inr (inr i)) = i

pub clash_is_refused : ClashIsRefused
clash_is_refused = (lit≤ tt, low)
  where
    low : (lower : ℕ) → lower < 2 → IsDrivenTwice clash lower → ⊥
    low zero lt twice = omega arith
    low (suc zero) lt twice = omega arith
    low (suc (suc lower)) lt twice = omega arith

pub loose_is_refused : LooseIsRefused
loose_is_refused = (
  λ net twice. let once = times_one net 3 in omega arith,
  ((omega arith, inl refl, apart), low),
)
  where
    apart : IsIn {X = ℕ} 1 (3 ∷ []) → ⊥
    apart (inl e) = omega arith
    apart (inr i) = i

    low : (lower : ℕ) → lower < 1 → IsUndriven loose lower → ⊥
    low lower lt u = let ne = u.0 in ne (omega arith)

pub spare_is_accepted : SpareIsAccepted
spare_is_accepted = record {
  founded = record {
    driven_once = λ net twice. let once = times_one net 2 in omega arith;
    all_driven = driven;
    all_grounded = λ net i. absurd i;
  };
  zero = λ state vector valuation a. a.undriven 1 apart;
}
  where
    driven : (net : ℕ) → net ≢ 0 → IsIn net (used_nets spare) → IsIn net (driven_nets spare)
    driven net ne (inl e) = inl e
    driven net ne (inr (inl e)) = absurd (ne (sym e))
    driven net ne (inr (inr i)) = absurd i

    apart : IsIn {X = ℕ} 1 (2 ∷ []) → ⊥
    apart (inl e) = omega arith
    apart (inr i) = i
