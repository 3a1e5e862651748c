-- Bits that are found in an order of the equations are those of the one valuation that agrees.
use Rattle.std.proofs.Common.{Contains, ◌≡◌, ◌≢◌, ℕ, zero, suc, ◌+◌, ◌≤◌, ◌<◌, ◌⊎◌, inl, inr, List, [], ◌∷◌, ◌++◌, length, take, map, get_or, set, replicate, Bool, false, not, ◌&&◌, ◌||◌, if◌then◌else◌, refl, sym, ◌∙◌, ap, subst, arith}
use Rattle.std.specs.List.{list_all, list_any}
use Rattle.std.proofs.lemmas.List.{take_more, take_all, get_or-set_same, get_or-set_other, length-set, get_or-map, length-replicate, length-map}
use Rattle.std.proofs.lemmas.List.Elements.{Contains-push_cases}
use Rattle.std.proofs.lemmas.Bool.{cases_eq}
use Rattle.pulse_ids.specs.Ids.{Lit}
use Rattle.pulse_ids.specs.Lists.{IsIn, bit_at}
use Rattle.pulse_ids.proofs.CallerLemmas.{is_in, IsIn-append, IsIn-left, IsIn-right, IsIn-map, IsIn-at, IsIn-behind, IsIn-contained, contained-IsIn}
use Rattle.dependency_order.specs.Dependencies.{needs_of, yields_of}
use Rattle.dependency_order.specs.Orders.{IsKnown, IsOrder}
use Rattle.source_machine.specs.declared.machines.Equation.{Equation}
use Rattle.source_machine.specs.declared.machines.RawMachine.{RawMachine}
use Rattle.source_machine.specs.Machines.{PlainEquation, PlainMachine, literal_of, latch_of, equation_of, machine_of}
use Rattle.source_machine.specs.Fitting.{Fits}
use Rattle.source_machine.specs.Runs.{literal_value, cube_value, equation_value, driven_nets, Agrees, next_state}
use Rattle.source_machine.specs.Grounding.{cube_nets, IsWellFounded}
use Rattle.source_machine.specs.Dependencies.{start_nets, dependencies_of}
use Rattle.source_machine.specs.Evaluating.{IsGiven, IsEvaluated}
use Rattle.source_machine.proofs.NetNumbers.{map-after}
use Rattle.source_machine.proofs.CallerLemmasOnDependencies.{grounded_is_known}
use Rattle.source_machine.proofs.Uniqueness.{driven_grounded}
use Rattle.source_machine.proofs.CubeValues.{equation_value-same, same_bits}
use Rattle.source_machine.proofs.Existence.{some_valuation}

all_false : (count net : ℕ) → get_or (replicate count false) net false ≡ false
all_false zero net = refl
all_false (suc count) zero = refl
all_false (suc count) (suc net) = all_false count net

-- the value of a cube, over the code's literals
all_mapped : (bit : ℕ → Bool) (cube : List Lit) → list_all (literal_value bit) (map literal_of cube) ≡ list_all (λ literal. literal_value bit (literal_of literal)) cube
all_mapped bit [] = refl
all_mapped bit (literal ∷ cube) = ap (λ t. literal_value bit (literal_of literal) && t) (all_mapped bit cube)

-- whether some cube is met, over the code's cubes
cubes_mapped_bits : (bit : ℕ → Bool) (cubes : List (List Lit))
    → list_any (cube_value bit) (map (map literal_of) cubes) ≡ list_any (λ cube. list_all (λ literal. literal_value bit (literal_of literal)) cube) cubes
cubes_mapped_bits bit [] = refl
cubes_mapped_bits bit (cube ∷ cubes) =
    ap (λ t. t || list_any (cube_value bit) (map (map literal_of) cubes)) (all_mapped bit cube) ∙ ap
    (λ t. list_all (λ literal. literal_value bit (literal_of literal)) cube || t) (cubes_mapped_bits bit cubes)

-- the value of an equation where it is known whether some cube is met
pub value_if : (bit : ℕ → Bool) (equation : Equation) (met : Bool)
    → met ≡ list_any (λ cube. list_all (λ literal. literal_value bit (literal_of literal)) cube) equation.rows.items
    → (if met then equation.on else not equation.on) ≡ equation_value bit (equation_of equation)
value_if bit equation met e =
    ap (λ t. if t then equation.on else not equation.on) (e ∙ sym (cubes_mapped_bits bit equation.rows.items))

-- a slice that is written back into its place
pub written_back : {X : Type 0} (n : ℕ) (xs ys : List X) → length xs ≡ n → take n (xs ++ ys) ≡ xs
written_back zero [] ys e = refl
written_back zero (x ∷ xs) ys e = absurd (omega arith)
written_back (suc n) [] ys e = absurd (omega arith)
written_back (suc n) (x ∷ xs) ys e = ap (λ l. x ∷ l) (written_back n xs ys (omega arith))

-- the first nets of a list have their bits
pub record IsGivenTo (before : List Bool) (nets : List ℕ) (bits : List Bool) (upto : ℕ) (after : List Bool) : Type 0 where
  pub width : length after ≡ length before
  pub given : (value : ℕ → Bool) → map value nets ≡ bits → (net : ℕ) → IsIn net (take upto nets) → bit_at after net ≡ value net
  pub kept : (net : ℕ) → (IsIn net (take upto nets) → ⊥) → bit_at after net ≡ bit_at before net

pub given_none : (before : List Bool) (nets : List ℕ) (bits : List Bool) → IsGivenTo before nets bits 0 before
given_none before nets bits = record { width = refl; given = λ value e net i. absurd i; kept = λ net out. refl }

pub given_more : (before : List Bool) (nets : List ℕ) (bits : List Bool) (upto net : ℕ) (bit : Bool) (after : List Bool) → upto < length nets → net ≡ get_or nets upto 0
    → bit ≡ get_or bits upto false → net < length after → IsGivenTo before nets bits upto after → IsGivenTo before nets bits (upto + 1) (set after net bit)
given_more before nets bits upto net bit after lt en eb fits h = record {
  width = length-set after net bit ∙ h.width;
  given = λ value e other i. given value e other i (cases_eq other net);
  kept = λ other out. get_or-set_other after net other bit false (λ e. out (last other (en' ∙ sym e))) ∙ h.kept other (λ i. out (front other i));
}
  where
    en' : get_or nets upto 0 ≡ net
    en' = sym en

    more : take (upto + 1) nets ≡ take upto nets ++ get_or nets upto 0 ∷ []
    more = take_more nets upto 0 lt

    front : (other : ℕ) → IsIn other (take upto nets) → IsIn other (take (upto + 1) nets)
    front other i = rw more (IsIn-left other (take upto nets) (get_or nets upto 0 ∷ []) i)

    last : (other : ℕ) → get_or nets upto 0 ≡ other → IsIn other (take (upto + 1) nets)
    last other e = rw more (IsIn-right other (take upto nets) (get_or nets upto 0 ∷ []) (inl e))

    given : (value : ℕ → Bool) → map value nets ≡ bits → (other : ℕ) → IsIn other (take (upto + 1) nets) → (other ≡ net) ⊎ (other ≢ net)
        → bit_at (set after net bit) other ≡ value other
    given value e other i (inl same) =
        ap (λ n. bit_at (set after net bit) n) same ∙ get_or-set_same after net bit false fits ∙ eb ∙ ap (λ l. get_or l upto false) (sym e) ∙ get_or-map value nets upto
        0 false lt ∙ ap value (en' ∙ sym same)
    given value e other i (inr ne) = get_or-set_other after net other bit false ne ∙ (elim (IsIn-behind other (get_or nets upto 0) (take upto nets) (rw more at i)) [
      | inl j ↦ h.given value e other j
      | inr q ↦ absurd (ne (sym q ∙ en'))
    ])

pub given_all : (before : List Bool) (nets : List ℕ) (bits : List Bool) (upto : ℕ) (after : List Bool) → length nets ≤ upto → IsGivenTo before nets bits upto after
    → IsGiven before nets bits after
given_all before nets bits upto after le h = record {
  width = h.width;
  given = λ value e net i. h.given value e net (subst (λ l. IsIn net l) (sym whole) i);
  kept = λ net out. h.kept net (λ i. out (subst (λ l. IsIn net l) whole i));
}
  where
    whole : take upto nets ≡ nets
    whole = take_all upto nets le

pub key_at : {X : Type 0} (f : X → ℕ) (xs : List X) (i : ℕ) (d : X) → i < length xs → f (get_or xs i d) ≡ get_or (map f xs) i 0
key_at f xs i d lt = sym (get_or-map f xs i d 0 lt)

-- the key of an item is in range if all keys are
pub key_fits : {X : Type 0} (f : X → ℕ) (xs : List X) (i : ℕ) (d : X) (count bound : ℕ)
    → i < length xs → ((n : ℕ) → IsIn n (map f xs) → n < count) → bound ≡ count → f (get_or xs i d) < bound
key_fits f xs i d count bound lt all e =
    omega (arith, key_at f xs i d lt, all (get_or (map f xs) i 0) (IsIn-at (map f xs) i 0 (omega (arith, length-map xs f))))

-- the bits of inputs and latches are those of every agreeing valuation
module _ (machine : PlainMachine) (state vector cleared given bits : List Bool) (z : cleared ≡ replicate (machine.nets + 1) false)
    (g : IsGiven cleared machine.inputs vector given) (h : IsGiven given (map (λ latch. latch.out) machine.latches) state bits) where
  abbrev outs : List ℕ
  outs = map (λ latch. latch.out) machine.latches

  zero_at : (net : ℕ) → bit_at cleared net ≡ false
  zero_at net = ap (λ l. bit_at l net) z ∙ all_false (machine.nets + 1) net

  no_source : (net : ℕ) → IsIn net (start_nets machine) → (IsIn net machine.inputs → ⊥) → (IsIn net outs → ⊥) → 0 ≡ net
  no_source net (inl e) out none = e
  no_source net (inr i) out none = elim (IsIn-append net machine.inputs outs i) [ inl j ↦ absurd (out j) | inr j ↦ absurd (none j) ]

  start_bit : (valuation : List Bool) → Agrees machine state vector valuation → (net : ℕ) → IsIn net (start_nets machine) → IsIn net outs ⊎ (IsIn net outs → ⊥)
      → IsIn net machine.inputs ⊎ (IsIn net machine.inputs → ⊥) → bit_at bits net ≡ bit_at valuation net
  start_bit valuation a net i (inl j) q =
      h.given (bit_at valuation) (map-after (λ latch. latch.out) (bit_at valuation) machine.latches ∙ a.latches_agree) net j
  start_bit valuation a net i (inr none) (inl j) = h.kept net none ∙ g.given (bit_at valuation) a.inputs_agree net j
  start_bit valuation a net i (inr none) (inr out) =
      h.kept net none ∙ (g.kept net out ∙ (zero_at net ∙ sym (ap (λ n. bit_at valuation n) (sym (no_source net i out none)) ∙ a.constant)))

  start_known : (valuation : List Bool) → Agrees machine state vector valuation → (net : ℕ) → IsKnown (dependencies_of machine) [] net → bit_at bits net ≡ bit_at valuation net
  start_known valuation a net (inl i) =
      start_bit valuation a net (IsIn-contained (start_nets machine) net i) (is_in net outs) (is_in net machine.inputs)
  start_known valuation a net (inr y) = absurd (omega (arith, y.1.1))

  pub started : IsEvaluated machine state vector [] bits
  started = record {
    width = h.width ∙ (g.width ∙ (ap (λ l. length l) z ∙ length-replicate (machine.nets + 1) false));
    known = start_known;
    undriven = λ net out. h.kept net (λ i. out (IsIn-right net machine.inputs _ (IsIn-left net outs _ i))) ∙ (g.kept net (λ i. out (IsIn-left net machine.inputs _ i)) ∙ zero_at net);
  }

-- the net of the next equation gets its bit
pub evaluated_more : (machine : PlainMachine) (state vector : List Bool) (order : List ℕ) (place number : ℕ) (equation : PlainEquation) (bit : Bool) (bits : List Bool)
    → IsOrder (dependencies_of machine) order → place < length order → number ≡ get_or order place 0
    → IsIn equation machine.equations × (yields_of (dependencies_of machine) number ≡ equation.net ∷ []) ×
    (needs_of (dependencies_of machine) number ≡ cube_nets equation) → bit ≡ equation_value (bit_at bits) equation → equation.net < length bits
    → IsEvaluated machine state vector (take place order) bits → IsEvaluated machine state vector (take (place + 1) order) (set bits equation.net bit)
evaluated_more machine state vector order place number equation bit bits ordered lt en at eb fits h = record {
  width = length-set bits equation.net bit ∙ h.width;
  known = λ valuation a net k. known valuation a net k (cases_eq net equation.net);
  undriven = λ net out. get_or-set_other bits equation.net net bit false (λ e. out (driven net e)) ∙ h.undriven net out;
}
  where
    driven : (net : ℕ) → net ≡ equation.net → IsIn net (driven_nets machine)
    driven net e =
        subst (λ n. IsIn n (driven_nets machine)) (sym e)
        (IsIn-right equation.net machine.inputs _ (IsIn-right equation.net (map (λ latch. latch.out) machine.latches) _ (IsIn-map (λ x. x.net) equation machine.equations at.0)))

    value : (valuation : List Bool) → Agrees machine state vector valuation → bit ≡ bit_at valuation equation.net
    value valuation a =
        eb ∙ equation_value-same (bit_at bits) (bit_at valuation) equation
        (λ used i. h.known valuation a used (ordered.ready place lt used
        (contained-IsIn _ used (subst (λ n. IsIn used (needs_of (dependencies_of machine) n)) en (subst (λ l. IsIn used l) (sym at.2) i))))) ∙ sym (a.equations_agree equation at.0)

    before : (net : ℕ) → net ≢ equation.net → IsKnown (dependencies_of machine) (take (place + 1) order) net → IsKnown (dependencies_of machine) (take place order) net
    before net ne (inl i) = inl i
    before net ne (inr y) = elim (Contains-push_cases (take place order) (get_or order place 0) y.0 (subst (λ l. Contains l y.0) (take_more order place 0 lt) y.1)) [
      | inl j ↦ inr (y.0, j, y.2)
      | inr e ↦ absurd (apart (subst (λ l. IsIn net l) (ap (yields_of (dependencies_of machine)) (sym e ∙ sym en) ∙ at.1) (IsIn-contained _ net y.2)))
    ]
      where
        apart : IsIn net (equation.net ∷ []) → ⊥
        apart (inl same) = ne (sym same)
        apart (inr i) = i

    known : (valuation : List Bool) → Agrees machine state vector valuation → (net : ℕ) → IsKnown (dependencies_of machine) (take (place + 1) order) net
        → (net ≡ equation.net) ⊎ (net ≢ equation.net) → bit_at (set bits equation.net bit) net ≡ bit_at valuation net
    known valuation a net k (inl same) =
        ap (λ n. bit_at (set bits equation.net bit) n) same ∙ (get_or-set_same bits equation.net bit false fits ∙ (value valuation a ∙ ap (λ n. bit_at valuation n) (sym same)))
    known valuation a net k (inr ne) =
        get_or-set_other bits equation.net net bit false ne ∙ h.known valuation a net (before net ne k)

-- bits that are found for all equations agree with the machine
pub evaluated_agrees : (machine : PlainMachine) → Fits machine → IsWellFounded machine → (state vector : List Bool) → length vector ≡ length machine.inputs
    → length state ≡ length machine.latches → (order : List ℕ) → IsOrder (dependencies_of machine) order → (bits : List Bool)
    → IsEvaluated machine state vector order bits → Agrees machine state vector bits
evaluated_agrees machine fits founded state vector wide deep order ordered bits h = agrees (some_valuation machine fits founded state vector wide deep)
  where
    known : (net : ℕ) → IsIn net (driven_nets machine) → IsKnown (dependencies_of machine) order net
    known net i = grounded_is_known machine order ordered net (driven_grounded machine founded net i)

    same : (valuation : List Bool) → Agrees machine state vector valuation → (net : ℕ) → IsIn net (driven_nets machine) ⊎ (IsIn net (driven_nets machine) → ⊥)
        → bit_at bits net ≡ bit_at valuation net
    same valuation a net (inl i) = h.known valuation a net (known net i)
    same valuation a net (inr out) = h.undriven net out ∙ sym (a.undriven net out)

    agrees : (v : List Bool) × Agrees machine state vector v → Agrees machine state vector bits
    agrees v =
        subst (Agrees machine state vector) (sym (same_bits bits v.0 (h.width ∙ sym v.1.width) (λ net. same v.0 v.1 net (is_in net (driven_nets machine))))) v.1

-- the same, of a machine of the code
pub next_mapped : (raw : RawMachine) (bits : List Bool) → next_state (machine_of raw) bits ≡ map (λ latch. literal_value (bit_at bits) (literal_of latch.next)) raw.latches.items
next_mapped raw bits = map-after latch_of (λ latch. literal_value (bit_at bits) latch.next) raw.latches.items
