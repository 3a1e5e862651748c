-- Facts on a machine's lists, read as the code's lists and as plain ones.
use Rattle.std.proofs.Common.{◌≡◌, ℕ, zero, suc, ◌+◌, ◌<◌, ◌≤◌, add-one, List, [], ◌∷◌, length, get_or, map, drop, All, refl, sym, ◌∙◌, ap, arith}
use Rattle.std.specs.declared.option.Option.{Option}
use Rattle.std.proofs.lemmas.List.Elements.{All-map, All-head, All-tail, All-cons, All-nil, All-weaker}
use Rattle.std.proofs.lemmas.List.{length-map}
use Rattle.pulse_ids.specs.Ids.{Lit}
use Rattle.source_machine.specs.declared.machines.RawMachine.{RawMachine}
use Rattle.source_machine.specs.declared.machines.Equation.{Equation}
use Rattle.source_machine.specs.Machines.{literal_of, latch_of, equation_of, machine_of}
use Rattle.source_machine.specs.Fitting.{NamesFit, IsNumbered, LiteralFits, LatchFits, EquationFits, NetsFit, RawNetsFit, size_of_cubes, size_of_equations}

pub All-from_map : {X Y : Type 0} (P : Y → Type 0) (f : X → Y) (xs : List X) → All P (map f xs) → All (λ x. P (f x)) xs
All-from_map P f [] h = All-nil (λ x. P (f x))
All-from_map P f (x ∷ xs) h =
    All-cons (λ y. P (f y)) x xs (All-head P (f x) (map f xs) h) (All-from_map P f xs (All-tail P (f x) (map f xs) h))

pub names_mapped : {X Y : Type 0} (f : X → Y) (xs : List X) (names : List (Option (List ℕ))) → NamesFit (length xs) names → NamesFit (length (map f xs)) names
names_mapped f xs names h = (h.0 ∙ sym (length-map xs f), h.1)

pub names_from_mapped : {X Y : Type 0} (f : X → Y) (xs : List X) (names : List (Option (List ℕ))) → NamesFit (length (map f xs)) names → NamesFit (length xs) names
names_from_mapped f xs names h = (h.0 ∙ length-map xs f, h.1)

pub cubes_mapped : (nets : ℕ) (cubes : List (List Lit)) → All (λ cube. All (λ lit. LiteralFits nets (literal_of lit)) cube) cubes → All (All (LiteralFits nets)) (map (map literal_of) cubes)
cubes_mapped nets cubes h =
    All-map (All (LiteralFits nets)) (map literal_of) cubes
    (All-weaker (λ cube. All (λ lit. LiteralFits nets (literal_of lit)) cube) (λ cube. All (LiteralFits nets) (map literal_of cube))
    (λ cube k. All-map (LiteralFits nets) literal_of cube k) cubes h)

pub cubes_from_mapped : (nets : ℕ) (cubes : List (List Lit)) → All (All (LiteralFits nets)) (map (map literal_of) cubes)
    → All (λ cube. All (λ lit. LiteralFits nets (literal_of lit)) cube) cubes
cubes_from_mapped nets cubes h =
    All-weaker (λ cube. All (LiteralFits nets) (map literal_of cube)) (λ cube. All (λ lit. LiteralFits nets (literal_of lit)) cube)
    (λ cube k. All-from_map (LiteralFits nets) literal_of cube k) cubes
    (All-from_map (All (LiteralFits nets)) (map literal_of) cubes h)

pub nets_fit_of_raw : (raw : RawMachine) → RawNetsFit raw → NetsFit (machine_of raw)
nets_fit_of_raw raw h = record {
  inputs_fit = All-map (IsNumbered raw.nets) (λ net. net.number) raw.inputs.items h.inputs_fit;
  latches_fit = All-map (LatchFits raw.nets) latch_of raw.latches.items h.latches_fit;
  equations_fit = All-map (EquationFits raw.nets) equation_of raw.equations.items h.equations_fit;
  outputs_fit = All-map (LiteralFits raw.nets) literal_of raw.outputs.items h.outputs_fit;
}

pub raw_nets_fit : (raw : RawMachine) → NetsFit (machine_of raw) → RawNetsFit raw
raw_nets_fit raw h = record {
  inputs_fit = All-from_map (IsNumbered raw.nets) (λ net. net.number) raw.inputs.items h.inputs_fit;
  latches_fit = All-from_map (LatchFits raw.nets) latch_of raw.latches.items h.latches_fit;
  equations_fit = All-from_map (EquationFits raw.nets) equation_of raw.equations.items h.equations_fit;
  outputs_fit = All-from_map (LiteralFits raw.nets) literal_of raw.outputs.items h.outputs_fit;
}

-- one more cube adds its literals and itself
pub size_step : (cubes : List (List Lit)) (i j : ℕ) (cube : List Lit) → i < length cubes → j ≡ i + 1 → cube ≡ get_or cubes i cube
    → size_of_cubes (map (map literal_of) (drop i cubes)) ≡ (1 + length cube) + size_of_cubes (map (map literal_of) (drop j cubes))
size_step cubes i j cube lt on e = rw (on, add-one) (step cubes i cube lt e)
  where
    step : (cubes : List (List Lit)) (i : ℕ) (cube : List Lit) → i < length cubes → cube ≡ get_or cubes i cube
        → size_of_cubes (map (map literal_of) (drop i cubes)) ≡ (1 + length cube) + size_of_cubes (map (map literal_of) (drop (suc i) cubes))
    step [] i cube lt e = absurd (omega arith)
    step (first ∷ cubes) zero cube lt e =
        ap (λ n. (1 + n) + size_of_cubes (map (map literal_of) cubes)) (length-map first literal_of ∙ ap length (sym e))
    step (first ∷ cubes) (suc i) cube lt e = step cubes i cube (omega arith) e

pub size_done : (cubes : List (List Lit)) (i : ℕ) → length cubes ≤ i → size_of_cubes (map (map literal_of) (drop i cubes)) ≡ 0
size_done [] zero le = refl
size_done [] (suc i) le = refl
size_done (first ∷ cubes) zero le = absurd (omega arith)
size_done (first ∷ cubes) (suc i) le = size_done cubes i (omega arith)

-- one more equation adds its cubes
pub equations_step : (equations : List Equation) (i j : ℕ) (equation : Equation) → i < length equations → j ≡ i + 1 → equation ≡ get_or equations i equation
    → size_of_equations (map equation_of (drop i equations)) ≡ size_of_cubes (map (map literal_of) equation.rows.items) + size_of_equations (map equation_of (drop j equations))
equations_step equations i j equation lt on e = rw (on, add-one) (step equations i equation lt e)
  where
    step : (equations : List Equation) (i : ℕ) (equation : Equation) → i < length equations → equation ≡ get_or equations i equation
        → size_of_equations (map equation_of (drop i equations)) ≡ size_of_cubes (map (map literal_of) equation.rows.items) + size_of_equations (map equation_of (drop (suc i) equations))
    step [] i equation lt e = absurd (omega arith)
    step (first ∷ equations) zero equation lt e =
        ap (λ x. size_of_cubes (map (map literal_of) x.rows.items) + size_of_equations (map equation_of equations)) (sym e)
    step (first ∷ equations) (suc i) equation lt e = step equations i equation (omega arith) e

pub equations_done : (equations : List Equation) (i : ℕ) → length equations ≤ i → size_of_equations (map equation_of (drop i equations)) ≡ 0
equations_done [] zero le = refl
equations_done [] (suc i) le = refl
equations_done (first ∷ equations) zero le = absurd (omega arith)
equations_done (first ∷ equations) (suc i) le = equations_done equations i (omega arith)
