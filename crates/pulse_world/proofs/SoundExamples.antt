-- The law at small netlists, which are sound by computation.
use Rattle.std.proofs.Common.{◌≡◌, ℕ, zero, suc, Bool, true, false, not, ◌&&◌, ◌||◌, Some, List, [], ◌∷◌, slice_get, refl, ap, ◌∙◌, subst, inl, inr}
use Rattle.cell_netlist.specs.declared.lines.Rail.{Rail}
use Rattle.pulse_ids.specs.Lists.{IsIn, bit_at}
use Rattle.cell_netlist.specs.Netlists.{PlainNetlist, wire_of}
use Rattle.cell_netlist.specs.World.{has_sign}
use Rattle.cell_netlist.specs.RailEquations.{LatchState, IsRails, first_state, next_state, IsNetRun}
use Rattle.cell_netlist.specs.Sound.{IsSound}
use Rattle.pulse_world.specs.Delivery.{Delivers}
use Rattle.cell_netlist.specs.ExampleNetlists.{toggle, half_adder}
use Rattle.cell_netlist.proofs.CallerLemmas.{is_sound-at}
use Rattle.cell_netlist.specs.NetRuns.{bits_in, latches_from}
use Rattle.cell_netlist.proofs.CallerLemmasOnRuns.{vector-is, run_rails, run_exists}
use Rattle.pulse_world.specs.Examples.{exclusive_or, is_odd, sum_and_carry, HalfAdderDelivers, constant, ConstantDelivers, state_and_complement, ToggleDelivers, inverter, InverterDelivers}
use Rattle.pulse_world.proofs.PortBits.{bit_law}

-- the bits of the cycle's equations at the output rails
abbrev CarryOf : PlainNetlist → (bit : ℕ → Bool) → List Bool → Type 0
CarryOf net bit bits = (rail : Rail) → IsIn rail net.output_rails → bit_at bits (wire_of rail) ≡ has_sign (bit rail.port) rail.sign

-- a sound netlist delivers what its equations give in each cycle of each run
delivers : (net : PlainNetlist) → IsSound net → (vectors : List (List Bool)) (bit : ℕ → ℕ → Bool)
    → ((run : List (List Bool)) → IsNetRun net vectors run → (cycle : ℕ) (vector : List Bool) → slice_get vectors cycle ≡ Some vector
    → IsRails net (latches_from net (first_state net) run cycle) (bits_in vectors cycle) (bits_in run cycle) → CarryOf net (bit cycle) (bits_in run cycle))
    → Delivers net vectors bit
delivers net sound vectors bit carry =
    let run = run_exists net sound vectors in
    bit_law net sound vectors run.0 bit run.1 (λ cycle vector e.
    carry run.0 run.1 cycle vector e
    (subst (λ v. IsRails net (latches_from net (first_state net) run.0 cycle) v (bits_in run.0 cycle)) (vector-is vectors cycle vector e)
    (run_rails net vectors run.0 run.1 cycle vector e)))

-- an or of two bits and of their complements is their exclusive or
sum_is : (a b : Bool) → ((not a || not b) && (a || b)) ≡ exclusive_or a b
sum_is false false = refl
sum_is false true = refl
sum_is true false = refl
sum_is true true = refl

half_adder_carries : (state : LatchState) (vector bits : List Bool) → IsRails half_adder state vector bits → CarryOf half_adder (sum_and_carry vector) bits
half_adder_carries state vector bits its rail i =
    let r0 : bit_at bits 0 ≡ bit_at vector 0 = its.rails _ (inl refl) in
    let r1 : bit_at bits 1 ≡ not (bit_at vector 0) = its.rails _ (inr (inl refl)) in
    let r2 : bit_at bits 2 ≡ bit_at vector 1 = its.rails _ (inr (inr (inl refl))) in
    let r3 : bit_at bits 3 ≡ not (bit_at vector 1) = its.rails _ (inr (inr (inr (inl refl)))) in
    let left = its.cells _ (inl refl) in
    let right = its.cells _ (inr (inl refl)) in
    let w4 : bit_at bits 4 ≡ bit_at vector 0 = left.0 ∙ r0 in
    let w5 : bit_at bits 5 ≡ bit_at vector 0 = left.1 ∙ r0 in
    let w6 : bit_at bits 6 ≡ bit_at vector 1 = right.0 ∙ r2 in
    let w7 : bit_at bits 7 ≡ bit_at vector 1 = right.1 ∙ r2 in
    let w8 : bit_at bits 8 ≡ (bit_at bits 4 && bit_at bits 6) = its.cells _ (inr (inr (inl refl))) in
    let w9 : bit_at bits 9 ≡ (bit_at bits 1 || bit_at bits 3) = its.cells _ (inr (inr (inr (inl refl)))) in
    let w10 : bit_at bits 10 ≡ (bit_at bits 5 || bit_at bits 7) = its.cells _ (inr (inr (inr (inr (inl refl))))) in
    let w11 : bit_at bits 11 ≡ (bit_at bits 9 && bit_at bits 10) = its.cells _ (inr (inr (inr (inr (inr (inl refl)))))) in
    let sum : bit_at bits 11 ≡ exclusive_or (bit_at vector 0) (bit_at vector 1) =
    rw (w11, w9, w10, r1, r3, w5, w7) (sum_is (bit_at vector 0) (bit_at vector 1)) in
    let carry : bit_at bits 8 ≡ (bit_at vector 0 && bit_at vector 1) = rw (w8, w4, w6) refl in
    at_rail rail i sum carry
  where
    at_rail : (rail : Rail) → IsIn rail half_adder.output_rails → bit_at bits 11 ≡ sum_and_carry vector 0 → bit_at bits 8 ≡ sum_and_carry vector 1
        → bit_at bits (wire_of rail) ≡ has_sign (sum_and_carry vector rail.port) rail.sign
    at_rail rail (inl same) sum carry = subst (λ (r : Rail). bit_at bits (wire_of r) ≡ has_sign (sum_and_carry vector r.port) r.sign) same sum
    at_rail rail (inr (inl same)) sum carry = subst (λ (r : Rail). bit_at bits (wire_of r) ≡ has_sign (sum_and_carry vector r.port) r.sign) same carry
    at_rail rail (inr (inr none)) sum carry = absurd none

pub half_adder_delivers : HalfAdderDelivers
half_adder_delivers vectors =
    delivers half_adder (is_sound-at half_adder refl) vectors (λ cycle port. sum_and_carry (bits_in vectors cycle) port)
    (λ run h cycle vector e. half_adder_carries (latches_from half_adder (first_state half_adder) run cycle) (bits_in vectors cycle) (bits_in run cycle))

constant_is_sound : (bit : Bool) → IsSound (constant bit)
constant_is_sound false = is_sound-at (constant false) refl
constant_is_sound true = is_sound-at (constant true) refl

constant_carries : (bit : Bool) (state : LatchState) (vector bits : List Bool) → IsRails (constant bit) state vector bits → CarryOf (constant bit) (λ port. bit) bits
constant_carries bit state vector bits its rail (inl same) =
    subst (λ (r : Rail). bit_at bits (wire_of r) ≡ has_sign bit r.sign) same ((its.cells _ (inl refl)).0)
constant_carries bit state vector bits its rail (inr none) = absurd none

pub constant_delivers : ConstantDelivers
constant_delivers bit vectors =
    delivers (constant bit) (constant_is_sound bit) vectors (λ cycle port. bit)
    (λ run h cycle vector e. constant_carries bit (latches_from (constant bit) (first_state (constant bit)) run cycle) (bits_in vectors cycle) (bits_in run cycle))

inverter_carries : (state : LatchState) (vector bits : List Bool) → IsRails inverter state vector bits → CarryOf inverter (λ port. not (bit_at vector 0)) bits
inverter_carries state vector bits its rail i =
    at_rail rail i (its.rails _ (inr (inl refl))) (its.rails _ (inl refl) ∙ twice (bit_at vector 0))
  where
    twice : (bit : Bool) → bit ≡ not (not bit)
    twice false = refl
    twice true = refl

    at_rail : (rail : Rail) → IsIn rail inverter.output_rails → bit_at bits 1 ≡ not (bit_at vector 0) → bit_at bits 0 ≡ not (not (bit_at vector 0))
        → bit_at bits (wire_of rail) ≡ has_sign (not (bit_at vector 0)) rail.sign
    at_rail rail (inl same) one other = subst (λ (r : Rail). bit_at bits (wire_of r) ≡ has_sign (not (bit_at vector 0)) r.sign) same one
    at_rail rail (inr (inl same)) one other = subst (λ (r : Rail). bit_at bits (wire_of r) ≡ has_sign (not (bit_at vector 0)) r.sign) same other
    at_rail rail (inr (inr none)) one other = absurd none

pub inverter_delivers : InverterDelivers
inverter_delivers vectors =
    delivers inverter (is_sound-at inverter refl) vectors (λ cycle port. not (bit_at (bits_in vectors cycle) 0))
    (λ run h cycle vector e. inverter_carries (latches_from inverter (first_state inverter) run cycle) (bits_in vectors cycle) (bits_in run cycle))

-- each cycle before one that has a vector has one too
earlier_vector : (vectors : List (List Bool)) (cycle : ℕ) (vector : List Bool) → slice_get vectors (suc cycle) ≡ Some vector
    → (earlier : List Bool) × (slice_get vectors cycle ≡ Some earlier)
earlier_vector [] cycle vector e = absurd cc
earlier_vector (v ∷ vectors) zero vector e = (v, refl)
earlier_vector (v ∷ vectors) (suc cycle) vector e = earlier_vector vectors cycle vector e

-- what a cycle's bits tell of the toggle: its outputs, and its next state
toggle_told : (state : LatchState) (vector bits : List Bool) → IsRails toggle state vector bits
    → (bit_at bits 0 ≡ state 4) × (bit_at bits 3 ≡ not (state 4)) × (next_state toggle bits 4 ≡ not (state 4))
toggle_told state vector bits its =
    let back = its.cells _ (inl refl) in
    let copies = its.cells _ (inr (inl refl)) in
    (back.0, copies.1 ∙ back.1, copies.0 ∙ back.1)

-- the toggle's state is 1 in the odd cycles
toggle_state : (vectors run : List (List Bool)) → IsNetRun toggle vectors run → (cycle : ℕ) (vector : List Bool) → slice_get vectors cycle ≡ Some vector
    → latches_from toggle (first_state toggle) run cycle 4 ≡ is_odd cycle
toggle_state vectors run h zero vector e = refl
toggle_state vectors run h (suc cycle) vector e =
    let before = earlier_vector vectors cycle vector e in
    let told = toggle_told (latches_from toggle (first_state toggle) run cycle) before.0 (bits_in run cycle) (run_rails toggle vectors run h cycle before.0 before.1) in
    told.2 ∙ ap not (toggle_state vectors run h cycle before.0 before.1)

toggle_carries : (state : LatchState) (vector bits : List Bool) (cycle : ℕ) → IsRails toggle state vector bits → state 4 ≡ is_odd cycle
    → CarryOf toggle (state_and_complement cycle) bits
toggle_carries state vector bits cycle its odd rail i =
    let told = toggle_told state vector bits its in
    at_rail rail i (told.0 ∙ odd) (told.1 ∙ ap not odd)
  where
    at_rail : (rail : Rail) → IsIn rail toggle.output_rails → bit_at bits 0 ≡ is_odd cycle → bit_at bits 3 ≡ not (is_odd cycle)
        → bit_at bits (wire_of rail) ≡ has_sign (state_and_complement cycle rail.port) rail.sign
    at_rail rail (inl same) one other = subst (λ (r : Rail). bit_at bits (wire_of r) ≡ has_sign (state_and_complement cycle r.port) r.sign) same one
    at_rail rail (inr (inl same)) one other = subst (λ (r : Rail). bit_at bits (wire_of r) ≡ has_sign (state_and_complement cycle r.port) r.sign) same other
    at_rail rail (inr (inr none)) one other = absurd none

pub toggle_delivers : ToggleDelivers
toggle_delivers vectors =
    delivers toggle (is_sound-at toggle refl) vectors state_and_complement
    (λ run h cycle vector e its. toggle_carries (latches_from toggle (first_state toggle) run cycle) (bits_in vectors cycle) (bits_in run cycle) cycle its
    (toggle_state vectors run h cycle vector e))
