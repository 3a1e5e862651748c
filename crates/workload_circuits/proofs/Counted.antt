-- A counter counts.
use Rattle.std.proofs.Common.{◌≡◌, ℕ, zero, suc, ◌+◌, ◌*◌, ◌^◌, ◌%◌, ◌<◌, inl, inr, Bool, true, false, not, ◌&&◌, ◌||◌, if◌then◌else◌, List, [], ◌∷◌, length, map, take, slice_index_or}
use Rattle.std.proofs.Common.{refl, sym, ◌∙◌, ap, subst, arith}
use Rattle.std.proofs.lemmas.List.{length-map}
use Rattle.std.proofs.lemmas.Simd.{map-map}
use Rattle.std.proofs.lemmas.Nat.{mod-mul-add}
use Rattle.std.proofs.Math.Nat.{mod-eq_of_lt, mod-add-mod}
use Rattle.pulse_ids.specs.Lists.{IsIn, upto, bit_at}
use Rattle.pulse_ids.proofs.CallerLemmas.{IsIn-flat_map}
use Rattle.pulse_ids.proofs.CallerLemmasOnCounts.{length-upto}
use Rattle.source_machine.specs.Machines.{PlainLiteral, PlainLatch}
use Rattle.source_machine.specs.Examples.{plain, inverse}
use Rattle.source_machine.specs.Runs.{literal_value, equation_value, Agrees, IsRunFrom, initial_state, next_state, output_bits}
use Rattle.workload_circuits.specs.Counters.{held, carry, neither, toggled, incoming, conjunction, bit_latch, bit_equations, counter}
use Rattle.workload_circuits.specs.Counting.{binary, ones_in, CountersCount}
use Rattle.workload_circuits.proofs.Rising.{upto-IsIn}
use Rattle.workload_circuits.proofs.BinaryDigits.{weight, digits_more, binary_below, sum_is}

conjunction_value : (bit : ℕ → Bool) (net : ℕ) (first second : PlainLiteral)
    → equation_value bit (conjunction net first second) ≡ literal_value bit first && literal_value bit second
conjunction_value bit net first second = both (literal_value bit first) (literal_value bit second)
  where
    both : (a b : Bool) → (if (a && (b && true)) || false then true else not true) ≡ a && b
    both true true = refl
    both true false = refl
    both false b = refl

-- one cycle
module _ (bits : ℕ) (state vector valuation : List Bool) (agrees : Agrees (counter bits) state vector valuation) where
  made : (bit : ℕ) → bit < bits → (net : ℕ) (first second : PlainLiteral) → IsIn (conjunction net first second) (bit_equations bits bit)
      → bit_at valuation net ≡ literal_value (bit_at valuation) first && literal_value (bit_at valuation) second
  made bit lt net first second i =
      agrees.equations_agree (conjunction net first second) (IsIn-flat_map (bit_equations bits) (conjunction net first second) bit (upto bits) (upto-IsIn bits bit lt) i)
      ∙ conjunction_value (bit_at valuation) net first second

  carries : (bit : ℕ) → bit < bits → bit_at valuation (carry bits bit) ≡ bit_at valuation (held bit) && bit_at valuation (incoming bits bit)
  carries bit lt = made bit lt (carry bits bit) (plain (held bit)) (plain (incoming bits bit)) (inl refl)

  sums : (bit : ℕ) → bit < bits
      → bit_at valuation (toggled bits bit) ≡ not (bit_at valuation (carry bits bit)) && not (not (bit_at valuation (held bit)) && not (bit_at valuation (incoming bits bit)))
  sums bit lt =
      made bit lt (toggled bits bit) (inverse (carry bits bit)) (inverse (neither bits bit)) (inr (inr (inl refl)))
      ∙ ap (λ (b : Bool). not (bit_at valuation (carry bits bit)) && not b) (made bit lt (neither bits bit) (inverse (held bit)) (inverse (incoming bits bit)) (inr (inl refl)))

  held_bits : map (λ bit. bit_at valuation (held bit)) (upto bits) ≡ state
  held_bits = sym (map-map (λ (latch : PlainLatch). bit_at valuation latch.out) (bit_latch bits) (upto bits)) ∙ agrees.latches_agree

  pub shown : output_bits (counter bits) valuation ≡ state
  shown = map-map (literal_value (bit_at valuation)) (λ bit. plain (held bit)) (upto bits) ∙ held_bits

  next_bits : next_state (counter bits) valuation ≡ map (λ bit. bit_at valuation (toggled bits bit)) (upto bits)
  next_bits = map-map (λ (latch : PlainLatch). literal_value (bit_at valuation) latch.next) (bit_latch bits) (upto bits)

  next_below : binary (next_state (counter bits) valuation) < 2 ^ bits
  next_below =
      subst (λ (n : ℕ). binary (next_state (counter bits) valuation) < 2 ^ n)
      (ap length next_bits ∙ length-map (upto bits) (λ bit. bit_at valuation (toggled bits bit)) ∙ length-upto bits)
      (binary_below (next_state (counter bits) valuation))

  pub state_below : binary state < 2 ^ bits
  state_below =
      subst (λ (n : ℕ). binary state < 2 ^ n)
      (ap length (sym held_bits) ∙ length-map (upto bits) (λ bit. bit_at valuation (held bit)) ∙ length-upto bits) (binary_below state)

  input_bit : bit_at valuation 1 ≡ bit_at vector 0
  input_bit = ap (λ (l : List Bool). bit_at l 0) agrees.inputs_agree

  summed : binary (next_state (counter bits) valuation) + weight (bit_at valuation (incoming bits bits)) bits ≡ binary state + (if bit_at vector 0 then 1 else 0)
  summed =
      ap (λ (l : List Bool). binary l + weight (bit_at valuation (incoming bits bits)) bits) next_bits
      ∙ sum_is (λ bit. bit_at valuation (held bit)) (λ bit. bit_at valuation (incoming bits bit)) (λ bit. bit_at valuation (toggled bits bit)) bits carries sums
      ∙ ap (λ (l : List Bool). binary l + (if bit_at valuation 1 then 1 else 0)) held_bits
      ∙ ap (λ (b : Bool). binary state + (if b then 1 else 0)) input_bit

  pub counted : binary (next_state (counter bits) valuation) ≡ (binary state + (if bit_at vector 0 then 1 else 0)) % 2 ^ bits
  counted = by_carry (bit_at valuation (incoming bits bits)) summed
    where
      by_carry : (carried : Bool) → binary (next_state (counter bits) valuation) + weight carried bits ≡ binary state + (if bit_at vector 0 then 1 else 0)
          → binary (next_state (counter bits) valuation) ≡ (binary state + (if bit_at vector 0 then 1 else 0)) % 2 ^ bits
      by_carry true e =
          sym (mod-mul-add 1 (2 ^ bits) (binary (next_state (counter bits) valuation)) next_below)
          ∙ (let sum : 1 * 2 ^ bits + binary (next_state (counter bits) valuation) ≡ binary state + (if bit_at vector 0 then 1 else 0) = omega (arith, e) in
          ap (λ (n : ℕ). n % 2 ^ bits) sum)
      by_carry false e =
          sym (mod-eq_of_lt next_below)
          ∙ (let sum : binary (next_state (counter bits) valuation) ≡ binary state + (if bit_at vector 0 then 1 else 0) = omega (arith, e) in
          ap (λ (n : ℕ). n % 2 ^ bits) sum)

-- all cycles from a state on
counted_from : (bits : ℕ) (state : List Bool) (vectors valuations : List (List Bool)) → IsRunFrom (counter bits) state vectors valuations → (cycle : ℕ) → cycle < length vectors
    → binary (output_bits (counter bits) (slice_index_or valuations cycle [])) ≡ (binary state + ones_in (take cycle vectors)) % 2 ^ bits
counted_from bits state [] valuations run cycle lt = absurd (omega arith)
counted_from bits state (vector ∷ vectors) [] run cycle lt = absurd run
counted_from bits state (vector ∷ vectors) (valuation ∷ valuations) run zero lt =
    ap binary (shown bits state vector valuation run.0) ∙ sym (mod-eq_of_lt (state_below bits state vector valuation run.0))
    ∙ (let sum : binary state ≡ binary state + 0 = omega arith in ap (λ (n : ℕ). n % 2 ^ bits) sum)
counted_from bits state (vector ∷ vectors) (valuation ∷ valuations) run (suc cycle) lt =
    counted_from bits (next_state (counter bits) valuation) vectors valuations run.1 cycle (omega arith)
    ∙ ap (λ (n : ℕ). (n + ones_in (take cycle vectors)) % 2 ^ bits) (counted bits state vector valuation run.0)
    ∙ mod-add-mod (binary state + (if bit_at vector 0 then 1 else 0)) (2 ^ bits) (ones_in (take cycle vectors))
    ∙ (let sum : (binary state + (if bit_at vector 0 then 1 else 0)) + ones_in (take cycle vectors) ≡ binary state + ((if bit_at vector 0 then 1 else 0) + ones_in (take cycle vectors))
    = omega arith in
    ap (λ (n : ℕ). n % 2 ^ bits) sum)

begins_at_0 : (bits count : ℕ) → binary (map (λ (latch : PlainLatch). latch.init) (map (bit_latch bits) (upto count))) ≡ 0
begins_at_0 bits count = ap binary (map-map (λ (latch : PlainLatch). latch.init) (bit_latch bits) (upto count)) ∙ zeros count
  where
    zeros : (k : ℕ) → binary (map (λ bit. false) (upto k)) ≡ 0
    zeros zero = refl
    zeros (suc k) = digits_more (λ bit. false) k ∙ (let rest = zeros k in omega arith)

pub counters_count : CountersCount
counters_count bits vectors valuations run cycle lt =
    counted_from bits (initial_state (counter bits)) vectors valuations run cycle lt
    ∙ (let sum : binary (initial_state (counter bits)) + ones_in (take cycle vectors) ≡ ones_in (take cycle vectors) = omega (arith, begins_at_0 bits bits) in
    ap (λ (n : ℕ). n % 2 ^ bits) sum)
