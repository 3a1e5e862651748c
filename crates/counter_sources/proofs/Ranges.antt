-- The parts of a counter of up to 4,096 bits are in range.
use Rattle.std.proofs.Common.{◌≡◌, ℕ, zero, suc, ◌+◌, ◌*◌, ◌≤◌, ◌<◌, [], ◌∷◌, ◌++◌, length, length-append, map, refl, ◌∙◌, ap, subst, inl, inr, arith}
use Rattle.std.specs.List.{flat_map}
use Rattle.std.proofs.lemmas.List.{length-map}
use Rattle.std.proofs.lemmas.Grind.{flat_map-append}
use Rattle.pulse_ids.specs.Lists.{IsIn, upto}
use Rattle.pulse_ids.proofs.CallerLemmas.{IsIn-from_map, IsIn-from_flat_map}
use Rattle.pulse_ids.proofs.CallerLemmasOnCounts.{length-upto}
use Rattle.source_machine.specs.Machines.{PlainLiteral}
use Rattle.source_machine.specs.Examples.{plain}
use Rattle.workload_circuits.specs.Counters.{held, incoming, counter_outputs}
use Rattle.source_texts.specs.Parts.{SourceLatch, SourceAnd, IsLatchOf, IsAndOf, AreInRange}
use Rattle.counter_sources.specs.Sources.{bit_part, and_parts, counter_parts}
use Rattle.counter_sources.proofs.BitParts.{in_upto}

incoming_high : (bits bit : ℕ) → bit < bits → incoming bits bit ≤ 4 * bits + 1
incoming_high bits zero lt = omega arith
incoming_high bits (suc bit) lt = omega arith

ands_length : (bits count : ℕ) → length (flat_map (and_parts bits) (upto count)) ≡ 3 * count
ands_length bits zero = refl
ands_length bits (suc count) =
    ap length (flat_map-append (and_parts bits) (upto count) (count ∷ [])) ∙ length-append (flat_map (and_parts bits) (upto count)) (and_parts bits count ++ [])
    ∙ (let rest = ands_length bits count in omega arith)

module _ (bits : ℕ) where
  latch_here : (latch : SourceLatch) → IsIn latch (map (bit_part bits) (upto bits)) → IsLatchOf (4 * bits + 1) latch
  latch_here latch i =
      let of = IsIn-from_map (bit_part bits) latch (upto bits) i in
      let lt = in_upto of.0 bits of.1 in
      subst (IsLatchOf (4 * bits + 1)) of.2 (record { out = (omega arith, omega arith); next = omega arith })

  output_here : (literal : PlainLiteral) → IsIn literal (counter_outputs bits) → literal.net ≤ 4 * bits + 1
  output_here literal i =
      let of = IsIn-from_map (λ bit. plain (held bit)) literal (upto bits) i in
      let lt = in_upto of.0 bits of.1 in
      subst (λ (l : PlainLiteral). l.net ≤ 4 * bits + 1) of.2 (omega arith)

  bit_here : (bit : ℕ) → bit < bits → (and : SourceAnd) → IsIn and (and_parts bits bit) → IsAndOf (4 * bits + 1) and
  bit_here bit lt and (inl e) =
      let high = incoming_high bits bit lt in subst (IsAndOf (4 * bits + 1)) e (record { net = (omega arith, omega arith); left = omega arith; right = high })
  bit_here bit lt and (inr (inl e)) =
      let high = incoming_high bits bit lt in subst (IsAndOf (4 * bits + 1)) e (record { net = (omega arith, omega arith); left = omega arith; right = high })
  bit_here bit lt and (inr (inr (inl e))) = subst (IsAndOf (4 * bits + 1)) e (record { net = (omega arith, omega arith); left = omega arith; right = omega arith })
  bit_here bit lt and (inr (inr (inr h))) = absurd h

  pub parts_in_range : bits ≤ 4096 → AreInRange (counter_parts bits)
  parts_in_range le =
      let latches : length (map (bit_part bits) (upto bits)) ≡ bits = length-map (upto bits) (bit_part bits) ∙ length-upto bits in
      let outputs : length (counter_outputs bits) ≡ bits = length-map (upto bits) (λ bit. plain (held bit)) ∙ length-upto bits in
      let ands = ands_length bits bits in
      record {
        variables = omega arith;
        sum = omega (arith, latches, ands);
        inputs = omega arith;
        latches = omega (arith, latches);
        outputs = omega (arith, outputs);
        size = omega (arith, ands);
        symbols = omega arith;
        each_input = λ net i. one net i;
        each_latch = latch_here;
        each_output = output_here;
        each_and = λ and i. let of = IsIn-from_flat_map (and_parts bits) and (upto bits) i in bit_here of.0 (in_upto of.0 bits of.1) and of.2;
        each_symbol = λ symbol i. absurd i;
      }
    where
      one : (net : ℕ) → IsIn net (1 ∷ []) → (1 ≤ net) × (net ≤ 4 * bits + 1)
      one net (inl e) = (omega (arith, e), omega (arith, e))
      one net (inr h) = absurd h
