-- A counter's text is judged to be the counter.
use Rattle.std.proofs.Common.{◌≡◌, ℕ, ◌+◌, ◌*◌, List, [], ◌∷◌, map, length, Option, None, Ok, refl, ◌∙◌, ap}
use Rattle.std.specs.List.{flat_map}
use Rattle.std.proofs.lemmas.Simd.{map-map}
use Rattle.pulse_ids.specs.Lists.{upto}
use Rattle.source_machine.specs.Machines.{PlainLiteral, PlainLatch, PlainEquation, PlainMachine}
use Rattle.aiger_reader.specs.Machines.{numbers_from}
use Rattle.workload_circuits.specs.Counters.{bit_equations, counter_latches, counter_outputs, counter_equations, counter}
use Rattle.source_texts.specs.Parts.{latch_from, equation_from, name_given, machine_from}
use Rattle.source_texts.proofs.CallerLemmas.{source_texts_are_read}
use Rattle.counter_sources.specs.Sources.{bit_part, and_parts, counter_parts, CountersAreRead}
use Rattle.counter_sources.proofs.BitParts.{parts_alike}
use Rattle.counter_sources.proofs.Ranges.{parts_in_range}

-- ports without names
abbrev nothing : Option (List ℕ)
nothing = None

nameless : (letter first : ℕ) (outputs : List PlainLiteral) → map (λ place. name_given letter place []) (numbers_from first (length outputs)) ≡ map (λ output. nothing) outputs
nameless letter first [] = refl
nameless letter first (output ∷ outputs) = ap (λ l. nothing ∷ l) (nameless letter (first + 1) outputs)

machine_is : (bits : ℕ) → machine_from (counter_parts bits) ≡ counter bits
machine_is bits =
    ap (λ l. machine_with l (map equation_from (flat_map (and_parts bits) (upto bits))) (map (λ place. name_given 111 place []) (numbers_from 0 (length (counter_outputs bits)))))
    (map-map latch_from (bit_part bits) (upto bits))
    ∙ ap (λ e. machine_with (counter_latches bits bits) e (map (λ place. name_given 111 place []) (numbers_from 0 (length (counter_outputs bits)))))
    (parts_alike equation_from (and_parts bits) (bit_equations bits) bits (λ bit. refl))
    ∙ ap (machine_with (counter_latches bits bits) (counter_equations bits bits)) (nameless 111 0 (counter_outputs bits))
  where
    machine_with : List PlainLatch → List PlainEquation → List (Option (List ℕ)) → PlainMachine
    machine_with latches equations output_names = record {
      nets = 4 * bits + 1;
      inputs = 1 ∷ [];
      latches = latches;
      equations = equations;
      outputs = counter_outputs bits;
      input_names = nothing ∷ [];
      output_names = output_names;
    }

pub counters_are_read : CountersAreRead
counters_are_read unset bits le = source_texts_are_read unset (counter_parts bits) (parts_in_range bits le) ∙ ap Ok (machine_is bits)
