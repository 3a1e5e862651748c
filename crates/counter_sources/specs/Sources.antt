-- The source of a counter: an ASCII text of AIGER 1.9.
use Rattle.std.specs.Prelude.{◌≡◌, ℕ, ◌+◌, ◌*◌, ◌≤◌, List, [], ◌∷◌, None, Ok, map, codes}
use Rattle.std.specs.List.{flat_map}
use Rattle.pulse_ids.specs.Lists.{upto}
use Rattle.source_machine.specs.Machines.{PlainLiteral}
use Rattle.source_machine.specs.Examples.{plain, inverse}
use Rattle.source_machine.specs.declared.unset.Unset.{Unset}
use Rattle.aiger_reader.specs.Sources.{judgement}
use Rattle.source_texts.specs.Parts.{SourceLatch, SourceAnd, SourceParts}
use Rattle.source_texts.specs.Texts.{source_text}
use Rattle.workload_circuits.specs.Counters.{held, carry, neither, toggled, incoming, counter_outputs, counter}

-- the latch of a bit, whose line tells no first bit
abbrev pub bit_part : ℕ → ℕ → SourceLatch
bit_part bits bit = record { out = held bit; next = plain (toggled bits bit); reset = None }

-- the conjunctions of a bit
abbrev pub conjunction_part : ℕ → PlainLiteral → PlainLiteral → SourceAnd
conjunction_part net left right = record { net = net; left = left; right = right }

abbrev pub and_parts : ℕ → ℕ → List SourceAnd
and_parts bits bit =
    conjunction_part (carry bits bit) (plain (held bit)) (plain (incoming bits bit)) ∷
    conjunction_part (neither bits bit) (inverse (held bit)) (inverse (incoming bits bit)) ∷
    conjunction_part (toggled bits bit) (inverse (carry bits bit)) (inverse (neither bits bit)) ∷ []

-- a counter has one input, and no names
abbrev pub counter_parts : ℕ → SourceParts
counter_parts bits = record {
  variables = 4 * bits + 1;
  inputs = 1 ∷ [];
  latches = map (bit_part bits) (upto bits);
  outputs = counter_outputs bits;
  ands = flat_map (and_parts bits) (upto bits);
  symbols = [];
}

abbrev pub counter_text : ℕ → List ℕ
counter_text bits = source_text (counter_parts bits)

-- a counter is the machine that its text is judged to be
abbrev pub CountersAreRead : Type 0
CountersAreRead = (unset : Unset) (bits : ℕ) → bits ≤ 4096 → judgement unset (counter_text bits) ≡ Ok (counter bits)

-- the text of a counter of one bit
abbrev pub OneBitIsWritten : Type 0
OneBitIsWritten = counter_text 1 ≡ codes "aag 5 1 1 1 3\n2\n4 10\n4\n6 4 2\n8 5 3\n10 7 9\n"
