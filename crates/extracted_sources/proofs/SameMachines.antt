-- The machine of an outline is that of its parts.
use Rattle.std.proofs.Common.{◌≡◌, ℕ, zero, suc, ◌+◌, Bool, true, false, cond, ◌&&◌, eqb, List, [], ◌∷◌, ◌++◌, map, length, Option, Some, None, refl, sym, ◌∙◌, ap, inl, inr}
use Rattle.std.specs.Option.{option_or}
use Rattle.std.proofs.lemmas.Bool.{cases_eq, eq-eqb, ne_eqb}
use Rattle.std.proofs.lemmas.List.{length-map}
use Rattle.source_machine.specs.Machines.{PlainLatch, PlainEquation, PlainMachine, literal_of}
use Rattle.aiger_reader.specs.Machines as readers
use Rattle.cell_netlist.specs.Names.{name_at}
use Rattle.netlist_extract.specs.Outlines.{PlainOutline}
use Rattle.netlist_extract.specs.Texts.{variables_in}
use Rattle.extracted_machines.specs.Machines.{numbers_from, latch_machine, and_machine, machine_by}
use Rattle.extracted_machines.proofs.CallerLemmas.{length-numbers}
use Rattle.source_texts.specs.Parts.{latch_from, equation_from, name_given, names_given, machine_from}
use Rattle.source_texts.proofs.CallerLemmas.{map_both, map_same}
use Rattle.extracted_sources.specs.Sources.{source_latch, source_and, lettered, parts_of}

numbers_same : (first count : ℕ) → readers.numbers_from first count ≡ numbers_from first count
numbers_same first zero = refl
numbers_same first (suc count) = ap (λ l. first ∷ l) (numbers_same (first + 1) count)

test_turned : (a b : ℕ) → eqb a b ≡ eqb b a
test_turned a b = elim (cases_eq a b) [
  | inl same ↦ eq-eqb a b same ∙ sym (eq-eqb b a (sym same))
  | inr other ↦ ne_eqb a b other ∙ sym (ne_eqb b a (λ e. other (sym e)))
]

-- names of another letter don't count
other_names : (letter other : ℕ) → eqb other letter ≡ false → (place : ℕ) (names : List (ℕ × List ℕ)) → name_given letter place (map (lettered other) names) ≡ None
other_names letter other differ place [] = refl
other_names letter other differ place (named ∷ names) =
    ap (λ (t : Bool). option_or (cond (t && eqb named.0 place) (Some named.1) None) (name_given letter place (map (lettered other) names))) differ
    ∙ other_names letter other differ place names

own_names : (letter : ℕ) → eqb letter letter ≡ true → (place : ℕ) (names : List (ℕ × List ℕ)) (symbols : List (ℕ × ℕ × List ℕ))
    → name_given letter place (map (lettered letter) names ++ symbols) ≡ option_or (name_at names place) (name_given letter place symbols)
own_names letter same place [] symbols = refl
own_names letter same place (named ∷ names) symbols =
    ap (λ (t : Bool). option_or (cond (t && eqb named.0 place) (Some named.1) None) (name_given letter place (map (lettered letter) names ++ symbols))) same
    ∙ ap (λ (t : Bool). option_or (cond t (Some named.1) None) (name_given letter place (map (lettered letter) names ++ symbols))) (test_turned named.0 place)
    ∙ ap (option_or (cond (eqb place named.0) (Some named.1) None)) (own_names letter same place names symbols)
    ∙ first_or (eqb place named.0)
  where
    first_or : (t : Bool) → option_or (cond t (Some named.1) None) (option_or (name_at names place) (name_given letter place symbols))
        ≡ option_or (cond t (Some named.1) (name_at names place)) (name_given letter place symbols)
    first_or true = refl
    first_or false = refl

skipped_names : (letter other : ℕ) → eqb other letter ≡ false → (place : ℕ) (names : List (ℕ × List ℕ)) (symbols : List (ℕ × ℕ × List ℕ))
    → name_given letter place (map (lettered other) names ++ symbols) ≡ name_given letter place symbols
skipped_names letter other differ place [] symbols = refl
skipped_names letter other differ place (named ∷ names) symbols =
    ap (λ (t : Bool). option_or (cond (t && eqb named.0 place) (Some named.1) None) (name_given letter place (map (lettered other) names ++ symbols))) differ
    ∙ skipped_names letter other differ place names symbols

or_none : (name : Option (List ℕ)) → option_or name None ≡ name
or_none None = refl
or_none (Some bytes) = refl

module _ (outline : PlainOutline) where
  input_name : (place : ℕ) → name_given 105 place (parts_of outline).symbols ≡ name_at outline.input_symbols place
  input_name place =
      own_names 105 refl place outline.input_symbols (map (lettered 111) outline.output_symbols)
      ∙ ap (option_or (name_at outline.input_symbols place)) (other_names 105 111 refl place outline.output_symbols) ∙ or_none (name_at outline.input_symbols place)

  no_append : {X : Type 0} (xs : List X) → xs ++ [] ≡ xs
  no_append [] = refl
  no_append (x ∷ xs) = ap (λ l. x ∷ l) (no_append xs)

  output_name : (place : ℕ) → name_given 111 place (parts_of outline).symbols ≡ name_at outline.output_symbols place
  output_name place =
      skipped_names 111 105 refl place outline.input_symbols (map (lettered 111) outline.output_symbols)
      ∙ ap (name_given 111 place) (sym (no_append (map (lettered 111) outline.output_symbols)))
      ∙ own_names 111 refl place outline.output_symbols [] ∙ or_none (name_at outline.output_symbols place)

  names_same : (letter count given : ℕ) (names : List (ℕ × List ℕ)) → count ≡ given → ((place : ℕ) → name_given letter place (parts_of outline).symbols ≡ name_at names place)
      → names_given letter count (parts_of outline).symbols ≡ map (name_at names) (numbers_from 0 given)
  names_same letter count given names same each =
      ap (λ n. map (λ place. name_given letter place (parts_of outline).symbols) (readers.numbers_from 0 n)) same
      ∙ ap (map (λ place. name_given letter place (parts_of outline).symbols)) (numbers_same 0 given)
      ∙ map_same (λ place. name_given letter place (parts_of outline).symbols) (name_at names) (numbers_from 0 given) each

  abbrev machine_with : List PlainLatch → List PlainEquation → List (Option (List ℕ)) → List (Option (List ℕ)) → PlainMachine
  machine_with latches equations input_names output_names = record {
    nets = variables_in outline;
    inputs = numbers_from 1 outline.inputs;
    latches = latches;
    equations = equations;
    outputs = map literal_of outline.outputs;
    input_names = input_names;
    output_names = output_names;
  }

  pub machine_same : machine_from (parts_of outline) ≡ machine_by outline
  machine_same =
      let inputs : ℕ = length (numbers_from 1 outline.inputs) in
      let outputs : ℕ = length (map literal_of outline.outputs) in
      let symbols : List (ℕ × ℕ × List ℕ) = (parts_of outline).symbols in
      ap (λ l. machine_with l (map equation_from (map source_and outline.ands)) (names_given 105 inputs symbols) (names_given 111 outputs symbols))
      (map_both latch_from source_latch latch_machine outline.latches (λ latch i. refl))
      ∙ ap (λ e. machine_with (map latch_machine outline.latches) e (names_given 105 inputs symbols) (names_given 111 outputs symbols))
      (map_both equation_from source_and and_machine outline.ands (λ and i. refl))
      ∙ ap (λ n. machine_with (map latch_machine outline.latches) (map and_machine outline.ands) n (names_given 111 outputs symbols))
      (names_same 105 inputs outline.inputs outline.input_symbols (length-numbers 1 outline.inputs) input_name)
      ∙ ap (machine_with (map latch_machine outline.latches) (map and_machine outline.ands) (map (name_at outline.input_symbols) (numbers_from 0 outline.inputs)))
      (names_same 111 outputs (length outline.outputs) outline.output_symbols (length-map outline.outputs literal_of) output_name)
