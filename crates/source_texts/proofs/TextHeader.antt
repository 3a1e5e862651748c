-- The header of a text, and the sections behind it.
use Rattle.std.proofs.Common.{◌≡◌, ℕ, ◌+◌, ◌*◌, ◌≤◌, ◌<◌, Bool, true, false, cond, leb, ltb, List, ◌∷◌, length, Some, None, codes, refl, ◌∙◌, ap, subst, inl, inr, arith}
use Rattle.std.proofs.lemmas.Bool.{lt-ltb, le-ltb, le-leb, ne_eqb}
use Rattle.std.proofs.lemmas.List.Elements.{All-from_recursion}
use Rattle.pulse_ids.specs.Quantities.{greatest_of}
use Rattle.pulse_ids.specs.declared.quantities.Quantity.TheVariants as quantities
use Rattle.word_scan.specs.Words.{is_blank, words_of}
use Rattle.word_scan.proofs.CallerLemmasDecimals.{IsFree}
use Rattle.aiger_reader.specs.declared.headers.Spelling.TheVariants.{Ascii}
use Rattle.aiger_reader.specs.declared.headers.Header.{Header}
use Rattle.aiger_reader.specs.declared.units.UnitKind.TheVariants.{Line}
use Rattle.aiger_reader.specs.declared.sections.Section.TheVariants.{Inputs, Latches, Outputs, Ands, Behind}
use Rattle.aiger_reader.specs.Headers.{header_with, header_of_words, header_of_numbers, header_in, counts_refusal}
use Rattle.aiger_reader.specs.Sections.{section_of, kind_of, kind_at, kind_after}
use Rattle.source_texts.specs.Parts.{SourceParts, AreInRange}
use Rattle.source_texts.specs.Texts.{spaced, line, header_numbers, header_words}
use Rattle.source_texts.proofs.WordLines.{IsWord, AreWords, AreSmall, numbers_words, numbers_free, words_spaced, numbers_back, line_is}

-- the header that the text has
abbrev pub header_of : SourceParts → Header
header_of parts = header_with Ascii (header_numbers parts)

-- where its sections end
abbrev pub inputs_end : SourceParts → ℕ
inputs_end parts = length parts.inputs

abbrev pub latches_end : SourceParts → ℕ
latches_end parts = length parts.inputs + length parts.latches

abbrev pub outputs_end : SourceParts → ℕ
outputs_end parts = length parts.inputs + length parts.latches + length parts.outputs

abbrev pub ands_end : SourceParts → ℕ
ands_end parts = length parts.inputs + length parts.latches + length parts.outputs + length parts.ands

module _ (parts : SourceParts) (right : AreInRange parts) where
  pub header_small : AreSmall (header_numbers parts)
  header_small n (inl e) = omega (arith, e, right.variables)
  header_small n (inr (inl e)) = omega (arith, e, right.inputs)
  header_small n (inr (inr (inl e))) = omega (arith, e, right.latches)
  header_small n (inr (inr (inr (inl e)))) = omega (arith, e, right.outputs)
  header_small n (inr (inr (inr (inr (inl e))))) = omega (arith, e, right.size)
  header_small n (inr (inr (inr (inr (inr i))))) = absurd i

  header_are_words : AreWords (header_words parts)
  header_are_words word (inl e) =
      subst IsWord e (record {
        not_empty = refl;
        unparted = All-from_recursion (λ byte. is_blank byte ≡ false) (codes "aag") (refl, (refl, (refl, tt)));
      })
  header_are_words word (inr i) = numbers_words (header_numbers parts) header_small word i

  pub header_free : (t : ℕ) → t < 32 → IsFree t (spaced (header_words parts))
  header_free t lt =
      (ne_eqb 97 t (λ e. omega arith), (ne_eqb 97 t (λ e. omega arith), (ne_eqb 103 t (λ e. omega arith), (ne_eqb 32 t (λ e. omega arith), numbers_free t lt (header_numbers parts) header_small))))

  pub header_is : header_in (line (header_words parts)) ≡ Some (header_of parts)
  header_is =
      ap (λ (l : List ℕ). header_of_words Ascii (words_of l)) (line_is (spaced (header_words parts)) (header_free 13 (omega arith)))
      ∙ ap (header_of_words Ascii) (words_spaced (header_words parts) header_are_words)
      ∙ ap (header_of_numbers Ascii) (numbers_back (header_numbers parts) header_small)

  pub header_right : counts_refusal (header_of parts) ≡ None
  header_right =
      let sum : leb (length parts.inputs + length parts.latches + length parts.ands) parts.variables ≡ true =
      le-leb (length parts.inputs + length parts.latches + length parts.ands) parts.variables right.sum in
      let nets : ltb (greatest_of quantities.Nets) parts.variables ≡ false = le-ltb (greatest_of quantities.Nets) parts.variables right.variables in
      let inputs : ltb (greatest_of quantities.Inputs) (length parts.inputs) ≡ false = le-ltb (greatest_of quantities.Inputs) (length parts.inputs) right.inputs in
      let latches : ltb (greatest_of quantities.Latches) (length parts.latches) ≡ false = le-ltb (greatest_of quantities.Latches) (length parts.latches) right.latches in
      let outputs : ltb (greatest_of quantities.Outputs) (length parts.outputs) ≡ false = le-ltb (greatest_of quantities.Outputs) (length parts.outputs) right.outputs in
      let size : ltb (greatest_of quantities.Size) (3 * length parts.ands) ≡ false = le-ltb (greatest_of quantities.Size) (3 * length parts.ands) right.size in
      rw (sum, nets, inputs, latches, outputs, size) refl

-- the section of each line
module _ (parts : SourceParts) (place : ℕ) where
  pub in_inputs : place < inputs_end parts → section_of (header_of parts) place ≡ Inputs
  in_inputs high = let one : ltb place (inputs_end parts) ≡ true = lt-ltb place (inputs_end parts) high in rw one refl

  pub in_latches : inputs_end parts ≤ place → place < latches_end parts → section_of (header_of parts) place ≡ Latches
  in_latches low high =
      let one : ltb place (inputs_end parts) ≡ false = le-ltb place (inputs_end parts) low in
      let two : ltb place (latches_end parts) ≡ true = lt-ltb place (latches_end parts) high in
      rw (one, two) refl

  pub in_outputs : latches_end parts ≤ place → place < outputs_end parts → section_of (header_of parts) place ≡ Outputs
  in_outputs low high =
      let one : ltb place (inputs_end parts) ≡ false = le-ltb place (inputs_end parts) (omega arith) in
      let two : ltb place (latches_end parts) ≡ false = le-ltb place (latches_end parts) low in
      let three : ltb place (outputs_end parts) ≡ true = lt-ltb place (outputs_end parts) high in
      rw (one, two, three) refl

  pub in_ands : outputs_end parts ≤ place → place < ands_end parts → section_of (header_of parts) place ≡ Ands
  in_ands low high =
      let one : ltb place (inputs_end parts) ≡ false = le-ltb place (inputs_end parts) (omega arith) in
      let two : ltb place (latches_end parts) ≡ false = le-ltb place (latches_end parts) (omega arith) in
      let three : ltb place (outputs_end parts) ≡ false = le-ltb place (outputs_end parts) low in
      let four : ltb place (ands_end parts) ≡ true = lt-ltb place (ands_end parts) high in
      rw (one, two, three, four) refl

  pub behind_sections : ands_end parts ≤ place → section_of (header_of parts) place ≡ Behind
  behind_sections low =
      let one : ltb place (inputs_end parts) ≡ false = le-ltb place (inputs_end parts) (omega arith) in
      let two : ltb place (latches_end parts) ≡ false = le-ltb place (latches_end parts) (omega arith) in
      let three : ltb place (outputs_end parts) ≡ false = le-ltb place (outputs_end parts) (omega arith) in
      let four : ltb place (ands_end parts) ≡ false = le-ltb place (ands_end parts) low in
      rw (one, two, three, four) refl

  -- all units of an ASCII text are lines
  lines_at : kind_of (section_of (header_of parts) place) ≡ Line
  lines_at = by_tests (ltb place (inputs_end parts)) (ltb place (latches_end parts)) (ltb place (outputs_end parts)) (ltb place (ands_end parts))
    where
      by_tests : (a b c d : Bool) → kind_of (cond a Inputs (cond b Latches (cond c Outputs (cond d Ands Behind)))) ≡ Line
      by_tests true b c d = refl
      by_tests false true c d = refl
      by_tests false false true d = refl
      by_tests false false false true = refl
      by_tests false false false false = refl

pub kinds_are : (parts : SourceParts) → AreInRange parts → (more : List (List ℕ)) → kind_after (line (header_words parts) ∷ more) ≡ Line
kinds_are parts right more = ap (λ header. kind_at header (length more)) (header_is parts right) ∙ lines_at parts (length more)
