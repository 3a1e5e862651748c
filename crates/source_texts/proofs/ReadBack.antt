-- A text is judged to be the machine of its parts.
use Rattle.std.proofs.Common.{◌≡◌, ℕ, ◌≤◌, false, ltb, List, [], ◌∷◌, ◌++◌, length, length-append, map, Option, Ok, refl, ◌∙◌, ap, subst, inl, inr, arith}
use Rattle.std.specs.List.{flat_map}
use Rattle.std.proofs.lemmas.Bool.{le-ltb}
use Rattle.std.proofs.lemmas.List.{append_assoc, append-nil}
use Rattle.pulse_ids.proofs.CallerLemmas.{IsIn-append, IsIn-from_map}
use Rattle.source_machine.specs.declared.unset.Unset.{Unset}
use Rattle.word_scan.proofs.CallerLemmasDecimals.{IsFree}
use Rattle.aiger_reader.specs.declared.headers.Header.{Header}
use Rattle.aiger_reader.specs.Units.{units_after, begun_after}
use Rattle.aiger_reader.specs.Sections.{kind_after}
use Rattle.aiger_reader.specs.Sources.{limit, units_of, begun_of, last_unit, all_units, first_refusal, complete, whole_source, unless_shown, judgement}
use Rattle.source_texts.specs.Parts.{SourceParts, AreInRange, machine_from}
use Rattle.source_texts.specs.Texts.{spaced, line, input_numbers, latch_numbers, output_numbers, and_numbers, header_words, input_words, latch_words, output_words, and_words, symbol_words}
use Rattle.source_texts.specs.Texts.{body_words, source_text}
use Rattle.source_texts.specs.Laws.{SourceTextsAreRead}
use Rattle.source_texts.proofs.WordLines.{numbers_free}
use Rattle.source_texts.proofs.WholeLines.{AreWhole, units_on, begun_on, units_are, begun_is, nothing_begun}
use Rattle.source_texts.proofs.SymbolLines.{symbol_whole}
use Rattle.source_texts.proofs.TextHeader.{header_is, header_free, kinds_are, ands_end}
use Rattle.source_texts.proofs.RightLines.{input_small, latch_small, output_small, and_small, few_variables, body_units, units_by_sections, nothing_refused}
use Rattle.source_texts.proofs.TextLength.{text_length}
use Rattle.source_texts.proofs.ToldMachine.{ands_long, parted_ands, machine_told, inputs_here, latches_here, outputs_here, ands_here, symbols_here}

module _ (parts : SourceParts) (right : AreInRange parts) where
  body_whole : AreWhole (body_words parts)
  body_whole words i =
      let few = few_variables parts right in
      elim (IsIn-append words (map input_words parts.inputs) _ i) [
        | inl j ↦
            let of = IsIn-from_map input_words words parts.inputs j in
            subst (λ w. IsFree 10 (spaced w)) of.2 (numbers_free 10 (omega arith) (input_numbers of.0) (input_small parts.variables few of.0 (right.each_input of.0 of.1)))
        | inr j ↦ elim (IsIn-append words (map latch_words parts.latches) _ j) [
          | inl k ↦
              let of = IsIn-from_map latch_words words parts.latches k in
              subst (λ w. IsFree 10 (spaced w)) of.2 (numbers_free 10 (omega arith) (latch_numbers of.0) (latch_small parts.variables few of.0 (right.each_latch of.0 of.1)))
          | inr k ↦ elim (IsIn-append words (map output_words parts.outputs) _ k) [
            | inl l ↦
                let of = IsIn-from_map output_words words parts.outputs l in
                subst (λ w. IsFree 10 (spaced w)) of.2 (numbers_free 10 (omega arith) (output_numbers of.0) (output_small parts.variables few of.0 (right.each_output of.0 of.1)))
            | inr l ↦ elim (IsIn-append words (map and_words parts.ands) _ l) [
              | inl m ↦
                  let of = IsIn-from_map and_words words parts.ands m in
                  subst (λ w. IsFree 10 (spaced w)) of.2 (numbers_free 10 (omega arith) (and_numbers of.0) (and_small parts.variables few of.0 (right.each_and of.0 of.1)))
              | inr m ↦
                  let of = IsIn-from_map symbol_words words parts.symbols m in
                  subst (λ w. IsFree 10 (spaced w)) of.2 (symbol_whole parts of.0 (right.each_symbol of.0 of.1) right.inputs right.outputs)
            ]
          ]
        ]
      ]

  split : source_text parts ≡ spaced (header_words parts) ++ 10 ∷ flat_map line (body_words parts)
  split = append_assoc (spaced (header_words parts)) (10 ∷ []) (flat_map line (body_words parts))

  units_here : units_of (source_text parts) ≡ line (header_words parts) ∷ body_units parts
  units_here =
      ap (units_after kind_after [] []) split
      ∙ units_on kind_after [] refl [] (spaced (header_words parts)) (flat_map line (body_words parts)) (header_free parts right 10 (omega arith))
      ∙ ap (λ (l : List (List ℕ)). line (header_words parts) ∷ l)
      (units_are kind_after (line (header_words parts)) (kinds_are parts right) (body_words parts) [] body_whole ∙ units_by_sections parts)

  begun_here : begun_of (source_text parts) ≡ []
  begun_here =
      ap (begun_after kind_after [] []) split
      ∙ begun_on kind_after [] refl [] (spaced (header_words parts)) (flat_map line (body_words parts)) (header_free parts right 10 (omega arith))
      ∙ begun_is kind_after (line (header_words parts)) (kinds_are parts right) (body_words parts) [] body_whole

  all_here : all_units (source_text parts) ≡ line (header_words parts) ∷ body_units parts
  all_here =
      ap (λ (l : List ℕ). units_of (source_text parts) ++ last_unit (kind_after (units_of (source_text parts))) l) begun_here
      ∙ ap (λ (l : List (List ℕ)). units_of (source_text parts) ++ l) (nothing_begun (kind_after (units_of (source_text parts))))
      ∙ append-nil (units_of (source_text parts)) ∙ units_here

  enough_units : ands_end parts ≤ length (body_units parts)
  enough_units =
      let front : List (List ℕ) = ((inputs_here parts right ++ latches_here parts right) ++ outputs_here parts right) ++ ands_here parts right in
      omega (arith, ap length (parted_ands parts right), length-append front (symbols_here parts right), ands_long parts right)

  whole : (unset : Unset) (bytes : ℕ) → whole_source unset (line (header_words parts) ∷ body_units parts) bytes ≡ Ok (machine_from parts)
  whole unset bytes =
      ap (λ (header : Option Header). complete unset header (body_units parts) bytes) (header_is parts right)
      ∙ (let enough : ltb (length (body_units parts)) (ands_end parts) ≡ false = le-ltb (length (body_units parts)) (ands_end parts) enough_units in
      rw enough refl)
      ∙ ap Ok (machine_told parts right unset)

  judged : (unset : Unset) → judgement unset (source_text parts) ≡ Ok (machine_from parts)
  judged unset =
      (let room : ltb limit (length (source_text parts)) ≡ false = le-ltb limit (length (source_text parts)) (text_length parts right) in
      rw room refl)
      ∙ ap (λ (units : List (List ℕ)). unless_shown (first_refusal unset [] units) (whole_source unset units (length (source_text parts)))) all_here
      ∙ ap (λ shown. unless_shown shown (whole_source unset (line (header_words parts) ∷ body_units parts) (length (source_text parts)))) (nothing_refused parts right unset)
      ∙ whole unset (length (source_text parts))

pub source_texts_are_read : SourceTextsAreRead
source_texts_are_read unset parts right = judged parts right unset
