-- The text of an outline is that of its parts.
use Rattle.std.proofs.Common.{◌≡◌, Some, ℕ, zero, suc, ◌+◌, ◌*◌, Bool, true, false, List, [], ◌∷◌, ◌++◌, map, length, codes, decimal, refl, sym, ◌∙◌, ap, arith}
use Rattle.std.specs.List.{flat_map}
use Rattle.std.proofs.lemmas.Fmt.{decimal_digit}
use Rattle.std.proofs.lemmas.List.{append_assoc, map-append, length-map}
use Rattle.pulse_ids.specs.Lists.{upto}
use Rattle.source_machine.specs.Machines.{literal_of}
use Rattle.cell_netlist.specs.Text as netlist_texts
use Rattle.cell_netlist.specs.Text.{bit_word}
use Rattle.netlist_extract.specs.declared.outlines.LatchPart.{LatchPart}
use Rattle.netlist_extract.specs.Outlines.{PlainOutline}
use Rattle.netlist_extract.specs.Texts as outlines
use Rattle.netlist_extract.specs.Texts.{literal_word, variable_word, variables_in, section_words, symbols_words, aiger_text}
use Rattle.extracted_machines.specs.Machines.{numbers_from}
use Rattle.extracted_machines.proofs.CallerLemmas.{numbers-last, length-numbers}
use Rattle.source_texts.specs.Texts.{spaced, line, reset_numbers, header_words, input_words, latch_words, output_words, and_words, symbol_words, body_words, source_text}
use Rattle.source_texts.proofs.CallerLemmas.{map_both}
use Rattle.extracted_sources.specs.Sources.{source_latch, source_and, lettered, parts_of}

line_same : (words : List (List ℕ)) → netlist_texts.line_of words ≡ line words
line_same [] = refl
line_same (word ∷ []) = refl
line_same (word ∷ next ∷ words) =
    ap (λ (l : List ℕ). word ++ 32 ∷ l) (line_same (next ∷ words)) ∙ sym (append_assoc word (32 ∷ spaced (next ∷ words)) (10 ∷ []))

lines_same : (lines : List (List (List ℕ))) → flat_map netlist_texts.line_of lines ≡ flat_map line lines
lines_same [] = refl
lines_same (words ∷ lines) =
    ap (λ (l : List ℕ). l ++ flat_map netlist_texts.line_of lines) (line_same words) ∙ ap (λ (l : List ℕ). line words ++ l) (lines_same lines)

ports_same : (count : ℕ) → map outlines.input_words (upto count) ≡ map input_words (numbers_from 1 count)
ports_same zero = refl
ports_same (suc count) =
    map-append outlines.input_words (upto count) (count ∷ [])
    ∙ ap (λ l. l ++ map outlines.input_words (count ∷ [])) (ports_same count)
    ∙ ap (λ n. map input_words (numbers_from 1 count) ++ (decimal (2 * n) ∷ []) ∷ []) (omega arith)
    ∙ sym (map-append input_words (numbers_from 1 count) ((1 + count) ∷ [])) ∙ ap (map input_words) (sym (numbers-last 1 count))

bit_same : (bit : Bool) → bit_word bit ∷ [] ≡ map decimal (reset_numbers (Some bit))
bit_same false = ap (λ (w : List ℕ). w ∷ []) (sym (decimal_digit 0 (omega arith)))
bit_same true = ap (λ (w : List ℕ). w ∷ []) (sym (decimal_digit 1 (omega arith)))

latch_same : (latch : LatchPart) → outlines.latch_words latch ≡ latch_words (source_latch latch)
latch_same latch = ap (λ (l : List (List ℕ)). variable_word latch.variable.number ∷ literal_word latch.next ∷ l) (bit_same latch.first)

module _ (outline : PlainOutline) where
  header_same : outlines.header_words outline ≡ header_words (parts_of outline)
  header_same =
      ap (λ n. codes "aag" ∷ decimal (variables_in outline) ∷ decimal n ∷ decimal (length outline.latches) ∷ decimal (length outline.outputs) ∷ decimal (length outline.ands) ∷ [])
      (sym (length-numbers 1 outline.inputs))
      ∙ ap (λ n. codes "aag" ∷ decimal (variables_in outline) ∷ decimal (length (numbers_from 1 outline.inputs)) ∷ decimal n ∷ decimal (length outline.outputs) ∷ decimal (length outline.ands) ∷ [])
      (sym (length-map outline.latches source_latch))
      ∙ ap (λ n. codes "aag" ∷ decimal (variables_in outline) ∷ decimal (length (numbers_from 1 outline.inputs)) ∷ decimal (length (map source_latch outline.latches)) ∷ decimal n
      ∷ decimal (length outline.ands) ∷ [])
      (sym (length-map outline.outputs literal_of))
      ∙ ap (λ n. codes "aag" ∷ decimal (variables_in outline) ∷ decimal (length (numbers_from 1 outline.inputs)) ∷ decimal (length (map source_latch outline.latches))
      ∷ decimal (length (map literal_of outline.outputs)) ∷ decimal n ∷ [])
      (sym (length-map outline.ands source_and))

  symbols_same : symbols_words outline ≡ map symbol_words (parts_of outline).symbols
  symbols_same =
      let ins : List (List (List ℕ)) = map (outlines.symbol_words (codes "i")) outline.input_symbols in
      ap (λ l. ins ++ l) (sym (map_both symbol_words (lettered 111) (outlines.symbol_words (codes "o")) outline.output_symbols (λ named i. refl)))
      ∙ ap (λ l. l ++ map symbol_words (map (lettered 111) outline.output_symbols))
      (sym (map_both symbol_words (lettered 105) (outlines.symbol_words (codes "i")) outline.input_symbols (λ named i. refl)))
      ∙ sym (map-append symbol_words (map (lettered 105) outline.input_symbols) (map (lettered 111) outline.output_symbols))

  body_same : section_words outline ++ symbols_words outline ≡ body_words (parts_of outline)
  body_same =
      let i : List (List (List ℕ)) = map outlines.input_words (upto outline.inputs) in
      let l : List (List (List ℕ)) = map outlines.latch_words outline.latches in
      let o : List (List (List ℕ)) = map outlines.output_words outline.outputs in
      let a : List (List (List ℕ)) = map outlines.and_words outline.ands in
      let s : List (List (List ℕ)) = symbols_words outline in
      let i' : List (List (List ℕ)) = map input_words (numbers_from 1 outline.inputs) in
      let l' : List (List (List ℕ)) = map latch_words (map source_latch outline.latches) in
      let o' : List (List (List ℕ)) = map output_words (map literal_of outline.outputs) in
      let a' : List (List (List ℕ)) = map and_words (map source_and outline.ands) in
      append_assoc i (l ++ (o ++ a)) s ∙ ap (λ x. i ++ x) (append_assoc l (o ++ a) s) ∙ ap (λ x. i ++ (l ++ x)) (append_assoc o a s)
      ∙ ap (λ x. x ++ (l ++ (o ++ (a ++ s)))) (ports_same outline.inputs)
      ∙ ap (λ x. i' ++ (x ++ (o ++ (a ++ s)))) (sym (map_both latch_words source_latch outlines.latch_words outline.latches (λ latch i. sym (latch_same latch))))
      ∙ ap (λ x. i' ++ (l' ++ (x ++ (a ++ s)))) (sym (map_both output_words literal_of outlines.output_words outline.outputs (λ literal i. refl)))
      ∙ ap (λ x. i' ++ (l' ++ (o' ++ (x ++ s)))) (sym (map_both and_words source_and outlines.and_words outline.ands (λ and i. refl)))
      ∙ ap (λ x. i' ++ (l' ++ (o' ++ (a' ++ x)))) symbols_same

  pub text_same : aiger_text outline ≡ source_text (parts_of outline)
  text_same =
      ap (λ words. flat_map netlist_texts.line_of (words ∷ (section_words outline ++ symbols_words outline))) header_same
      ∙ ap (λ lines. flat_map netlist_texts.line_of (header_words (parts_of outline) ∷ lines)) body_same
      ∙ lines_same (header_words (parts_of outline) ∷ body_words (parts_of outline))
