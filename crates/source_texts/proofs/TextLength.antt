-- A text of parts in range is within the limit on bytes.
use Rattle.std.proofs.Common.{◌≡◌, ℕ, ◌*◌, ◌≤◌, Bool, true, false, List, [], ◌∷◌, ◌++◌, length, length-append, map, Option, Some, None, decimal, refl, ◌∙◌, ap, inl, inr, arith}
use Rattle.std.specs.List.{flat_map}
use Rattle.std.proofs.lemmas.Fmt.{length-decimal-le}
use Rattle.std.proofs.lemmas.Grind.{flat_map-append}
use Rattle.pulse_ids.specs.Lists.{IsIn}
use Rattle.aiger_reader.specs.Sources.{limit}
use Rattle.source_texts.specs.Parts.{SourceParts, AreInRange}
use Rattle.source_texts.specs.Texts.{spaced, line, header_numbers, reset_numbers, input_numbers, latch_numbers, output_numbers, and_numbers, header_words, input_words, latch_words, output_words}
use Rattle.source_texts.specs.Texts.{and_words, symbol_words, body_words, source_text}
use Rattle.source_texts.proofs.WordLines.{AreSmall}
use Rattle.source_texts.proofs.SymbolLines.{place_low}
use Rattle.source_texts.proofs.TextHeader.{header_small}
use Rattle.source_texts.proofs.RightLines.{input_small, latch_small, output_small, and_small, few_variables}

-- a decimal has at most ten digits
spaced_length : (numbers : List ℕ) → AreSmall numbers → length (spaced (map decimal numbers)) ≤ 11 * length numbers
spaced_length [] small = omega arith
spaced_length (n ∷ []) small =
    let fits = small n (inl refl) in
    let le = length-decimal-le 10 n (omega arith) (omega arith) (omega arith) in
    omega arith
spaced_length (n ∷ m ∷ numbers) small =
    let fits = small n (inl refl) in
    let le = length-decimal-le 10 n (omega arith) (omega arith) (omega arith) in
    let rest = spaced_length (m ∷ numbers) (λ k i. small k (inr i)) in
    omega (arith, length-append (decimal n) (32 ∷ spaced (map decimal (m ∷ numbers))))

numbers_length : (numbers : List ℕ) → AreSmall numbers → length numbers ≤ 3 → length (line (map decimal numbers)) ≤ 34
numbers_length numbers small few =
    let body = spaced_length numbers small in
    omega (arith, length-append (spaced (map decimal numbers)) (10 ∷ []))

latch_few : (reset : Option Bool) → length (reset_numbers reset) ≤ 1
latch_few None = omega arith
latch_few (Some false) = omega arith
latch_few (Some true) = omega arith

module _ {X : Type 0} (words_of : X → List (List ℕ)) where
  number_lines : (xs : List X) → ((x : X) → IsIn x xs → length (line (words_of x)) ≤ 34) → length (flat_map line (map words_of xs)) ≤ 34 * length xs
  number_lines [] each = omega arith
  number_lines (x ∷ xs) each =
      let first = each x (inl refl) in
      let rest = number_lines xs (λ y i. each y (inr i)) in
      omega (arith, length-append (line (words_of x)) (flat_map line (map words_of xs)))

  symbol_lines : (xs : List X) → ((x : X) → IsIn x xs → length (line (words_of x)) ≤ 1036) → length (flat_map line (map words_of xs)) ≤ 1036 * length xs
  symbol_lines [] each = omega arith
  symbol_lines (x ∷ xs) each =
      let first = each x (inl refl) in
      let rest = symbol_lines xs (λ y i. each y (inr i)) in
      omega (arith, length-append (line (words_of x)) (flat_map line (map words_of xs)))

module _ (parts : SourceParts) (right : AreInRange parts) where
  symbol_length : (symbol : ℕ × ℕ × List ℕ) → IsIn symbol parts.symbols → length (line (symbol_words symbol)) ≤ 1036
  symbol_length symbol i =
      let is = right.each_symbol symbol i in
      let low = place_low parts symbol is right.inputs right.outputs in
      let digits = length-decimal-le 10 symbol.1 (omega arith) (omega arith) (omega arith) in
      omega (arith, is.not_long, digits, length-append (decimal symbol.1) (32 ∷ symbol.2), length-append (spaced (symbol_words symbol)) (10 ∷ []))

  header_length : length (line (header_words parts)) ≤ 61
  header_length =
      let body = spaced_length (header_numbers parts) (header_small parts right) in
      omega (arith, length-append (spaced (header_words parts)) (10 ∷ []))

  pub text_length : length (source_text parts) ≤ limit
  text_length =
      let few = few_variables parts right in
      let s : List (List (List ℕ)) = map symbol_words parts.symbols in
      let d : List (List (List ℕ)) = map and_words parts.ands in
      let c : List (List (List ℕ)) = map output_words parts.outputs in
      let b : List (List (List ℕ)) = map latch_words parts.latches in
      let a : List (List (List ℕ)) = map input_words parts.inputs in
      let a_long : length (flat_map line a) ≤ 34 * length parts.inputs =
      number_lines input_words parts.inputs (λ net i. numbers_length (input_numbers net) (input_small parts.variables few net (right.each_input net i)) (omega arith)) in
      let b_long : length (flat_map line b) ≤ 34 * length parts.latches =
      number_lines latch_words parts.latches (λ latch i. numbers_length (latch_numbers latch) (latch_small parts.variables few latch (right.each_latch latch i))
      (omega (arith, latch_few latch.reset))) in
      let c_long : length (flat_map line c) ≤ 34 * length parts.outputs =
      number_lines output_words parts.outputs (λ literal i. numbers_length (output_numbers literal) (output_small parts.variables few literal (right.each_output literal i)) (omega arith)) in
      let d_long : length (flat_map line d) ≤ 34 * length parts.ands =
      number_lines and_words parts.ands (λ and i. numbers_length (and_numbers and) (and_small parts.variables few and (right.each_and and i)) (omega arith)) in
      let s_long : length (flat_map line s) ≤ 1036 * length parts.symbols = symbol_lines symbol_words parts.symbols symbol_length in
      let split : flat_map line (body_words parts) ≡ flat_map line a ++ (flat_map line b ++ (flat_map line c ++ (flat_map line d ++ flat_map line s))) =
      flat_map-append line a (b ++ (c ++ (d ++ s)))
      ∙ ap (λ (l : List ℕ). flat_map line a ++ l) (flat_map-append line b (c ++ (d ++ s)))
      ∙ ap (λ (l : List ℕ). flat_map line a ++ (flat_map line b ++ l)) (flat_map-append line c (d ++ s))
      ∙ ap (λ (l : List ℕ). flat_map line a ++ (flat_map line b ++ (flat_map line c ++ l))) (flat_map-append line d s) in
      let whole = ap length split in
      omega (
        arith,
        whole,
        header_length,
        a_long,
        b_long,
        c_long,
        d_long,
        s_long,
        right.inputs,
        right.latches,
        right.outputs,
        right.size,
        right.symbols,
        length-append (line (header_words parts)) (flat_map line (body_words parts)),
        length-append (flat_map line a) (flat_map line b ++ (flat_map line c ++ (flat_map line d ++ flat_map line s))),
        length-append (flat_map line b) (flat_map line c ++ (flat_map line d ++ flat_map line s)),
        length-append (flat_map line c) (flat_map line d ++ flat_map line s),
        length-append (flat_map line d) (flat_map line s),
      )
