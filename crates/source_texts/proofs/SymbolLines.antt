-- The line of a symbol is read back.
use Rattle.std.proofs.Common.{◌≡◌, ◌≢◌, ◌⊎◌, ℕ, suc, ◌+◌, ◌^◌, ◌<◌, ◌≤◌, Bool, true, false, not, ◌&&◌, cond, eqb, ltb, List, [], ◌∷◌, ◌++◌, length, take, drop, Some, None, decimal, All}
use Rattle.std.proofs.Common.{refl, ◌∙◌, ap, inl, inr, add-one, arith}
use Rattle.std.specs.Prelude.{option_and_then}
use Rattle.std.specs.List.{position_or_len, before_first, after_first}
use Rattle.std.specs.Char.{is_ascii_digit}
use Rattle.std.proofs.lemmas.Bool.{ne_eqb, lt-ltb, le-ltb}
use Rattle.std.proofs.lemmas.List.Elements.{All-head, All-tail}
use Rattle.pulse_ids.specs.Quantities.{greatest_of}
use Rattle.pulse_ids.specs.declared.quantities.Quantity.TheVariants as quantities
use Rattle.word_scan.specs.Decimals.{decimal_of}
use Rattle.word_scan.proofs.CallerLemmasDecimals.{IsFree, free_joined, decimal_free, decimal_read}
use Rattle.aiger_reader.specs.declared.headers.Header.{Header}
use Rattle.aiger_reader.specs.Units.{line_of}
use Rattle.aiger_reader.specs.Symbols.{symbol_named, symbol_in, begins_comment, positions_of, position_refusal, symbol_refusal, behind_refusal, line_refusal}
use Rattle.source_texts.specs.Parts.{SourceParts, IsSymbolOf}
use Rattle.source_texts.specs.Texts.{line, symbol_words}
use Rattle.source_texts.proofs.WordLines.{line_is}

-- bytes among which one doesn't stand
pub free_of : (t : ℕ) (bytes : List ℕ) → All (λ byte. byte ≢ t) bytes → IsFree t bytes
free_of t [] all = tt
free_of t (byte ∷ bytes) all =
    (ne_eqb byte t (All-head (λ byte. byte ≢ t) byte bytes all), free_of t bytes (All-tail (λ byte. byte ≢ t) byte bytes all))

space_at : (w rest : List ℕ) → IsFree 32 w → position_or_len (λ b. eqb b 32) (w ++ 32 ∷ rest) ≡ length w
space_at [] rest f = refl
space_at (b ∷ w) rest f = rw f.0 (ap (λ n. 1 + n) (space_at w rest f.1) ∙ omega arith)

take_word : (w rest : List ℕ) → take (length w) (w ++ rest) ≡ w
take_word [] rest = refl
take_word (b ∷ w) rest = ap (λ (l : List ℕ). b ∷ l) (take_word w rest)

drop_past : (w rest : List ℕ) → drop (suc (length w)) (w ++ 32 ∷ rest) ≡ rest
drop_past [] rest = refl
drop_past (b ∷ w) rest = drop_past w rest

before_space : (w rest : List ℕ) → IsFree 32 w → before_first (λ b. eqb b 32) (w ++ 32 ∷ rest) ≡ w
before_space w rest f = ap (λ n. take n (w ++ 32 ∷ rest)) (space_at w rest f) ∙ take_word w (32 ∷ rest)

after_space : (w rest : List ℕ) → IsFree 32 w → after_first (λ b. eqb b 32) (w ++ 32 ∷ rest) ≡ rest
after_space w rest f =
    ap (λ n. drop (n + 1) (w ++ 32 ∷ rest)) (space_at w rest f) ∙ ap (λ n. drop n (w ++ 32 ∷ rest)) (add-one (length w)) ∙ drop_past w rest

named : (letter place : ℕ) (name : List ℕ) → 1 ≤ length name → symbol_named letter name place ≡ Some (letter, place, name)
named letter place [] some = absurd (omega (arith, some))
named letter place (byte ∷ bytes) some = refl

symbol_read : (letter place : ℕ) (name : List ℕ) → place < 2 ^ 32 → 1 ≤ length name
    → symbol_in (letter ∷ (decimal place ++ 32 ∷ name)) ≡ Some (letter, place, name)
symbol_read letter place name lt some =
    let free = decimal_free 32 place (omega arith) (omega arith) in
    ap (λ (word : List ℕ). option_and_then (symbol_named letter (after_first (λ b. eqb b 32) (decimal place ++ 32 ∷ name))) (decimal_of word)) (before_space (decimal place) name free)
    ∙ ap (λ (rest : List ℕ). option_and_then (symbol_named letter rest) (decimal_of (decimal place))) (after_space (decimal place) name free)
    ∙ ap (option_and_then (symbol_named letter name)) (decimal_read place lt)
    ∙ named letter place name some

no_comment : (letter : ℕ) (bytes : List ℕ) → eqb letter 99 ≡ false → begins_comment (letter ∷ bytes) ≡ false
no_comment letter [] other = other
no_comment letter (next ∷ bytes) other = ap (λ (t : Bool). t && not (is_ascii_digit next)) other

module _ (parts : SourceParts) (symbol : ℕ × ℕ × List ℕ) (is : IsSymbolOf parts symbol) (inputs : length parts.inputs ≤ 2 ^ 14) (outputs : length parts.outputs ≤ 2 ^ 14) where
  -- the line
  abbrev pub symbol_body : List ℕ
  symbol_body = symbol.0 ∷ (decimal symbol.1 ++ 32 ∷ symbol.2)

  letter_is : (symbol.0 ≡ 105) ⊎ (symbol.0 ≡ 111)
  letter_is = elim is.position [ inl p ↦ inl p.0 | inr p ↦ inr p.0 ]

  pub place_low : symbol.1 < 2 ^ 32
  place_low = elim is.position [ inl p ↦ omega (arith, p.1, inputs) | inr p ↦ omega (arith, p.1, outputs) ]

  other_letter : (t : ℕ) → t < 105 → eqb symbol.0 t ≡ false
  other_letter t lt = ne_eqb symbol.0 t (λ e. elim letter_is [ inl l ↦ omega (arith, l, e) | inr l ↦ omega (arith, l, e) ])

  body_free : (t : ℕ) → t < 32 → IsFree t symbol.2 → IsFree t symbol_body
  body_free t lt free =
      let low = place_low in
      (other_letter t (omega arith), free_joined t (decimal symbol.1) (32 ∷ symbol.2) (decimal_free t symbol.1 (omega arith) (omega arith)) (ne_eqb 32 t (λ e. omega arith), free))

  pub symbol_whole : IsFree 10 symbol_body
  symbol_whole = body_free 10 (omega arith) (free_of 10 symbol.2 is.no_line_feed)

  pub symbol_line_is : line_of (line (symbol_words symbol)) ≡ symbol_body
  symbol_line_is = line_is symbol_body (body_free 13 (omega arith) (free_of 13 symbol.2 is.no_return))

  pub symbol_back : symbol_in symbol_body ≡ Some symbol
  symbol_back = symbol_read symbol.0 symbol.1 symbol.2 place_low is.not_empty

  pub not_comment : begins_comment symbol_body ≡ false
  not_comment = no_comment symbol.0 (decimal symbol.1 ++ 32 ∷ symbol.2) (other_letter 99 (omega arith))

  position_right : (header : Header) → header.inputs ≡ length parts.inputs → header.outputs ≡ length parts.outputs → position_refusal symbol.1 symbol.2 (positions_of header symbol.0) ≡ None
  position_right header i o =
      let short : ltb (greatest_of quantities.NameBytes) (length symbol.2) ≡ false = le-ltb (greatest_of quantities.NameBytes) (length symbol.2) is.not_long in
      elim is.position [
        | inl p ↦
            let low : ltb symbol.1 header.inputs ≡ true = lt-ltb symbol.1 header.inputs (omega (arith, p.1, i)) in
            ap (λ letter. position_refusal symbol.1 symbol.2 (positions_of header letter)) p.0 ∙ rw (low, short) refl
        | inr p ↦
            let low : ltb symbol.1 header.outputs ≡ true = lt-ltb symbol.1 header.outputs (omega (arith, p.1, o)) in
            ap (λ letter. position_refusal symbol.1 symbol.2 (positions_of header letter)) p.0 ∙ rw (low, short) refl
      ]

  pub symbol_right : (header : Header) (commented : Bool) → header.inputs ≡ length parts.inputs → header.outputs ≡ length parts.outputs
      → line_refusal header commented (line_of (line (symbol_words symbol))) ≡ None
  symbol_right header true i o = refl
  symbol_right header false i o =
      ap (behind_refusal header) symbol_line_is
      ∙ ap (λ (t : Bool). cond t None (symbol_refusal header (symbol_in symbol_body))) not_comment
      ∙ ap (symbol_refusal header) symbol_back ∙ position_right header i o
