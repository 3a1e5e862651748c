-- The first word of a line, whatever its blanks are.
use Rattle.std.proofs.Common.{◌≡◌, ℕ, zero, suc, ◌-◌, ◌<◌, ◌≤◌, Bool, true, false, not, cond, List, [], ◌∷◌, length, get_or, take, drop, Option, Some, None, refl, sym, ap, ◌∙◌, arith}
use Rattle.std.specs.Prelude.{filter}
use Rattle.std.specs.List.{position, position_or_len, slice_split, onto_first}
use Rattle.std.proofs.lemmas.Bool.{ltb-false}
use Rattle.std.proofs.lemmas.List.{take_rest, drop_all, get_or-drop, length-drop}
use Rattle.std.proofs.lemmas.List.Sums.{fails_before_first}
use Rattle.std.proofs.lemmas.List.Quantifiers.{position-Some}
use Rattle.word_scan.specs.Words.{is_word}

not_true : (b : Bool) → not b ≡ true → b ≡ false
not_true true h = absurd cc
not_true false h = refl

not_false : (b : Bool) → not b ≡ false → b ≡ true
not_false true h = refl
not_false false h = absurd cc

none_cond : (b : Bool) (n : ℕ) → ◌≡◌ {A = Option ℕ} (cond b (Some n) None) None → b ≡ false
none_cond true n e = absurd cc
none_cond false n e = refl

module _ (blank : ℕ → Bool) where
  -- what stands between blanks and isn't empty
  abbrev pub words_by : List ℕ → List (List ℕ)
  words_by line = filter is_word (slice_split (λ b. blank b) line)

  -- blanks before a word are passed over
  blanks_pass : (line : List ℕ) (n : ℕ) → n ≤ length line → ((k : ℕ) → k < n → blank (get_or line k 0) ≡ true) → words_by line ≡ words_by (drop n line)
  blanks_pass line zero le blanks = refl
  blanks_pass [] (suc n) le blanks = absurd (omega arith)
  blanks_pass (b ∷ line) (suc n) le blanks =
      let first : blank b ≡ true = blanks 0 (omega arith) in
      rw first (blanks_pass line n (omega arith) (λ k h. blanks (suc k) (omega arith)))

  -- the part before the first blank
  part_ends : (line : List ℕ) (n : ℕ) → n < length line → blank (get_or line n 0) ≡ true → ((k : ℕ) → k < n → blank (get_or line k 0) ≡ false)
      → slice_split (λ b. blank b) line ≡ take n line ∷ slice_split (λ b. blank b) (drop (suc n) line)
  part_ends [] n lt hit before = absurd (omega arith)
  part_ends (b ∷ line) zero lt hit before = rw hit refl
  part_ends (b ∷ line) (suc n) lt hit before =
      let first : blank b ≡ false = before 0 (omega arith) in
      rw first (ap (onto_first b) (part_ends line n (omega arith) hit (λ k h. before (suc k) (omega arith))))

  part_all : (line : List ℕ) → ((k : ℕ) → k < length line → blank (get_or line k 0) ≡ false) → slice_split (λ b. blank b) line ≡ line ∷ []
  part_all [] before = refl
  part_all (b ∷ line) before =
      let first : blank b ≡ false = before 0 (omega arith) in
      rw first (ap (onto_first b) (part_all line (λ k h. before (suc k) (omega arith))))

  blank_goes : (line : List ℕ) (n : ℕ) → n < length line → blank (get_or line n 0) ≡ true → words_by (drop n line) ≡ words_by (drop (suc n) line)
  blank_goes [] n lt hit = absurd (omega arith)
  blank_goes (b ∷ line) zero lt hit = rw hit refl
  blank_goes (b ∷ line) (suc n) lt hit = blank_goes line n (omega arith) hit

  prefix_is_word : (line : List ℕ) (n : ℕ) → 0 < n → 0 < length line → is_word (take n line) ≡ true
  prefix_is_word line zero pos some = absurd (omega arith)
  prefix_is_word [] (suc n) pos some = absurd (omega arith)
  prefix_is_word (b ∷ line) (suc n) pos some = refl

  line_is_word : (line : List ℕ) → 0 < length line → is_word line ≡ true
  line_is_word [] some = absurd (omega arith)
  line_is_word (b ∷ line) some = refl

  at_zero : (b : Bool) → b ≡ true → b ≡ false → ⊥
  at_zero true h e = cc
  at_zero false h e = cc

  positive : (line : List ℕ) (n : ℕ) → blank (get_or line 0 0) ≡ false → blank (get_or line n 0) ≡ true → 0 < n
  positive line zero dark hit = absurd (at_zero (blank (get_or line 0 0)) hit dark)
  positive line (suc n) dark hit = omega arith

  pub word_ends : (line : List ℕ) (n : ℕ) → 0 < length line → blank (get_or line 0 0) ≡ false → position (λ b. blank b) line ≡ Some n → words_by line ≡ take n line ∷ words_by (drop n line)
  word_ends line n some dark found =
      let p = position-Some (λ b. blank b) line n 0 found in
      let word : is_word (take n line) ≡ true = prefix_is_word line n (positive line n dark p.1) some in
      ap (filter is_word) (part_ends line n p.0 p.1 p.2) ∙ rw word (ap (λ (ws : List (List ℕ)). take n line ∷ ws) (sym (blank_goes line n p.0 p.1)))

  pub word_is_all : (line : List ℕ) → 0 < length line → position (λ b. blank b) line ≡ None → words_by line ≡ line ∷ []
  word_is_all line some none =
      let long : length line ≤ position_or_len (λ b. blank b) line = ltb-false _ _ (none_cond _ _ none) in
      ap (filter is_word) (part_all line (λ k h. fails_before_first (λ b. blank b) line k 0 (omega arith))) ∙ rw (line_is_word line some) refl

  -- the first byte that isn't blank
  pub record StartsAt (line : List ℕ) (n : ℕ) : Type 0 where
    within : n < length line
    dark : blank (get_or line n 0) ≡ false
    same : words_by line ≡ words_by (drop n line)

  pub starts_at : (line : List ℕ) (n : ℕ) → position (λ b. not (blank b)) line ≡ Some n → StartsAt line n
  starts_at line n found =
      let p = position-Some (λ b. not (blank b)) line n 0 found in
      record { within = p.0; dark = not_true _ p.1; same = blanks_pass line n (omega (arith, p.0)) (λ k h. not_false _ (p.2 k h)) }

  pub no_words : (line : List ℕ) → position (λ b. not (blank b)) line ≡ None → words_by line ≡ []
  no_words line none =
      let long : length line ≤ position_or_len (λ b. not (blank b)) line = ltb-false _ _ (none_cond _ _ none) in
      blanks_pass line (length line) (omega arith) (λ k h. not_false _ (fails_before_first (λ b. not (blank b)) line k 0 (omega arith))) ∙ ap words_by (drop_all (length line) line (omega arith))

  get_first : (line dark : List ℕ) (n : ℕ) → dark ≡ drop n line → get_or dark 0 0 ≡ get_or line n 0
  get_first line dark n e = ap (λ (d : List ℕ). get_or d 0 0) e ∙ get_or-drop n line 0 0 ∙ ap (λ (k : ℕ). get_or line k 0) (omega arith)

  pub word_from : (line dark : List ℕ) (start end : ℕ) → position (λ b. not (blank b)) line ≡ Some start → dark ≡ drop start line → position (λ b. blank b) dark ≡ Some end
      → words_by line ≡ take end dark ∷ words_by (take (length dark - end) (drop end dark))
  word_from line dark start end at e found =
      let s = starts_at line start at in
      let some : 0 < length dark = omega (arith, ap length e, length-drop start line, s.within) in
      s.same ∙ ap words_by (sym e) ∙ word_ends dark end some (ap blank (get_first line dark start e) ∙ s.dark) found ∙ ap (λ (d : List ℕ). take end dark ∷ words_by d) (sym (take_rest dark end))

  pub word_alone : (line dark : List ℕ) (start : ℕ) → position (λ b. not (blank b)) line ≡ Some start → dark ≡ drop start line → position (λ b. blank b) dark ≡ None
      → words_by line ≡ dark ∷ words_by (take (length dark - length dark) (drop (length dark) dark))
  word_alone line dark start at e none =
      let s = starts_at line start at in
      let some : 0 < length dark = omega (arith, ap length e, length-drop start line, s.within) in
      s.same ∙ ap words_by (sym e) ∙ word_is_all dark some none ∙ ap (λ (d : List ℕ). dark ∷ words_by d) (sym (take_rest dark (length dark) ∙ drop_all (length dark) dark (omega arith)))
