-- What stands between single spaces.
use Rattle.std.proofs.Common.{◌≡◌, ℕ, ◌+◌, ◌<◌, Bool, true, false, cond, eqb, ltb, List, [], ◌∷◌, length, take, drop, get_or, Option, Some, None, refl, sym, ap, ◌∙◌, arith}
use Rattle.std.specs.Prelude.{option_map, suc}
use Rattle.std.specs.List.{position_or_len, onto_first}
use Rattle.std.proofs.lemmas.Bool.{ltb-true, ltb-false}
use Rattle.std.proofs.lemmas.List.{length-drop}
use Rattle.std.proofs.lemmas.List.Sums.{fails_before_first}
use Rattle.std.proofs.lemmas.List.Splits.{slice_split_first}
use Rattle.word_scan.specs.Words.{parted}
use Rattle.schedule_replay.specs.VectorLines.{spaced, script_of, script_in}

abbrev is_space : ℕ → Bool
is_space b = eqb b 32

-- a space stands in a text, or nowhere in it
pub record Parts (text word after : List ℕ) : Type 0 where
  pub spaced_is : spaced text ≡ word ∷ spaced after
  pub shorter : length after < length text

pub parts_of : (text word after : List ℕ) → parted 32 text ≡ Some (word, after) → Parts text word after
parts_of text word after e = go (ltb (position_or_len is_space text) (length text)) refl e
  where
    go : (b : Bool) → ltb (position_or_len is_space text) (length text) ≡ b
        → ◌≡◌ {A = Option (List ℕ × List ℕ)} (option_map (λ end. (take end text, drop (end + 1) text)) (cond b (Some (position_or_len is_space text)) None)) (Some (word, after))
        → Parts text word after
    go false is h = absurd cc
    go true is h =
        let end = position_or_len is_space text in
        let less = ltb-true _ _ is in
        let both : ◌≡◌ {A = List ℕ × List ℕ} (take end text, drop (end + 1) text) (word, after) = cc in
        let first = ap (λ (p : List ℕ × List ℕ). p.0) both in
        let rest = ap (λ (p : List ℕ × List ℕ). p.1) both in
        let split = slice_split_first is_space text 0 less in
        record {
          spaced_is = split ∙ rw (first, rest) refl;
          shorter = omega (arith, less, length-drop (end + 1) text, ap (λ (l : List ℕ). length l) rest);
        }

no_space_from : (text : List ℕ) → ((k : ℕ) → k < length text → is_space (get_or text k 0) ≡ false) → spaced text ≡ text ∷ []
no_space_from [] none = refl
no_space_from (b ∷ text) none =
    let first : is_space b ≡ false = none 0 (omega arith) in
    rw first (ap (onto_first b) (no_space_from text (λ k h. none (suc k) (omega arith))))

pub whole_of : (text : List ℕ) → parted 32 text ≡ None → spaced text ≡ text ∷ []
whole_of text e = go (ltb (position_or_len is_space text) (length text)) refl e
  where
    go : (b : Bool) → ltb (position_or_len is_space text) (length text) ≡ b
        → ◌≡◌ {A = Option (List ℕ × List ℕ)} (option_map (λ end. (take end text, drop (end + 1) text)) (cond b (Some (position_or_len is_space text)) None)) None
        → spaced text ≡ text ∷ []
    go true is h = absurd cc
    go false is h = no_space_from text (λ k less. fails_before_first is_space text k 0 (omega (arith, ltb-false _ _ is)))

-- the script of a line that has a space
pub script_parts : (line word numbers : List ℕ) → parted 32 line ≡ Some (word, numbers) → script_of (word ∷ spaced numbers) ≡ script_in line
script_parts line word numbers e = ap script_of (sym (parts_of line word numbers e).spaced_is)

-- and of one that has none
pub script_alone : (line : List ℕ) → parted 32 line ≡ None → script_of (line ∷ []) ≡ script_in line
script_alone line e = ap script_of (sym (whole_of line e))
