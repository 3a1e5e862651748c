-- For callers: the lines of a text that is cut in two.
use Rattle.std.proofs.Common.{◌≡◌, ℕ, ◌+◌, ◌≤◌, true, false, cond, eqb, List, [], ◌∷◌, ◌++◌, length, refl, sym, ap, ◌∙◌, append_assoc, arith}
use Rattle.std.proofs.lemmas.List.{append-nil}
use Rattle.word_scan.specs.Lines.{PlainLines, lines_after, begun_after, next_number, IsAt}

-- what a second part leaves of the last line
pub begun_joined : (line xs ys : List ℕ) → begun_after line (xs ++ ys) ≡ begun_after (begun_after line xs) ys
begun_joined line [] ys = refl
begun_joined line (x ∷ xs) ys =
    elim (eqb x 10) as (λ b. cond b (begun_after [] (xs ++ ys)) (begun_after (line ++ x ∷ []) (xs ++ ys)) ≡ begun_after (cond b (begun_after [] xs) (begun_after (line ++ x ∷ []) xs)) ys) [
      | true ↦ begun_joined [] xs ys
      | false ↦ begun_joined (line ++ x ∷ []) xs ys
    ]

-- the lines of two parts are those of the first, and then those of the second
pub lines_joined : (line xs ys : List ℕ) → lines_after line (xs ++ ys) ≡ lines_after line xs ++ lines_after (begun_after line xs) ys
lines_joined line [] ys = refl
lines_joined line (x ∷ xs) ys =
    elim (eqb x 10) as (λ b. cond b (line ∷ lines_after [] (xs ++ ys)) (lines_after (line ++ x ∷ []) (xs ++ ys)) ≡ cond b (line ∷ lines_after [] xs)
    (lines_after (line ++ x ∷ []) xs) ++ lines_after (cond b (begun_after [] xs) (begun_after (line ++ x ∷ []) xs)) ys) [
      | true ↦ ap (λ (ls : List (List ℕ)). line ∷ ls) (lines_joined [] xs ys)
      | false ↦ lines_joined (line ++ x ∷ []) xs ys
    ]

-- lines that end in LF alone leave nothing
pub begun_all : (line xs : List ℕ) → lines_after line xs ≡ [] → begun_after line xs ≡ line ++ xs
begun_all line [] h = sym (append-nil line)
begun_all line (x ∷ xs) h =
    elim (eqb x 10) as (λ b. cond b (line ∷ lines_after [] xs) (lines_after (line ++ x ∷ []) xs) ≡ [] → cond b (begun_after [] xs) (begun_after (line ++ x ∷ []) xs) ≡ line ++ x ∷ xs) [
      | true ↦ λ h. absurd cc
      | false ↦ λ h. begun_all (line ++ x ∷ []) xs h ∙ append_assoc line (x ∷ []) xs
    ] h

-- there are no more lines than bytes
pub lines_are_few : (line text : List ℕ) → length (lines_after line text) ≤ length text
lines_are_few line [] = omega arith
lines_are_few line (x ∷ xs) =
    elim (eqb x 10) as (λ b. length (cond b (line ∷ lines_after [] xs) (lines_after (line ++ x ∷ []) xs)) ≤ length (x ∷ xs)) [
      | true ↦ omega (arith, lines_are_few [] xs)
      | false ↦ omega (arith, lines_are_few (line ++ x ∷ []) xs)
    ]

-- the number of the line that the next byte goes on is small where few bytes were taken
pub number_is_small : (text : List ℕ) (lines : PlainLines) → IsAt text lines → next_number lines ≤ length text + 1
number_is_small text lines at = omega (arith, at.count, lines_are_few [] text)
