-- Lines of a text that is cut in two, and of a part of a piece.
use Rattle.std.proofs.Common.{◌≡◌, ◌≢◌, ℕ, ◌+◌, ◌<◌, ◌≤◌, Bool, true, false, cond, eqb, List, [], ◌∷◌, ◌++◌, length, get_or, take, Option, Some, None, refl, sym, ap, subst, ◌∙◌, append_assoc, add-one, inl, inr, ◌⊎◌, zero, suc, arith}
use Rattle.std.specs.List.{position, position_or_len}
use Rattle.std.proofs.lemmas.Bool.{ltb-false, eqb-false}
use Rattle.std.proofs.lemmas.List.Elements.{All-append}
use Rattle.std.proofs.lemmas.List.Sums.{fails_before_first}
use Rattle.word_scan.specs.declared.lines.Taken.{Taken}
use Rattle.std.proofs.lemmas.List.Quantifiers.{position-Some}
use Rattle.std.proofs.lemmas.List.{take_all, append-nil, length_push, length-take, get_or-take, get_or_default}
use Rattle.word_scan.specs.Lines.{lines_after, begun_after, whole_lines, PlainLines, begun, next_number, TakesPart, TakesWhole, IsAt, HasNoFeed, whole_part}
use Rattle.word_scan.proofs.CallerLemmasLines.{lines_joined, begun_joined}

ends_at : (line xs : List ℕ) (i : ℕ) → i < length xs → eqb (get_or xs i 0) 10 ≡ true → ((k : ℕ) → k < i → eqb (get_or xs k 0) 10 ≡ false)
    → (lines_after line (take (suc i) xs) ≡ (line ++ take i xs) ∷ []) × (begun_after line (take (suc i) xs) ≡ [])
ends_at line [] i lt hit before = absurd (omega arith)
ends_at line (x ∷ xs) zero lt hit before =
    (rw hit (ap (λ (l : List ℕ). l ∷ []) (sym (append-nil line))), rw hit refl)
ends_at line (x ∷ xs) (suc i) lt hit before =
    let first : eqb x 10 ≡ false = before 0 (omega arith) in
    let rest = ends_at (line ++ x ∷ []) xs i (omega arith) hit (λ k h. before (suc k) (omega arith)) in
    (rw first (rest.0 ∙ ap (λ (l : List ℕ). l ∷ []) (append_assoc line (x ∷ []) (take i xs))), rw first rest.1)

goes_on : (line xs : List ℕ) → ((k : ℕ) → k < length xs → eqb (get_or xs k 0) 10 ≡ false) → (lines_after line xs ≡ []) × (begun_after line xs ≡ line ++ xs)
goes_on line [] none = (refl, sym (append-nil line))
goes_on line (x ∷ xs) none =
    let first : eqb x 10 ≡ false = none 0 (omega arith) in
    let rest = goes_on (line ++ x ∷ []) xs (λ k h. none (suc k) (omega arith)) in
    (rw first rest.0, rw first (rest.1 ∙ append_assoc line (x ∷ []) xs))

none_cond : (b : Bool) (n : ℕ) → ◌≡◌ {A = Option ℕ} (cond b (Some n) None) None → b ≡ false
none_cond true n e = absurd cc
none_cond false n e = refl

pub part_with_end : (line piece : List ℕ) (i : ℕ) → position (λ b. eqb b 10) piece ≡ Some i → TakesPart line piece (record { used = i + 1; whole = true }) (line ++ take i piece)
part_with_end line piece i found =
    let p = position-Some (λ b. eqb b 10) piece i 0 found in
    let e = ends_at line piece i p.0 p.1 p.2 in
    record { within = omega (arith, p.0); moves = λ h. omega arith; lines = rw add-one e.0; begun = rw add-one e.1; all = λ h. absurd cc }

pub part_without_end : (line piece : List ℕ) → position (λ b. eqb b 10) piece ≡ None → TakesPart line piece (record { used = length piece; whole = false }) (line ++ piece)
part_without_end line piece none =
    let long : length piece ≤ position_or_len (λ b. eqb b 10) piece = ltb-false _ _ (none_cond _ _ none) in
    let e = goes_on line piece (λ k h. fails_before_first (λ b. eqb b 10) piece k 0 (omega arith)) in
    let whole : take (length piece) piece ≡ piece = take_all (length piece) piece (omega arith) in
    record { within = omega arith; moves = λ h. h; lines = rw whole e.0; begun = rw whole e.1; all = λ h. refl }

same_bool : (b : Bool) → (b ≡ true) ⊎ (b ≡ false)
same_bool true = inl refl
same_bool false = inr refl

joined_whole : (old new : PlainLines) (text part : List ℕ) → lines_after (begun old) part ≡ new.line ∷ [] → begun_after (begun old) part ≡ [] → new.whole ≡ true
    → new.number ≡ next_number old → IsAt text old → IsAt (text ++ part) new
joined_whole old new text part lines left whole number at =
    let all : whole_lines (text ++ part) ≡ whole_lines text ++ new.line ∷ [] = lines_joined [] text part ∙ ap (λ (l : List ℕ). whole_lines text ++ lines_after l part) at.present
    ∙ ap (λ (ls : List (List ℕ)). whole_lines text ++ ls) lines in
    record {
      present = begun_joined [] text part ∙ ap (λ (l : List ℕ). begun_after l part) at.present ∙ left ∙ rw whole refl;
      count = rw (all, whole) (omega (arith, at.count, number, length_push (whole_lines text) new.line));
      completed = λ h. (whole_lines text, all);
    }

joined_open : (old new : PlainLines) (text part : List ℕ) → lines_after (begun old) part ≡ [] → begun_after (begun old) part ≡ new.line → new.whole ≡ false → new.number ≡ next_number old
    → IsAt text old → IsAt (text ++ part) new
joined_open old new text part lines left whole number at =
    let all : whole_lines (text ++ part) ≡ whole_lines text = lines_joined [] text part ∙ ap (λ (l : List ℕ). whole_lines text ++ lines_after l part) at.present
    ∙ ap (λ (ls : List (List ℕ)). whole_lines text ++ ls) lines ∙ append-nil (whole_lines text) in
    record {
      present = begun_joined [] text part ∙ ap (λ (l : List ℕ). begun_after l part) at.present ∙ left ∙ rw whole refl;
      count = rw (all, whole) (omega (arith, at.count, number));
      completed = λ h. absurd cc;
    }

pub joined_at : (old new : PlainLines) (piece : List ℕ) (taken : Taken) → TakesPart (begun old) piece taken new.line → new.whole ≡ taken.whole → new.number ≡ next_number old
    → (text : List ℕ) → IsAt text old → IsAt (text ++ take taken.used piece) new
joined_at old new piece taken part whole number text at =
    elim (same_bool taken.whole) [
      | inl hit ↦ joined_whole old new text (take taken.used piece) (part.lines ∙ rw hit refl) (part.begun ∙ rw hit refl) (whole ∙ hit) number at
      | inr miss ↦ joined_open old new text (take taken.used piece) (part.lines ∙ rw miss refl) (part.begun ∙ rw miss refl) (whole ∙ miss) number at
    ]

plain_prefix : (piece : List ℕ) (n : ℕ) → n ≤ length piece → ((k : ℕ) → k < n → eqb (get_or piece k 0) 10 ≡ false) → HasNoFeed (take n piece)
plain_prefix piece n le none k d lt e =
    let small : k < n = omega (arith, length-take n piece) in
    let same : get_or (take n piece) k d ≡ get_or piece k 0 = get_or-take n piece k d small ∙ get_or_default piece k d 0 (omega arith) in
    eqb-false (get_or piece k 0) 10 (none k small) (sym same ∙ e)

pub plain_with_end : (line piece : List ℕ) (i : ℕ) → position (λ b. eqb b 10) piece ≡ Some i → HasNoFeed line → HasNoFeed (line ++ take i piece)
plain_with_end line piece i found plain =
    let p = position-Some (λ b. eqb b 10) piece i 0 found in
    All-append (λ b. b ≢ 10) line (take i piece) plain (plain_prefix piece i (omega (arith, p.0)) p.2)

pub plain_without_end : (line piece : List ℕ) → position (λ b. eqb b 10) piece ≡ None → HasNoFeed line → HasNoFeed (line ++ piece)
plain_without_end line piece none plain =
    let long : length piece ≤ position_or_len (λ b. eqb b 10) piece = ltb-false _ _ (none_cond _ _ none) in
    let prefix = plain_prefix piece (length piece) (omega arith) (λ k h. fails_before_first (λ b. eqb b 10) piece k 0 (omega arith)) in
    All-append (λ b. b ≢ 10) line piece plain (subst HasNoFeed (take_all (length piece) piece (omega arith)) prefix)

-- what the next byte goes on
pub plain_begun : (whole : Bool) (line : List ℕ) → HasNoFeed line → HasNoFeed (cond whole [] line)
plain_begun true line plain = λ k d lt e. absurd (omega (arith, lt))
plain_begun false line plain = plain

-- the first line of a piece
pub first_part : (piece : List ℕ) (i : ℕ) → position (λ b. eqb b 10) piece ≡ Some i → TakesPart [] piece (whole_part (take i piece)) (take i piece)
first_part piece i found =
    let p = position-Some (λ b. eqb b 10) piece i 0 found in
    let e : i + 1 ≡ length (take i piece) + 1 = omega (arith, length-take i piece, p.0) in
    subst (λ (n : ℕ). TakesPart [] piece (record { used = n; whole = true }) (take i piece)) e (part_with_end [] piece i found)

pub first_plain : (piece : List ℕ) (i : ℕ) → position (λ b. eqb b 10) piece ≡ Some i → HasNoFeed (take i piece)
first_plain piece i found =
    let p = position-Some (λ b. eqb b 10) piece i 0 found in
    plain_prefix piece i (omega (arith, p.0)) p.2

-- after a line that lies whole in a piece the next one is the present one
pub joined_next : (old new : PlainLines) (piece line : List ℕ) → TakesWhole old piece line new → (text : List ℕ) → IsAt text old → IsAt (text ++ take (length line + 1) piece) new
joined_next old new piece line takes text at =
    let part : List ℕ = take (length line + 1) piece in
    let all : whole_lines (text ++ part) ≡ whole_lines text ++ line ∷ [] = lines_joined [] text part ∙ ap (λ (l : List ℕ). whole_lines text ++ lines_after l part) at.present
    ∙ ap (λ (ls : List (List ℕ)). whole_lines text ++ ls) takes.part.lines in
    rw takes.next (record {
      present = begun_joined [] text part ∙ ap (λ (l : List ℕ). begun_after l part) at.present ∙ takes.part.begun;
      count = rw all (omega (arith, at.count, length_push (whole_lines text) line));
      completed = λ h. absurd cc;
    })
