-- What a text shows stays shown as it grows.
use Rattle.std.proofs.Common.{◌≡◌, ℕ, ◌+◌, ◌-◌, ◌<◌, ◌≤◌, Bool, true, false, ltb, inl, inr, List, [], ◌∷◌, ◌++◌, length, take, Option, Some, None, Err, refl, sym, ap, ◌∙◌, append_assoc}
use Rattle.std.proofs.Common.{append-nil, arith, subst}
use Rattle.std.specs.Option.{option_or}
use Rattle.std.proofs.lemmas.Bool.{lt-ltb, le-ltb, cases_lt}
use Rattle.std.proofs.lemmas.List.{length-append, take_all, take-append-le}
use Rattle.word_scan.specs.Lines.{PlainLines, lines_after, begun, whole_lines, last_line}
use Rattle.word_scan.proofs.CallerLemmasLines.{lines_joined, begun_joined, begun_all}
use Rattle.word_scan.proofs.CallerLemmasPieces.{prefix_within}
use Rattle.schedule_replay.specs.declared.refusals.VectorRefusal.{VectorRefusal}
use Rattle.schedule_replay.specs.declared.refusals.VectorRefusal.TheVariants as refusals
use Rattle.schedule_replay.specs.declared.vector_lines.Form.{Form}
use Rattle.schedule_replay.specs.declared.vector_lines.Due.{Due}
use Rattle.schedule_replay.specs.declared.vector_lines.Due.TheVariants.{Head, Vector, Excite, Relax, Nothing}
use Rattle.schedule_replay.specs.declared.tables.Table.{Table}
use Rattle.schedule_replay.specs.VectorTexts.{due_after, vectors_in, number_after, refusal_at, line_refusal, first_refusal, limit, end_refusal, shown_by, early, judgement, unless_shown, said_by}
use Rattle.schedule_replay.specs.VectorTexts.{vectors_of}
use Rattle.schedule_replay.specs.Readings.{lines_so_far, HasReadLines}
use Rattle.schedule_replay.specs.Laws.{EarlyStands}
use Rattle.schedule_replay.proofs.Tracking.{right_so_far, wrong_so_far}

or_joined : (a b c : Option VectorRefusal) → option_or a (option_or b c) ≡ option_or (option_or a b) c
or_joined None b c = refl
or_joined (Some x) b c = refl

-- at the end: nothing where nothing is left, and what is left says nothing above the limit
pub nothing_at_end : (number : ℕ) (due : Due) (left : List ℕ) → (due ≡ Nothing → left ≡ []) → end_refusal number due left false ≡ None
nothing_at_end number Head left h = refl
nothing_at_end number Vector left h = refl
nothing_at_end number Excite left h = refl
nothing_at_end number Relax left h = refl
nothing_at_end number Nothing left h = ap (λ l. end_refusal number Nothing l false) (h refl)

pub more_at_end : (number : ℕ) (due : Due) (left : List ℕ) → end_refusal number due left true ≡ end_refusal number due [] true
more_at_end number Head left = refl
more_at_end number Vector left = refl
more_at_end number Excite left = refl
more_at_end number Relax left = refl
more_at_end number Nothing left = refl

byte_at_end : (number : ℕ) (left : List ℕ) (more : Bool) → 0 < length left → end_refusal number Nothing left more ≡ Some (refusals.BadLine number)
byte_at_end number left true some = refl
byte_at_end number left false some = let e : ltb 0 (length left) ≡ true = lt-ltb _ _ some in rw e refl

-- what shows at an end without more bytes: a byte after `stop`
pub record EndsWrong (number : ℕ) (due : Due) (left : List ℕ) (refusal : VectorRefusal) : Type 0 where
  pub stopped : due ≡ Nothing
  pub some : 0 < length left
  pub is : refusal ≡ refusals.BadLine number

ends_wrong : (number : ℕ) (due : Due) (left : List ℕ) (refusal : VectorRefusal) → end_refusal number due left false ≡ Some refusal → EndsWrong number due left refusal
ends_wrong number Head left refusal h = absurd cc
ends_wrong number Vector left refusal h = absurd cc
ends_wrong number Excite left refusal h = absurd cc
ends_wrong number Relax left refusal h = absurd cc
ends_wrong number Nothing [] refusal h = absurd cc
ends_wrong number Nothing (b ∷ left) refusal h =
    let e : ltb 0 (length (b ∷ left)) ≡ true = lt-ltb _ _ (omega arith) in
    let is : ◌≡◌ {A = Option VectorRefusal} (Some (refusals.BadLine number)) (Some refusal) = sym (byte_at_end number (b ∷ left) false (omega arith)) ∙ h in
    record { stopped = refl; some = omega arith; is = cc }

module _ (form : Form) where
  first_joined : (before xs ys : List (List ℕ)) → first_refusal form before (xs ++ ys) ≡ option_or (first_refusal form before xs) (first_refusal form (before ++ xs) ys)
  first_joined before [] ys = ap (λ (b : List (List ℕ)). first_refusal form b ys) (sym (append-nil before))
  first_joined before (x ∷ xs) ys =
      let here : Option VectorRefusal = line_refusal form before x in
      ap (option_or here) (first_joined (before ++ x ∷ []) xs ys) ∙ or_joined here (first_refusal form (before ++ x ∷ []) xs) (first_refusal form ((before ++ x ∷ []) ++ xs) ys)
      ∙ ap (λ (b : List (List ℕ)). option_or (option_or here (first_refusal form (before ++ x ∷ []) xs)) (first_refusal form b ys)) (append_assoc before (x ∷ []) xs)

  abbrev number : List ℕ → ℕ
  number text = number_after form (whole_lines text)

  first_text : (text more : List ℕ) → first_refusal form [] (whole_lines (text ++ more))
      ≡ option_or (first_refusal form [] (whole_lines text)) (first_refusal form (whole_lines text) (lines_after (last_line text) more))
  first_text text more = ap (first_refusal form []) (lines_joined [] text more) ∙ first_joined [] (whole_lines text) (lines_after (last_line text) more)

  -- a refused line
  line_shown : (text : List ℕ) (refusal : VectorRefusal) (over : Bool) → first_refusal form [] (whole_lines text) ≡ Some refusal → shown_by form text over ≡ Some refusal
  line_shown text refusal over h = ap (λ o. option_or o (end_refusal (number text) (due_after form (whole_lines text)) (last_line text) over)) h

  line_stays : (text more : List ℕ) (refusal : VectorRefusal) (over : Bool) → first_refusal form [] (whole_lines text) ≡ Some refusal → shown_by form (text ++ more) over ≡ Some refusal
  line_stays text more refusal over h =
      line_shown (text ++ more) refusal over (first_text text more ∙ ap (λ o. option_or o (first_refusal form (whole_lines text) (lines_after (last_line text) more))) h)

  end_shown : (text : List ℕ) (over : Bool) → first_refusal form [] (whole_lines text) ≡ None
      → shown_by form text over ≡ end_refusal (number text) (due_after form (whole_lines text)) (last_line text) over
  end_shown text over h = ap (λ o. option_or o (end_refusal (number text) (due_after form (whole_lines text)) (last_line text) over)) h

  -- a byte after `stop`
  pub byte_stays : (text more : List ℕ) (over : Bool) → first_refusal form [] (whole_lines text) ≡ None → due_after form (whole_lines text) ≡ Nothing
      → 0 < length (last_line text ++ more) → shown_by form (text ++ more) over ≡ Some (refusals.BadLine (number text))
  byte_stays text more over none stop some = go (lines_after (last_line text) more) refl
    where
      go : (lines : List (List ℕ)) → lines_after (last_line text) more ≡ lines → shown_by form (text ++ more) over ≡ Some (refusals.BadLine (number text))
      go [] e =
          let same : whole_lines (text ++ more) ≡ whole_lines text = lines_joined [] text more ∙ ap (λ l. whole_lines text ++ l) e ∙ append-nil (whole_lines text) in
          let left : last_line (text ++ more) ≡ last_line text ++ more = begun_joined [] text more ∙ begun_all (last_line text) more e in
          let longer : 0 < length (last_line (text ++ more)) = subst (λ (l : List ℕ). 0 < length l) (sym left) some in
          end_shown (text ++ more) over (ap (first_refusal form []) same ∙ none)
          ∙ ap (λ ls. end_refusal (number_after form ls) (due_after form ls) (last_line (text ++ more)) over) same
          ∙ ap (λ d. end_refusal (number text) d (last_line (text ++ more)) over) stop ∙ byte_at_end (number text) (last_line (text ++ more)) over longer
      go (line ∷ lines) e =
          let count = length (vectors_in form.inputs (whole_lines text)) in
          let here : line_refusal form (whole_lines text) line ≡ Some (refusals.BadLine (number text)) = ap (λ d. refusal_at form.inputs (number text) d count line) stop in
          let first = ap (first_refusal form (whole_lines text)) e ∙ ap (λ o. option_or o (first_refusal form (whole_lines text ++ line ∷ []) lines)) here in
          line_shown (text ++ more) (refusals.BadLine (number text)) over (first_text text more
          ∙ ap (λ o. option_or o (first_refusal form (whole_lines text) (lines_after (last_line text) more))) none ∙ first)

  pub shown_stays : (text more : List ℕ) (refusal : VectorRefusal) (over : Bool) → shown_by form text false ≡ Some refusal → shown_by form (text ++ more) over ≡ Some refusal
  shown_stays text more refusal over h = go (first_refusal form [] (whole_lines text)) refl
    where
      go : (o : Option VectorRefusal) → first_refusal form [] (whole_lines text) ≡ o → shown_by form (text ++ more) over ≡ Some refusal
      go (Some other) e =
          let f : ◌≡◌ {A = Option VectorRefusal} (Some other) (Some refusal) = sym (line_shown text other false e) ∙ h in
          line_stays text more other over e ∙ f
      go None e =
          let w = ends_wrong (number text) (due_after form (whole_lines text)) (last_line text) refusal (sym (end_shown text false e) ∙ h) in
          byte_stays text more over e w.stopped (omega (arith, length-append (last_line text) more, w.some)) ∙ ap (λ r. Some r) (sym w.is)

  -- a text within the limit
  pub early_within : (text : List ℕ) → length text ≤ limit → early form text ≡ shown_by form text false
  early_within text le = let e : ltb limit (length text) ≡ false = le-ltb _ _ le in rw (take_all limit text le, e) refl

  -- what so many bytes, up to the limit, show
  pub early_stays : (text piece : List ℕ) (room : ℕ) (refusal : VectorRefusal) → room ≤ limit → length text ≡ limit - room → shown_by form (text ++ take room piece) false ≡ Some refusal
      → early form (text ++ piece) ≡ Some refusal
  early_stays text piece room refusal le e h =
      let over = ltb limit (length (text ++ piece)) in
      ap (λ (t : List ℕ). shown_by form t over) (prefix_within limit text piece room le e ∙ sym (append-nil (text ++ take room piece)))
      ∙ shown_stays (text ++ take room piece) [] refusal over h

  pub early_over : (text piece : List ℕ) (room : ℕ) → room ≤ limit → length text ≡ limit - room → room < length piece
      → early form (text ++ piece) ≡ shown_by form (text ++ take room piece) true
  early_over text piece room le e long =
      let over : ltb limit (length (text ++ piece)) ≡ true = lt-ltb _ _ (omega (arith, length-append text piece)) in
      ap (λ (t : List ℕ). shown_by form t (ltb limit (length (text ++ piece)))) (prefix_within limit text piece room le e)
      ∙ ap (λ b. shown_by form (text ++ take room piece) b) over

  pub early_grows : (text more : List ℕ) (refusal : VectorRefusal) → early form text ≡ Some refusal → early form (text ++ more) ≡ Some refusal
  early_grows text more refusal h = elim (cases_lt limit (length text)) [
    | inr le ↦
        let room = limit - length text in
        let front = sym (early_within text le) ∙ h in
        early_stays text more room refusal (omega arith) (omega arith) (shown_stays text (take room more) refusal false front)
    | inl long ↦
        let one : ltb limit (length text) ≡ true = lt-ltb _ _ long in
        let two : ltb limit (length (text ++ more)) ≡ true = lt-ltb _ _ (omega (arith, length-append text more)) in
        ap (λ (t : List ℕ). shown_by form t (ltb limit (length (text ++ more)))) (take-append-le limit text more (omega arith))
        ∙ ap (λ b. shown_by form (take limit text) b) (two ∙ sym one) ∙ h
  ]

  pub judged_by : (text : List ℕ) (refusal : VectorRefusal) → early form text ≡ Some refusal → judgement form text ≡ Err refusal
  judged_by text refusal h = ap (λ o. unless_shown o (said_by (due_after form (whole_lines text)) (vectors_of form (whole_lines text)))) h

  -- lines that were read, one of which is refused
  pub wrong_shown : (text : List ℕ) (refusal : VectorRefusal) → lines_so_far form text ≡ Err refusal → shown_by form text false ≡ Some refusal
  wrong_shown text refusal wrong = line_shown text refusal false (wrong_so_far form text refusal wrong)

  -- lines that were read and are right
  pub right_shown : (text : List ℕ) (lines : PlainLines) (table : Table) (over : Bool) → HasReadLines form text lines table
      → shown_by form text over ≡ end_refusal (form.before + table.place + 1) table.due (begun lines) over
  right_shown text lines table over has =
      let right = right_so_far form text lines table has in
      end_shown text over right.0 ∙ ap (λ l. end_refusal (number text) (due_after form (whole_lines text)) l over) has.at.present
      ∙ ap (λ (t : Table). end_refusal (form.before + t.place + 1) t.due (begun lines) over) (sym right.1)

  -- a byte after `stop`, where the lines were read
  pub stop_shown : (text piece : List ℕ) (lines : PlainLines) (table : Table) → HasReadLines form text lines table → table.due ≡ Nothing → 0 < length piece
      → shown_by form (text ++ piece) false ≡ Some (refusals.BadLine (form.before + table.place + 1))
  stop_shown text piece lines table has stop some =
      let right = right_so_far form text lines table has in
      byte_stays text piece false right.0 (sym (ap (λ (t : Table). t.due) right.1) ∙ stop) (omega (arith, length-append (last_line text) piece))
      ∙ ap (λ (t : Table). Some (refusals.BadLine (form.before + t.place + 1))) (sym right.1)

pub early_stands : EarlyStands
early_stands = record {
  shown = λ form text more refusal h. early_grows form text more refusal h;
  judged = λ form text more refusal h. judged_by form (text ++ more) refusal (early_grows form text more refusal h);
}
