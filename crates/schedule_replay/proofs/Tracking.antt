-- The table that lines lead to is that of their vectors and scripts, where none of them is refused.
use Rattle.std.proofs.Common.{◌≡◌, ℕ, ◌+◌, ◌&&◌, Bool, true, false, cond, eqb, ltb, List, [], ◌∷◌, ◌++◌, length, Option, Some, None, Result, Ok, Err, refl, sym, ap, ◌∙◌, append_assoc}
use Rattle.std.proofs.Common.{append-nil, arith, subst, codes}
use Rattle.std.specs.List.{onto_first}
use Rattle.std.specs.Option.{option_or}
use Rattle.std.specs.Str.{bytes_eq}
use Rattle.std.proofs.lemmas.List.{length-append}
use Rattle.std.proofs.lemmas.Bool.{eqb-true}
use Rattle.std.proofs.lemmas.Slice.Eq.{bytes_eq-Decides}
use Rattle.pulse_ids.specs.Ids.{WireId}
use Rattle.pulse_ids.specs.Quantities.{greatest_of}
use Rattle.pulse_ids.specs.declared.quantities.Quantity.TheVariants as quantities
use Rattle.word_scan.specs.Lines.{PlainLines, whole_lines}
use Rattle.word_scan.specs.Reading.{read_on}
use Rattle.word_scan.proofs.CallerLemmasReading.{read_refused}
use Rattle.schedule_replay.specs.declared.refusals.VectorRefusal.{VectorRefusal}
use Rattle.schedule_replay.specs.declared.refusals.VectorRefusal.TheVariants as refusals
use Rattle.schedule_replay.specs.declared.vector_lines.Form.{Form}
use Rattle.schedule_replay.specs.declared.vector_lines.Due.{Due}
use Rattle.schedule_replay.specs.declared.vector_lines.Due.TheVariants.{Head, Vector, Excite, Relax, Nothing}
use Rattle.schedule_replay.specs.declared.tables.Table.{Table}
use Rattle.schedule_replay.specs.VectorLines.{bits_of, spaced, vector_of, script_of, script_in}
use Rattle.schedule_replay.specs.VectorTexts.{due_next, due_from, due_after, items_of, vectors_in, scripts_in, vector_refusal, script_refusal, refusal_at, number_after, line_refusal}
use Rattle.schedule_replay.specs.VectorTexts.{first_refusal, unless_shown}
use Rattle.schedule_replay.specs.Tables.{whole, table_of, table_bad, passed_by, after_vector, added_read, script_read, due_read, line_read}
use Rattle.schedule_replay.specs.Readings.{lines_so_far, HasReadLines}

-- no line is a vector and a script
script_not_v : (rest : List ℕ) → script_in (118 ∷ rest) ≡ None
script_not_v rest = go (spaced rest)
  where
    go : (parts : List (List ℕ)) → script_of (onto_first 118 parts) ≡ None
    go [] = refl
    go (part ∷ parts) = refl

apart : (inputs : ℕ) (line : List ℕ) (vector : List Bool) → vector_of inputs line ≡ Some vector → script_in line ≡ None
apart inputs [] vector e = go (eqb 0 (inputs + 1)) e
  where
    go : (b : Bool) → cond (b && false) (bits_of []) None ≡ Some vector → script_in [] ≡ None
    go true h = absurd cc
    go false h = absurd cc
apart inputs (byte ∷ rest) vector e = go (eqb (length (byte ∷ rest)) (inputs + 1)) (eqb byte 118) refl e
  where
    go : (a b : Bool) → eqb byte 118 ≡ b → cond (a && b) (bits_of rest) None ≡ Some vector → script_in (byte ∷ rest) ≡ None
    go true true is h = subst (λ x. script_in (x ∷ rest) ≡ None) (sym (eqb-true byte 118 is)) (script_not_v rest)
    go true false is h = absurd cc
    go false b is h = absurd cc

vector_not_script : (inputs : ℕ) (line : List ℕ) (script : List WireId) → script_in line ≡ Some script → vector_of inputs line ≡ None
vector_not_script inputs line script e = go (vector_of inputs line) refl
  where
    go : (o : Option (List Bool)) → vector_of inputs line ≡ o → o ≡ None
    go None h = refl
    go (Some vector) h = let f : None ≡ Some script = sym (apart inputs line vector h) ∙ e in absurd cc

-- the two words are neither
head_no_vector : (inputs : ℕ) → vector_of inputs (codes "vectors") ≡ None
head_no_vector inputs = go (eqb 7 (inputs + 1))
  where
    go : (b : Bool) → cond (b && true) (bits_of (codes "ectors")) None ≡ None
    go true = refl
    go false = refl

stop_no_vector : (inputs : ℕ) → vector_of inputs (codes "stop") ≡ None
stop_no_vector inputs = go (eqb 4 (inputs + 1))
  where
    go : (b : Bool) → cond (b && false) (bits_of (codes "top")) None ≡ None
    go true = refl
    go false = refl

module _ (form : Form) where
  due_grown : (due : Due) (before : List (List ℕ)) (line : List ℕ) → due_from form.scripted due (before ++ line ∷ []) ≡ due_next form.scripted (due_from form.scripted due before) line
  due_grown due [] line = refl
  due_grown due (first ∷ before) line = due_grown (due_next form.scripted due first) before line

  vectors_grown : (before : List (List ℕ)) (line : List ℕ) → vectors_in form.inputs (before ++ line ∷ []) ≡ vectors_in form.inputs before ++ items_of (vector_of form.inputs line)
  vectors_grown [] line = append-nil (items_of (vector_of form.inputs line))
  vectors_grown (first ∷ before) line =
      ap (λ l. items_of (vector_of form.inputs first) ++ l) (vectors_grown before line)
      ∙ sym (append_assoc (items_of (vector_of form.inputs first)) (vectors_in form.inputs before) (items_of (vector_of form.inputs line)))

  scripts_grown : (before : List (List ℕ)) (line : List ℕ) → scripts_in (before ++ line ∷ []) ≡ scripts_in before ++ items_of (script_in line)
  scripts_grown [] line = append-nil (items_of (script_in line))
  scripts_grown (first ∷ before) line =
      ap (λ l. items_of (script_in first) ++ l) (scripts_grown before line)
      ∙ sym (append_assoc (items_of (script_in first)) (scripts_in before) (items_of (script_in line)))

  -- a table by its parts
  abbrev made : Due → ℕ → List (List Bool) → List (List WireId) → Table
  made due place vectors scripts = record { due = due; place = place; vectors = whole vectors; scripts = whole scripts }

  grown : (before : List (List ℕ)) (line : List ℕ) (due : Due) (vectors : List (List Bool)) (scripts : List (List WireId))
      → due_next form.scripted (due_after form before) line ≡ due → vectors_in form.inputs before ++ items_of (vector_of form.inputs line) ≡ vectors
      → scripts_in before ++ items_of (script_in line) ≡ scripts → made due (length before + 1) vectors scripts ≡ table_of form (before ++ line ∷ [])
  grown before line due vectors scripts e f g =
      same _ _ _ _ _ _ _ _ (sym e ∙ sym (due_grown Head before line)) (omega (arith, length-append before (line ∷ []))) (sym f ∙ sym (vectors_grown before line))
      (sym g ∙ sym (scripts_grown before line))
    where
      same : (a b : Due) (m n : ℕ) (v w : List (List Bool)) (s t : List (List WireId)) → a ≡ b → m ≡ n → v ≡ w → s ≡ t → made a m v s ≡ made b n w t
      same a b m n v w s t e1 e2 e3 e4 = rw (e1, e2, e3, e4) refl

  module _ (before : List (List ℕ)) (line : List ℕ) where
    abbrev table : Table
    table = table_of form before

    abbrev count : ℕ
    count = length (vectors_in form.inputs before)

    abbrev next : Table
    next = table_of form (before ++ line ∷ [])

    no_vector : vector_of form.inputs line ≡ None → vectors_in form.inputs before ++ items_of (vector_of form.inputs line) ≡ vectors_in form.inputs before
    no_vector e = ap (λ o. vectors_in form.inputs before ++ items_of o) e ∙ append-nil (vectors_in form.inputs before)

    no_script : script_in line ≡ None → scripts_in before ++ items_of (script_in line) ≡ scripts_in before
    no_script e = ap (λ o. scripts_in before ++ items_of o) e ∙ append-nil (scripts_in before)

    at_head : (b : Bool) → bytes_eq line (codes "vectors") ≡ b → due_after form before ≡ Head
        → cond b (Ok (passed_by Vector table)) (Err (table_bad form table)) ≡ unless_shown (cond b None (Some (table_bad form table))) (Ok next)
    at_head false e due = refl
    at_head true e due =
        let is = (bytes_eq-Decides line (codes "vectors")).0 e in
        ap (λ t. Ok t) (grown before line Vector (vectors_in form.inputs before) (scripts_in before) (ap (λ d. due_next form.scripted d line) due)
        (no_vector (ap (vector_of form.inputs) is ∙ head_no_vector form.inputs)) (no_script (ap script_in is)))

    at_stop : bytes_eq line (codes "stop") ≡ true → due_after form before ≡ Vector → ◌≡◌ {A = Result Table VectorRefusal} (Ok (passed_by Nothing table)) (Ok next)
    at_stop e due =
        let is = (bytes_eq-Decides line (codes "stop")).0 e in
        let ends : due_next form.scripted Vector line ≡ Nothing = rw e refl in
        ap (λ t. Ok t) (grown before line Nothing (vectors_in form.inputs before) (scripts_in before) (ap (λ d. due_next form.scripted d line) due ∙ ends)
        (no_vector (ap (vector_of form.inputs) is ∙ stop_no_vector form.inputs)) (no_script (ap script_in is)))

    at_room : (room : Bool) (vector : List Bool) → vector_of form.inputs line ≡ Some vector → bytes_eq line (codes "stop") ≡ false → due_after form before ≡ Vector
        → ◌≡◌ {A = Result Table VectorRefusal} (cond room (Ok (passed_by (after_vector form.scripted) (record table { vectors = whole (table.vectors.lists ++ vector ∷ []) })))
        (Err (refusals.Limit quantities.Vectors))) (unless_shown (cond room None (Some (refusals.Limit quantities.Vectors))) (Ok next))
    at_room false vector e other due = refl
    at_room true vector e other due =
        let goes : due_next form.scripted Vector line ≡ after_vector form.scripted = rw other refl in
        ap (λ t. Ok t) (grown before line (after_vector form.scripted) (vectors_in form.inputs before ++ vector ∷ []) (scripts_in before)
        (ap (λ d. due_next form.scripted d line) due ∙ goes) (ap (λ o. vectors_in form.inputs before ++ items_of o) e) (no_script (apart form.inputs line vector e)))

    at_vector : (o : Option (List Bool)) → vector_of form.inputs line ≡ o → bytes_eq line (codes "stop") ≡ false → due_after form before ≡ Vector
        → added_read form table o ≡ unless_shown (vector_refusal (number_after form before) count o) (Ok next)
    at_vector None e other due = refl
    at_vector (Some vector) e other due = at_room (ltb count (greatest_of quantities.Vectors)) vector e other due

    at_line : (b : Bool) → bytes_eq line (codes "stop") ≡ b → due_after form before ≡ Vector
        → cond b (Ok (passed_by Nothing table)) (added_read form table (vector_of form.inputs line))
        ≡ unless_shown (cond b None (vector_refusal (number_after form before) count (vector_of form.inputs line))) (Ok next)
    at_line true e due = at_stop e due
    at_line false e due = at_vector (vector_of form.inputs line) refl e due

    at_script : (due after : Due) (o : Option (List WireId)) → script_in line ≡ o → due_after form before ≡ due → due_next form.scripted due line ≡ after
        → script_read form after table o ≡ unless_shown (script_refusal (number_after form before) o) (Ok next)
    at_script due after None e is goes = refl
    at_script due after (Some script) e is goes =
        ap (λ t. Ok t) (grown before line after (vectors_in form.inputs before) (scripts_in before ++ script ∷ []) (ap (λ d. due_next form.scripted d line) is ∙ goes)
        (no_vector (vector_not_script form.inputs line script e)) (ap (λ o. scripts_in before ++ items_of o) e))

    at_due : (due : Due) → due_after form before ≡ due
        → due_read form due table line ≡ unless_shown (refusal_at form.inputs (number_after form before) due count line) (Ok next)
    at_due Head e = at_head (bytes_eq line (codes "vectors")) refl e
    at_due Vector e = at_line (bytes_eq line (codes "stop")) refl e
    at_due Excite e = at_script Excite Relax (script_in line) refl e refl
    at_due Relax e = at_script Relax Vector (script_in line) refl e refl
    at_due Nothing e = refl

    -- one line more
    line_tracked : line_read form table line ≡ unless_shown (line_refusal form before line) (Ok next)
    line_tracked = at_due (due_after form before) refl

  -- lines after others
  tracked : (before lines : List (List ℕ)) → read_on (line_read form) (Ok (table_of form before)) lines ≡ unless_shown (first_refusal form before lines) (Ok (table_of form (before ++ lines)))
  tracked before [] = ap (λ (ls : List (List ℕ)). Ok (table_of form ls)) (sym (append-nil before))
  tracked before (line ∷ lines) =
      ap (λ (r : Result Table VectorRefusal). read_on (line_read form) r lines) (line_tracked before line)
      ∙ go (line_refusal form before line) (tracked (before ++ line ∷ []) lines
      ∙ ap (λ (ls : List (List ℕ)). unless_shown (first_refusal form (before ++ line ∷ []) lines) (Ok (table_of form ls))) (append_assoc before (line ∷ []) lines))
    where
      go : (o : Option VectorRefusal) → read_on (line_read form) (Ok (table_of form (before ++ line ∷ []))) lines
          ≡ unless_shown (first_refusal form (before ++ line ∷ []) lines) (Ok (table_of form (before ++ line ∷ lines)))
          → read_on (line_read form) (unless_shown o (Ok (table_of form (before ++ line ∷ [])))) lines
          ≡ unless_shown (option_or o (first_refusal form (before ++ line ∷ []) lines)) (Ok (table_of form (before ++ line ∷ lines)))
      go None h = h
      go (Some refusal) h = read_refused (line_read form) refusal lines

  pub text_tracked : (text : List ℕ) → lines_so_far form text ≡ unless_shown (first_refusal form [] (whole_lines text)) (Ok (table_of form (whole_lines text)))
  text_tracked text = tracked [] (whole_lines text)

  -- where lines are right
  pub right_so_far : (text : List ℕ) (lines : PlainLines) (table : Table) → HasReadLines form text lines table
      → (first_refusal form [] (whole_lines text) ≡ None) × (table ≡ table_of form (whole_lines text))
  right_so_far text lines table has = go (first_refusal form [] (whole_lines text)) (sym has.reads ∙ text_tracked text)
    where
      go : (o : Option VectorRefusal) → Ok table ≡ unless_shown o (Ok (table_of form (whole_lines text))) → (o ≡ None) × (table ≡ table_of form (whole_lines text))
      go None h = (refl, cc)
      go (Some refusal) h = absurd cc

  -- and where one is refused
  pub wrong_so_far : (text : List ℕ) (refusal : VectorRefusal) → lines_so_far form text ≡ Err refusal → first_refusal form [] (whole_lines text) ≡ Some refusal
  wrong_so_far text refusal wrong = go (first_refusal form [] (whole_lines text)) (sym wrong ∙ text_tracked text)
    where
      go : (o : Option VectorRefusal) → Err refusal ≡ unless_shown o (Ok (table_of form (whole_lines text))) → o ≡ Some refusal
      go None h = absurd cc
      go (Some other) h = let e : refusal ≡ other = cc in ap (λ r. Some r) (sym e)
