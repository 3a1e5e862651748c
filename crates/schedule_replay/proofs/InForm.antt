-- What a text says has its form.
use Rattle.std.proofs.Common.{◌≡◌, ℕ, suc, ◌+◌, ◌*◌, ◌≤◌, ◌&&◌, inl, inr, Bool, true, false, cond, eqb, ltb, List, [], ◌∷◌, ◌++◌, length, take, drop, Option, Some, None, Result, Ok, Err, refl}
use Rattle.std.proofs.Common.{sym, ap, ◌∙◌, arith, subst, codes}
use Rattle.std.specs.Prelude.{option_map, option_and_then, slice_index}
use Rattle.std.specs.Option.{option_or}
use Rattle.std.specs.List.{onto_first}
use Rattle.std.specs.Str.{bytes_eq}
use Rattle.std.proofs.lemmas.Bool.{eqb-true, ltb-false}
use Rattle.std.proofs.lemmas.List.{length-append, length-drop, take_all}
use Rattle.pulse_ids.specs.Ids.{WireId}
use Rattle.pulse_ids.specs.Lists.{IsIn}
use Rattle.pulse_ids.specs.Quantities.{greatest_of}
use Rattle.pulse_ids.specs.declared.quantities.Quantity.TheVariants as quantities
use Rattle.pulse_ids.proofs.CallerLemmas.{IsIn-behind}
use Rattle.word_scan.specs.Lines.{lines_after, whole_lines, last_line}
use Rattle.word_scan.specs.Reading.{read_on}
use Rattle.word_scan.proofs.CallerLemmasReading.{read_refused}
use Rattle.schedule_replay.specs.declared.refusals.VectorRefusal.{VectorRefusal}
use Rattle.schedule_replay.specs.declared.refusals.VectorRefusal.TheVariants as refusals
use Rattle.schedule_replay.specs.declared.vector_lines.Form.{Form}
use Rattle.schedule_replay.specs.declared.vector_lines.Due.{Due}
use Rattle.schedule_replay.specs.declared.vector_lines.Due.TheVariants.{Head, Vector, Excite, Relax, Nothing}
use Rattle.schedule_replay.specs.declared.tables.Table.{Table}
use Rattle.schedule_replay.specs.PlainVectors.{PlainVectors}
use Rattle.schedule_replay.specs.VectorLines.{each, bits_of, wire_of, spaced, vector_of, script_of, script_in}
use Rattle.schedule_replay.specs.VectorTexts.{due_after, vectors_of, number_after, first_refusal, limit, end_refusal, shown_by, early, judgement, said_by, unless_shown}
use Rattle.schedule_replay.specs.Tables.{whole, first_table, table_of, table_bad, passed_by, after_vector, added_read, script_read, due_read, line_read}
use Rattle.schedule_replay.specs.Readings.{lines_so_far}
use Rattle.schedule_replay.specs.Laws.{HasTheForm, TextsHaveTheirForm}
use Rattle.schedule_replay.proofs.Tracking.{text_tracked}

each_length : {X Y : Type 0} (f : X → Option Y) (xs : List X) (ys : List Y) → each f xs ≡ Some ys → length ys ≡ length xs
each_length f [] ys e = let same : [] ≡ ys = cc in sym (ap (λ l. length l) same)
each_length {X = X} {Y = Y} f (x ∷ xs) ys e = go (λ l. each_length f xs l) (f x) (each f xs) refl e
  where
    go : ((l : List Y) → each f xs ≡ Some l → length l ≡ length xs) → (o : Option Y) (rest : Option (List Y)) → each f xs ≡ rest
        → option_and_then (λ y. option_map (λ l. y ∷ l) rest) o ≡ Some ys → length ys ≡ length (x ∷ xs)
    go others None rest is h = absurd cc
    go others (Some y) None is h = absurd cc
    go others (Some y) (Some l) is h =
        let same : y ∷ l ≡ ys = cc in
        let more = others l is in
        sym (ap (λ k. length k) same) ∙ ap suc more

vector_width : (inputs : ℕ) (line : List ℕ) (vector : List Bool) → vector_of inputs line ≡ Some vector → length vector ≡ inputs
vector_width inputs line vector e = go (eqb (length line) (inputs + 1)) (eqb (slice_index line 0) 118) refl e
  where
    go : (a b : Bool) → eqb (length line) (inputs + 1) ≡ a → cond (a && b) (bits_of (drop 1 line)) None ≡ Some vector → length vector ≡ inputs
    go false b is h = absurd cc
    go true false is h = absurd cc
    go true true is h =
        let long = eqb-true (length line) (inputs + 1) is in
        let bits = each_length _ (drop 1 line) vector h in
        let rest = length-drop 1 line in omega arith

parts_few : (text : List ℕ) → length (spaced text) ≤ length text + 1
parts_few [] = omega arith
parts_few (x ∷ xs) = go (eqb x 32) (parts_few xs)
  where
    onto : (parts : List (List ℕ)) → length (onto_first x parts) ≤ length parts + 1
    onto [] = omega arith
    onto (part ∷ parts) = omega arith

    go : (b : Bool) → length (spaced xs) ≤ length xs + 1 → length (cond b ([] ∷ spaced xs) (onto_first x (spaced xs))) ≤ length (x ∷ xs) + 1
    go true h = omega arith
    go false h = let more = onto (spaced xs) in omega arith

script_short : (line : List ℕ) (script : List WireId) → script_in line ≡ Some script → length script ≤ length line
script_short line script e = go (spaced line) (parts_few line) e
  where
    by_word : (b : Bool) (numbers : List (List ℕ)) → length numbers ≤ length line → cond b (each wire_of numbers) None ≡ Some script → length script ≤ length line
    by_word true numbers few h = let same = each_length wire_of numbers script h in omega arith
    by_word false numbers few h = absurd cc

    go : (parts : List (List ℕ)) → length parts ≤ length line + 1 → script_of parts ≡ Some script → length script ≤ length line
    go [] few h = absurd cc
    go (word ∷ numbers) few h = by_word (bytes_eq word (codes "deliver")) numbers (omega arith) h

lines_short : (begun text line : List ℕ) → IsIn line (lines_after begun text) → length line ≤ length begun + length text
lines_short begun [] line h = absurd h
lines_short begun (x ∷ xs) line h = go (λ i. lines_short [] xs line i) (λ i. lines_short (begun ++ x ∷ []) xs line i) (eqb x 10) h
  where
    go : (IsIn line (lines_after [] xs) → length line ≤ length {A = ℕ} [] + length xs)
        → (IsIn line (lines_after (begun ++ x ∷ []) xs) → length line ≤ length (begun ++ x ∷ []) + length xs) → (b : Bool)
        → IsIn line (cond b (begun ∷ lines_after [] xs) (lines_after (begun ++ x ∷ []) xs)) → length line ≤ length begun + length (x ∷ xs)
    go fresh on true (inl e) = let same = ap (λ (l : List ℕ). length l) e in omega arith
    go fresh on true (inr i) = let r = fresh i in omega arith
    go fresh on false i = let r = on i in let l = length-append begun (x ∷ []) in omega arith

-- how many scripts are still to come of the vectors so far
abbrev owed : Due → ℕ
owed Excite = 2
owed Relax = 1
owed due = 0

abbrev per : Bool → ℕ
per scripted = cond scripted 2 0

record InForm (form : Form) (table : Table) : Type 0 where
  width : (vector : List Bool) → IsIn vector table.vectors.lists → length vector ≡ form.inputs
  pairs : length table.scripts.lists + owed table.due ≡ per form.scripted * length table.vectors.lists
  short : (script : List WireId) → IsIn script table.scripts.lists → length script ≤ limit

module _ (form : Form) (old : Table) (line : List ℕ) (is : InForm form old) (few : length line ≤ limit) where
  abbrev Stays : Result Table VectorRefusal → Type 0
  Stays result = (new : Table) → result ≡ Ok new → InForm form new

  stays : (table : Table) → InForm form table → Stays (Ok table)
  stays table h new e = let same : table ≡ new = cc in subst (InForm form) same h

  passed : (due : Due) → owed due ≡ owed old.due → InForm form (passed_by due old)
  passed due e = record { width = is.width; pairs = ap (λ n. length old.scripts.lists + n) e ∙ is.pairs; short = is.short }

  more_pairs : (scripted : Bool) (s v w : ℕ) → s + 0 ≡ per scripted * v → w ≡ v + 1 → s + owed (after_vector scripted) ≡ per scripted * w
  more_pairs true s v w h e = omega arith
  more_pairs false s v w h e = omega arith

  added : (room : Bool) (vector : List Bool) → length vector ≡ form.inputs → old.due ≡ Vector
      → Stays (cond room (Ok (passed_by (after_vector form.scripted) (record old { vectors = whole (old.vectors.lists ++ vector ∷ []) }))) (Err (refusals.Limit quantities.Vectors)))
  added false vector wide due = λ new e. absurd cc
  added true vector wide due = stays _ (record {
    width = λ v i. elim (IsIn-behind v vector old.vectors.lists i) [ inl before ↦ is.width v before | inr e ↦ ap (λ l. length l) (sym e) ∙ wide ];
    pairs = more_pairs form.scripted (length old.scripts.lists) (length old.vectors.lists) (length (old.vectors.lists ++ vector ∷ []))
        (ap (λ d. length old.scripts.lists + owed d) (sym due) ∙ is.pairs) (length-append old.vectors.lists (vector ∷ []));
    short = is.short;
  })

  by_vector : (o : Option (List Bool)) → vector_of form.inputs line ≡ o → old.due ≡ Vector → Stays (added_read form old o)
  by_vector None e due = λ new f. absurd cc
  by_vector (Some vector) e due = added (ltb (length old.vectors.lists) (greatest_of quantities.Vectors)) vector (vector_width form.inputs line vector e) due

  by_stop : (b : Bool) → old.due ≡ Vector → Stays (cond b (Ok (passed_by Nothing old)) (added_read form old (vector_of form.inputs line)))
  by_stop true due = stays _ (passed Nothing (ap owed (sym due)))
  by_stop false due = by_vector (vector_of form.inputs line) refl due

  by_head : (b : Bool) → old.due ≡ Head → Stays (cond b (Ok (passed_by Vector old)) (Err (table_bad form old)))
  by_head true due = stays _ (passed Vector (ap owed (sym due)))
  by_head false due = λ new e. absurd cc

  by_script : (next : Due) (o : Option (List WireId)) → script_in line ≡ o → owed next + 1 ≡ owed old.due → Stays (script_read form next old o)
  by_script next None e less = λ new f. absurd cc
  by_script next (Some script) e less = stays _ (record {
    width = is.width;
    pairs = let longer = length-append old.scripts.lists (script ∷ []) in let pairs = is.pairs in both _ _ _ _ _ longer less pairs;
    short = λ s i. elim (IsIn-behind s script old.scripts.lists i) [
      | inl before ↦ is.short s before
      | inr e2 ↦ let same = ap (λ l. length l) e2 in let short = script_short line script e in omega arith
    ];
  })
    where
      both : (l s o p v : ℕ) → l ≡ s + 1 → o + 1 ≡ p → s + p ≡ v → l + o ≡ v
      both l s o p v e f g = omega arith

  by_due : (due : Due) → old.due ≡ due → Stays (due_read form due old line)
  by_due Head e = by_head (bytes_eq line (codes "vectors")) e
  by_due Vector e = by_stop (bytes_eq line (codes "stop")) e
  by_due Excite e = by_script Relax (script_in line) refl (ap owed (sym e))
  by_due Relax e = by_script Vector (script_in line) refl (ap owed (sym e))
  by_due Nothing e = λ new f. absurd cc

module _ (form : Form) where
  along : (lines : List (List ℕ)) (old new : Table) → ((line : List ℕ) → IsIn line lines → length line ≤ limit) → InForm form old
      → read_on (line_read form) (Ok old) lines ≡ Ok new → InForm form new
  along [] old new few is e = let same : old ≡ new = cc in subst (InForm form) same is
  along (line ∷ lines) old new few is e = go (λ next is h. along lines next new (λ l i. few l (inr i)) is h) (line_read form old line) refl e
    where
      go : ((next : Table) → InForm form next → read_on (line_read form) (Ok next) lines ≡ Ok new → InForm form new)
          → (r : Result Table VectorRefusal) → line_read form old line ≡ r → read_on (line_read form) r lines ≡ Ok new → InForm form new
      go onward (Ok next) f h = onward next (by_due form old line is (few line (inl refl)) old.due refl next f) h
      go onward (Err refusal) f h = let g : Err refusal ≡ Ok new = sym (read_refused (line_read form) refusal lines) ∙ h in absurd cc

  -- what is said without a refusal
  record IsRight (text : List ℕ) (said : PlainVectors) : Type 0 where
    within : length text ≤ limit
    right : first_refusal form [] (whole_lines text) ≡ None
    stop : due_after form (whole_lines text) ≡ Nothing
    says : vectors_of form (whole_lines text) ≡ said

  by_said : (due : Due) (vectors said : PlainVectors) → said_by due vectors ≡ Ok said → (due ≡ Nothing) × (vectors ≡ said)
  by_said Head vectors said h = absurd cc
  by_said Vector vectors said h = absurd cc
  by_said Excite vectors said h = absurd cc
  by_said Relax vectors said h = absurd cc
  by_said Nothing vectors said h = (refl, cc)

  over_shows : (number : ℕ) (due : Due) (left : List ℕ) → end_refusal number due left true ≡ None → ⊥
  over_shows number Head left h = absurd cc
  over_shows number Vector left h = absurd cc
  over_shows number Excite left h = absurd cc
  over_shows number Relax left h = absurd cc
  over_shows number Nothing left h = absurd cc

  or_none : (a b : Option VectorRefusal) → option_or a b ≡ None → (a ≡ None) × (b ≡ None)
  or_none None b h = (refl, h)
  or_none (Some r) b h = absurd cc

  nothing_shown : (text : List ℕ) → early form text ≡ None → (length text ≤ limit) × (first_refusal form [] (whole_lines text) ≡ None)
  nothing_shown text h = go (ltb limit (length text)) refl h
    where
      go : (b : Bool) → ltb limit (length text) ≡ b → shown_by form (take limit text) b ≡ None → (length text ≤ limit) × (first_refusal form [] (whole_lines text) ≡ None)
      go true e s =
          let lines = whole_lines (take limit text) in
          absurd (over_shows (number_after form lines) (due_after form lines) (last_line (take limit text))
          (or_none (first_refusal form [] lines) (end_refusal (number_after form lines) (due_after form lines) (last_line (take limit text)) true) s).1)
      go false e s =
          let le = ltb-false _ _ e in
          let lines = whole_lines (take limit text) in
          let none = (or_none (first_refusal form [] lines) (end_refusal (number_after form lines) (due_after form lines) (last_line (take limit text)) false) s).0 in
          (le, ap (λ (t : List ℕ). first_refusal form [] (whole_lines t)) (sym (take_all limit text le)) ∙ none)

  is-right : (text : List ℕ) (said : PlainVectors) → judgement form text ≡ Ok said → IsRight text said
  is-right text said h = go (early form text) refl h
    where
      go : (o : Option VectorRefusal) → early form text ≡ o → unless_shown o (said_by (due_after form (whole_lines text)) (vectors_of form (whole_lines text))) ≡ Ok said → IsRight text said
      go (Some refusal) e s = absurd cc
      go None e s =
          let n = nothing_shown text e in
          let b = by_said (due_after form (whole_lines text)) (vectors_of form (whole_lines text)) said s in
          record { within = n.0; right = n.1; stop = b.0; says = b.1 }

  in-form : (text : List ℕ) (said : PlainVectors) → IsRight text said → HasTheForm form said
  in-form text said r =
      let reads : lines_so_far form text ≡ Ok (table_of form (whole_lines text)) = text_tracked form text ∙ ap (λ o. unless_shown o (Ok (table_of form (whole_lines text)))) r.right in
      let start : InForm form first_table = record { width = λ v i. absurd i; pairs = none-yet form.scripted; short = λ s i. absurd i } in
      let few = λ (line : List ℕ) (i : IsIn line (whole_lines text)). short-enough line (lines_short [] text line i) r.within in
      let is = along (whole_lines text) first_table (table_of form (whole_lines text)) few start reads in
      let paired = ap (λ d. length (table_of form (whole_lines text)).scripts.lists + owed d) (sym r.stop) ∙ is.pairs in
      subst (HasTheForm form) r.says (record { width = is.width; scripts = without _ _ paired; short = is.short })
    where
      none-yet : (scripted : Bool) → 0 + 0 ≡ per scripted * 0
      none-yet true = omega arith
      none-yet false = omega arith

      short-enough : (line : List ℕ) → length line ≤ length {A = ℕ} [] + length text → length text ≤ limit → length line ≤ limit
      short-enough line a b = omega arith

      without : (a b : ℕ) → a + 0 ≡ b → a ≡ b
      without a b e = omega arith

pub texts-in-form : TextsHaveTheirForm
texts-in-form form text said h = in-form form text said (is-right form text said h)
