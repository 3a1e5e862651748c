-- The checks of a row.
use Rattle.std.proofs.Common.{◌≡◌, ℕ, ◌+◌, ◌-◌, ◌⊎◌, inl, inr, Bool, true, false, not, ◌||◌, ◌&&◌, ◌==◌, cond, List, [], ◌∷◌, ◌++◌, length, Option, Some, None, Ok, Err, codes, refl, sym, ap}
use Rattle.std.proofs.Common.{subst, ◌∙◌, arith}
use Rattle.std.specs.Prelude.{slice_index}
use Rattle.std.specs.Bool.{beq}
use Rattle.std.specs.Option.{option_or}
use Rattle.std.specs.Str.{bytes_eq}
use Rattle.std.specs.List.{list_any}
use Rattle.std.proofs.lemmas.List.{length_push}
use Rattle.std.proofs.lemmas.Slice.Eq.{bytes_eq-Decides}
use Rattle.std.proofs.Math.Bool.{or-false}
use Rattle.pulse_ids.specs.declared.quantities.Quantity.TheVariants as quantities
use Rattle.source_machine.specs.Machines.{PlainLiteral}
use Rattle.blif_reader.specs.declared.refusals.BlifCause.TheVariants as causes
use Rattle.blif_reader.specs.declared.refusals.LineRefusal.{LineRefusal}
use Rattle.blif_reader.specs.declared.refusals.LineRefusal.TheVariants.{Cause}
use Rattle.blif_reader.specs.Rows.{bit_of, row_words, are_marks, cares_in, literals_of}
use Rattle.blif_reader.specs.States.{BlifState, OpenEquation}
use Rattle.blif_reader.specs.Refusing.{over}
use Rattle.blif_reader.specs.Statements.{has_rows, with_row, bit_added, row_added, row_read_by}
use Rattle.blif_reader.specs.Tellings.{latch_words, last_or}
use Rattle.blif_reader.specs.LineRefusals.{first_failed, fails_where, above, is_end, is_latch, is_model, is_row, kind_in, control_of, OpenNames, is_bit, is_row_of, row_size, size_told, row_refused}
use Rattle.blif_reader.proofs.Checking.{Meets, meets_over, meets_where}
use Rattle.blif_reader.proofs.TiedStates.{HasKept, TypedIs, EndIn, EquationIs, OpenIs, Adds}

bit_word_by : (a b : Bool) (word : List ℕ) (bit : Bool) → bytes_eq word (codes "0") ≡ a → bytes_eq word (codes "1") ≡ b → cond a (Some false) (cond b (Some true) None) ≡ Some bit
    → word ≡ cond bit (codes "1") (codes "0")
bit_word_by true b word bit e f h = let k : false ≡ bit = cc in subst (λ x. word ≡ cond x (codes "1") (codes "0")) k ((bytes_eq-Decides word (codes "0")).0 e)
bit_word_by false true word bit e f h = let k : true ≡ bit = cc in subst (λ x. word ≡ cond x (codes "1") (codes "0")) k ((bytes_eq-Decides word (codes "1")).0 f)
bit_word_by false false word bit e f h = absurd cc

-- the word of a bit
bit_word : (word : List ℕ) (bit : Bool) → bit_of word ≡ Some bit → word ≡ cond bit (codes "1") (codes "0")
bit_word word bit h = bit_word_by (bytes_eq word (codes "0")) (bytes_eq word (codes "1")) word bit refl refl h

words_differ : (a b : Bool) → bytes_eq (cond a (codes "1") (codes "0")) (cond b (codes "1") (codes "0")) ≡ beq a b
words_differ true true = refl
words_differ true false = refl
words_differ false true = refl
words_differ false false = refl

bits_differ : (first word : List ℕ) (a b : Bool) → bit_of first ≡ Some a → bit_of word ≡ Some b → bytes_eq first word ≡ beq a b
bits_differ first word a b e f =
    ap (λ (w : List ℕ). bytes_eq w word) (bit_word first a e) ∙ ap (λ (w : List ℕ). bytes_eq (cond a (codes "1") (codes "0")) w) (bit_word word b f) ∙ words_differ a b

one_or : (b c : Bool) → (c ≡ b) ⊎ (c ≡ false) → (b || c) ≡ b
one_or true c h = refl
one_or false c (inl h) = h
one_or false c (inr h) = h

-- rows in one bit differ from a bit as the first one does
differ_by : (on bit : Bool) (word : List ℕ) → bit_of word ≡ Some bit → (rows : List (List (List ℕ))) → EndIn on rows
    → (list_any (λ other. not (bytes_eq (last_or [] other) word)) rows ≡ not (beq on bit)) ⊎ (list_any (λ other. not (bytes_eq (last_or [] other) word)) rows ≡ false)
differ_by on bit word e [] h = inr refl
differ_by on bit word e (row ∷ rows) h =
    let one : not (bytes_eq (last_or [] row) word) ≡ not (beq on bit) = ap not (bits_differ (last_or [] row) word on bit h.0 e) in
    inl (ap (λ b. b || list_any (λ other. not (bytes_eq (last_or [] other) word)) rows) one
    ∙ one_or (not (beq on bit)) (list_any (λ other. not (bytes_eq (last_or [] other) word)) rows) (differ_by on bit word e rows h.1))

mixed_is : (on bit : Bool) (word : List ℕ) → bit_of word ≡ Some bit → (cubes : List (List PlainLiteral)) (rows : List (List (List ℕ))) → length cubes ≡ length rows → EndIn on rows
    → (has_rows cubes && not (beq on bit)) ≡ list_any (λ other. not (bytes_eq (last_or [] other) word)) rows
mixed_is on bit word e [] [] n h = refl
mixed_is on bit word e [] (row ∷ rows) n h = absurd (omega (arith, n))
mixed_is on bit word e (cube ∷ cubes) [] n h = absurd (omega (arith, n))
mixed_is on bit word e (cube ∷ cubes) (row ∷ rows) n h =
    let one : not (bytes_eq (last_or [] row) word) ≡ not (beq on bit) = ap not (bits_differ (last_or [] row) word on bit h.0 e) in
    sym (ap (λ b. b || list_any (λ other. not (bytes_eq (last_or [] other) word)) rows) one
    ∙ one_or (not (beq on bit)) (list_any (λ other. not (bytes_eq (last_or [] other) word)) rows) (differ_by on bit word e rows h.1))

same_bit : (on bit : Bool) → not (beq on bit) ≡ false → on ≡ bit
same_bit true true h = refl
same_bit true false h = absurd cc
same_bit false true h = absurd cc
same_bit false false h = refl

end_on : (on bit : Bool) (rows : List (List (List ℕ))) (row : List (List ℕ)) → EndIn on rows → on ≡ bit → bit_of (last_or [] row) ≡ Some bit → EndIn bit (rows ++ row ∷ [])
end_on on bit [] row h e f = (f, tt)
end_on on bit (first ∷ rows) row h e f = (h.0 ∙ ap (λ b. Some b) e, end_on on bit rows row h.1 e f)

ends_on : (on bit : Bool) (cubes : List (List PlainLiteral)) (rows : List (List (List ℕ))) (row : List (List ℕ)) → length cubes ≡ length rows → EndIn on rows
    → (has_rows cubes && not (beq on bit)) ≡ false → bit_of (last_or [] row) ≡ Some bit → EndIn bit (rows ++ row ∷ [])
ends_on on bit cubes [] row n h e f = (f, tt)
ends_on on bit [] (first ∷ rows) row n h e f = absurd (omega (arith, n))
ends_on on bit (cube ∷ cubes) (first ∷ rows) row n h e f = end_on on bit (first ∷ rows) row h (same_bit on bit e) f

module _ (lines : List (List (List ℕ))) (state : BlifState) (kept : HasKept lines state) (first : List ℕ) (words : List (List ℕ)) (plain : (slice_index first 0 == 46) ≡ false)
    (typed : (kinds controls : List (List ℕ)) → TypedIs state.typed kinds controls → TypedIs state.typed (kinds ++ kind_in (latch_words (first ∷ words)))
    (controls ++ control_of (latch_words (first ∷ words))))
    (end : is_end (first ∷ words) ≡ false) (model : is_model (first ∷ words) ≡ false) (latch : is_latch (first ∷ words) ≡ false) where
  -- what a row leaves
  abbrev pub Rows : OpenNames → BlifState → Type 0
  Rows told next = Adds state next (first ∷ words) × OpenIs next.unended (Some (record told { rows = told.rows ++ (first ∷ words) ∷ [] }))

  module _ (unended : OpenEquation) (told : OpenNames) (is : EquationIs unended told) (marks word : List ℕ) (last : last_or [] (first ∷ words) ≡ word)
      (size : row_size (first ∷ words) ≡ 1 + cares_in marks) where
    abbrev mixed : Bool
    mixed = list_any (λ other. not (bytes_eq (last_or [] other) (last_or [] (first ∷ words)))) told.rows

    abbrev Then : BlifState → Type 0
    Then = Rows told

    abbrev after_shape : Option LineRefusal
    after_shape = first_failed (fails_where mixed causes.MixedCover ∷ above quantities.Size (size_told lines + row_size (first ∷ words)) ∷ [])

    added : (bit : Bool) → bit_of word ≡ Some bit → Meets (bit_added state unended marks (Some bit)) after_shape Then
    added bit e =
        let count : ℕ = state.size + (1 + cares_in marks) in
        let new : BlifState = record state { size = count; unended = Some (with_row unended bit marks) } in
        let same : list_any (λ other. not (bytes_eq (last_or [] other) word)) told.rows ≡ mixed = ap (λ (w : List ℕ). list_any (λ other. not (bytes_eq (last_or [] other) w)) told.rows) (sym last) in
        let total : count ≡ size_told lines + row_size (first ∷ words) = omega (arith, kept.size, size) in
        let grown : cond (is_row (first ∷ words)) (row_size (first ∷ words)) 0 ≡ row_size (first ∷ words) =
        ap {B = ℕ} (λ b. cond (not b) (row_size (first ∷ words)) 0) plain in
        meets_where Then (has_rows unended.equation.cubes && not (beq unended.equation.on bit)) mixed causes.MixedCover (over quantities.Size count (Ok new)) _
        (mixed_is unended.equation.on bit word e unended.equation.cubes told.rows is.rows is.bits ∙ same) (λ right.
        subst (λ k. Meets (over quantities.Size count (Ok new)) (option_or (above quantities.Size k) None) Then) total
        (meets_over Then quantities.Size count (Ok new) None (
          refl,
          (
            record {
              typed = typed;
              ended = sym (or-false state.ended) ∙ ap (λ b. state.ended || b) (sym end);
              model = sym (or-false state.modelled) ∙ ap (λ b. state.modelled || b) (sym model);
              size = omega (arith, size, grown);
              latches = let h = ap {B = ℕ} (λ b. cond b 1 0) latch in omega (arith, h);
            },
            record {
              columns = is.columns;
              rows = length_push unended.equation.cubes (literals_of unended.columns marks) ∙ ap (λ k. k + 1) is.rows ∙ sym (length_push told.rows (first ∷ words));
              bits = ends_on unended.equation.on bit unended.equation.cubes told.rows (first ∷ words) is.rows is.bits right (ap bit_of last ∙ e);
            },
          ),
        )))

    bit_by : (a b : Bool) → cond a (Some false) (cond b (Some true) None) ≡ bit_of word
        → Meets (bit_added state unended marks (cond a (Some false) (cond b (Some true) None))) (option_or (fails_where (not (a || b)) causes.RowShape) after_shape) Then
    bit_by true b e = added false (sym e)
    bit_by false true e = added true (sym e)
    bit_by false false e = refl

    shape_by : (fits : Bool) → Meets (cond fits (bit_added state unended marks (bit_of word)) (Err (Cause causes.RowShape)))
        (option_or (fails_where (not (fits && is_bit word)) causes.RowShape) after_shape) Then
    shape_by true = bit_by (bytes_eq word (codes "0")) (bytes_eq word (codes "1")) refl
    shape_by false = refl

  module _ (unended : OpenEquation) (told : OpenNames) (is : EquationIs unended told) where
    columns_are : length told.names - 1 ≡ length unended.columns
    columns_are = omega (arith, is.columns)

    -- the checks after the shape
    abbrev others : Option LineRefusal
    others = first_failed (fails_where (list_any (λ other. not (bytes_eq (last_or [] other) (last_or [] (first ∷ words)))) told.rows) causes.MixedCover
        ∷ above quantities.Size (size_told lines + row_size (first ∷ words)) ∷ [])

    nothing_by : (b : Bool) → (length unended.columns == 0) ≡ b → are_marks (length unended.columns) [] ≡ b
    nothing_by true e = rw e refl
    nothing_by false e = rw e refl

    row_by : (constant : Bool) → (length unended.columns == 0) ≡ constant → (more : List (List ℕ)) → words ≡ more
        → Meets (row_added state unended (row_words constant (first ∷ more))) (option_or (fails_where (not (is_row_of (length unended.columns) (first ∷ more))) causes.RowShape) others) (Rows told)
    row_by true e [] f =
        let m = shape_by unended told is [] first (ap (λ (l : List (List ℕ)). last_or [] (first ∷ l)) f) (ap (λ (l : List (List ℕ)). row_size (first ∷ l)) f) true in
        rw (nothing_by true e, e) m
    row_by false e [] f = rw e refl
    row_by true e (word ∷ []) f = rw e refl
    row_by false e (word ∷ []) f =
        rw e (shape_by unended told is first word (ap (λ (l : List (List ℕ)). last_or [] (first ∷ l)) f) (ap (λ (l : List (List ℕ)). row_size (first ∷ l)) f)
        (are_marks (length unended.columns) first))
    row_by true e (word ∷ other ∷ more) f = refl
    row_by false e (word ∷ other ∷ more) f = refl

    equation_meets : Meets (row_added state unended (row_words (length unended.columns == 0) (first ∷ words))) (row_refused lines (Some told) (first ∷ words)) (Rows told)
    equation_meets =
        subst (λ k. Meets (row_added state unended (row_words (length unended.columns == 0) (first ∷ words)))
        (option_or (fails_where (not (is_row_of k (first ∷ words))) causes.RowShape) others) (Rows told)) (sym columns_are)
        (row_by (length unended.columns == 0) refl words refl)

  -- what a row leaves after these names
  abbrev pub Leaves : Option OpenNames → BlifState → Type 0
  Leaves None next = ⊥
  Leaves (Some told) next = Rows told next

  pub row_meets : (unended : Option OpenEquation) (told : Option OpenNames) → OpenIs unended told
      → Meets (row_read_by state unended (first ∷ words)) (row_refused lines told (first ∷ words)) (Leaves told)
  row_meets None None is = refl
  row_meets None (Some told) is = absurd is
  row_meets (Some unended) None is = absurd is
  row_meets (Some unended) (Some told) is = equation_meets unended told is
