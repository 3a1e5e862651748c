-- The checks of a logical line, whatever its words.
use Rattle.std.proofs.Common.{◌≡◌, ℕ, Bool, true, false, not, ◌&&◌, ◌==◌, cond, List, [], ◌∷◌, ◌++◌, length, Option, Some, None, codes, refl, sym, ap, subst}
use Rattle.std.specs.Prelude.{slice_index}
use Rattle.std.specs.Option.{option_or}
use Rattle.std.specs.Str.{bytes_eq}
use Rattle.std.specs.List.{list_any}
use Rattle.std.proofs.lemmas.List.{append-nil}
use Rattle.pulse_ids.specs.declared.quantities.Quantity.TheVariants as quantities
use Rattle.word_scan.specs.Logical.{has_strange}
use Rattle.source_machine.specs.declared.unset.Unset.{Unset}
use Rattle.blif_reader.specs.declared.refusals.BlifCause.TheVariants as causes
use Rattle.blif_reader.specs.States.{BlifState, closed}
use Rattle.blif_reader.specs.Refusing.{unless_long}
use Rattle.blif_reader.specs.Statements.{statement_read, row_read, words_read}
use Rattle.blif_reader.specs.Tellings.{latch_words, has_words, rows_under}
use Rattle.blif_reader.specs.LineRefusals.{first_failed, long, is_end, kind_in, control_of, OpenNames, open_names, row_refused, statement_refused, line_refused}
use Rattle.blif_reader.proofs.Checking.{Meets, meets_over, meets_where, meets_either, meets_on, meets_last}
use Rattle.blif_reader.proofs.TiedStates.{HasTold, HasKept, TypedIs, Adds, OpenIs, same_adds, closed_adds}
use Rattle.blif_reader.proofs.RowChecks.{Leaves, row_meets}
use Rattle.blif_reader.proofs.LineChecks.{Then, statement_meets}
use Rattle.blif_reader.proofs.OpenLines.{open_dotted, open_empty, open_row}
use Rattle.blif_reader.proofs.RowTellings.{not_keyword}

module _ (unset : Unset) (lines : List (List (List ℕ))) (state : BlifState) (told : HasTold lines state) (kept : HasKept lines state)
    (open_is : OpenIs state.unended (open_names lines)) where
  -- what a line leaves
  abbrev pub Left : List (List ℕ) → BlifState → Type 0
  Left line next = Adds state next line × OpenIs next.unended (open_names (lines ++ line ∷ []))

  module _ (first : List ℕ) (words : List (List ℕ)) where
    abbrev This : BlifState → Type 0
    This = Left (first ∷ words)

    dot_meets : (slice_index first 0 == 46) ≡ true
        → Meets (unless_long first (statement_read unset (closed state) first words)) (first_failed (long first ∷ statement_refused unset lines first words ∷ [])) This
    dot_meets dot =
        meets_over This quantities.NameBytes (length first) (statement_read unset (closed state) first words) (option_or (statement_refused unset lines first words) None)
        (meets_last This (statement_read unset (closed state) first words) (statement_refused unset lines first words)
        (meets_on (Then unset lines state told kept (first ∷ words)) This (statement_read unset (closed state) first words) (statement_refused unset lines first words)
        (statement_meets unset lines state told kept first words dot) (λ next h. (
          closed_adds state next (first ∷ words) h.0,
          subst (λ (o : Option OpenNames). OpenIs next.unended o) (sym (open_dotted lines (first ∷ words) dot)) h.1,
        ))))

    module _ (plain : (slice_index first 0 == 46) ≡ false) (latch : bytes_eq first (codes ".latch") ≡ false) (end : bytes_eq first (codes ".end") ≡ false)
        (model : bytes_eq first (codes ".model") ≡ false)
        (typed : (kinds controls : List (List ℕ)) → TypedIs state.typed kinds controls
        → TypedIs state.typed (kinds ++ kind_in (latch_words (first ∷ words))) (controls ++ control_of (latch_words (first ∷ words)))) where
      abbrev After : Option OpenNames → BlifState → Type 0
      After found next = Leaves lines state kept first words plain typed end model latch found next

      left : (found : Option OpenNames) → open_names lines ≡ found → (next : BlifState) → After found next → This next
      left None e next h = absurd h
      left (Some before) e next h =
          let one : rows_under ((first ∷ words) ∷ []) ≡ (first ∷ words) ∷ [] = rw plain refl in
          (h.0, subst (λ (o : Option OpenNames). OpenIs next.unended o) (sym (open_row (first ∷ words) one plain lines before e)) h.1)

      by_told : (found : Option OpenNames) → open_names lines ≡ found → Meets (row_read state (first ∷ words)) (row_refused lines found (first ∷ words)) This
      by_told found e =
          meets_on (After found) This (row_read state (first ∷ words)) (row_refused lines found (first ∷ words))
          (row_meets lines state kept first words plain typed end model latch state.unended found (subst (λ (o : Option OpenNames). OpenIs state.unended o) e open_is)) (left found e)

    plain_meets : (slice_index first 0 == 46) ≡ false → Meets (row_read state (first ∷ words)) (row_refused lines (open_names lines) (first ∷ words)) This
    plain_meets plain =
        let latch : bytes_eq first (codes ".latch") ≡ false = not_keyword first (codes ".latch") plain refl in
        let end : bytes_eq first (codes ".end") ≡ false = not_keyword first (codes ".end") plain refl in
        let model : bytes_eq first (codes ".model") ≡ false = not_keyword first (codes ".model") plain refl in
        let none : latch_words (first ∷ words) ≡ [] = rw latch refl in
        let typed : (kinds controls : List (List ℕ)) → TypedIs state.typed kinds controls
        → TypedIs state.typed (kinds ++ kind_in (latch_words (first ∷ words))) (controls ++ control_of (latch_words (first ∷ words))) = λ kinds controls t.
        subst (λ (w : List (List ℕ)). TypedIs state.typed (kinds ++ kind_in w) (controls ++ control_of w)) (sym none)
        (subst (λ (l : List (List ℕ)). TypedIs state.typed l (controls ++ [])) (sym (append-nil kinds)) (subst (λ (l : List (List ℕ)). TypedIs state.typed kinds l) (sym (append-nil controls)) t)) in
        by_told plain latch end model typed (open_names lines) refl

    line_meets : (text : List ℕ) → has_strange text ≡ list_any has_strange (first ∷ words) → Meets (words_read unset state text (first ∷ words)) (line_refused unset lines (first ∷ words)) This
    line_meets text e =
        let named : Bool = bytes_eq first (codes ".model") in
        meets_where This (has_strange text) (list_any has_strange (first ∷ words)) causes.BadWord _ _ e (λ strange.
        meets_where This (not state.modelled && not named) (not (list_any has_words lines) && not named) causes.NoModel _ _ (ap (λ b. not b && not named) told.begun) (λ right.
        meets_where This state.ended (list_any is_end lines) (cond named causes.SecondModel causes.AfterEnd) _ _ kept.ended (λ going.
        meets_last This _ _
        (meets_either This (slice_index first 0 == 46) _ _ _ _ dot_meets plain_meets))))

  -- a logical line is refused as words tell
  pub text_meets : (text : List ℕ) (line : List (List ℕ)) → has_strange text ≡ list_any has_strange line → Meets (words_read unset state text line) (line_refused unset lines line) (Left line)
  text_meets text [] e = (
    refl,
    (
      same_adds state state [] (record { typed = refl; ended = refl; model = refl; size = refl; latches = refl }) refl refl refl refl refl refl,
      subst (λ (o : Option OpenNames). OpenIs state.unended o) (sym (open_empty lines)) open_is,
    ),
  )
  text_meets text (first ∷ words) e = line_meets first words text e
