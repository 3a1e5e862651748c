-- The checks of a line.
use Rattle.std.proofs.Common.{◌≡◌, ℕ, true, false, not, ◌==◌, ltb, List, [], ◌∷◌, ◌++◌, length, Option, Some, None, Result, Ok, Err, codes, refl, sym, ap, subst, arith}
use Rattle.std.specs.Prelude.{slice_index}
use Rattle.std.specs.Str.{bytes_eq}
use Rattle.std.specs.List.{list_any}
use Rattle.std.proofs.lemmas.List.{append-nil}
use Rattle.std.proofs.lemmas.Bool.{lt-ltb}
use Rattle.std.proofs.Math.Bool.{or-true, or-false}
use Rattle.pulse_ids.specs.declared.quantities.Quantity.TheVariants as quantities
use Rattle.source_machine.specs.declared.unset.Unset.{Unset}
use Rattle.blif_reader.specs.declared.refusals.BlifCause.TheVariants as causes
use Rattle.blif_reader.specs.declared.refusals.LineRefusal.{LineRefusal}
use Rattle.blif_reader.specs.declared.refusals.LineRefusal.TheVariants.{Cause}
use Rattle.blif_reader.specs.States.{BlifState, closed}
use Rattle.blif_reader.specs.Statements.{model_read, end_read, is_passed_over, statement_read}
use Rattle.blif_reader.specs.Tellings.{has_words}
use Rattle.blif_reader.specs.LineRefusals.{fails_where, is_model, opened, model_refused, statement_refused}
use Rattle.blif_reader.proofs.Checking.{Meets, meets_over, meets_where, meets_either}
use Rattle.blif_reader.proofs.TiedStates.{HasTold, HasKept, TypedIs, Adds, OpenIs, same_adds, closed_told, closed_kept}
use Rattle.blif_reader.proofs.WordChecks.{inputs_meet, outputs_meet, clocks_meet, names_meet}
use Rattle.blif_reader.proofs.LatchChecks.{latches_meet}
use Rattle.blif_reader.proofs.LineTellings.{is_keyword}

module _ (unset : Unset) (lines : List (List (List ℕ))) (state : BlifState) (told : HasTold lines state) (kept : HasKept lines state) where
  abbrev start : BlifState
  start = closed state

  -- what a line that begins with a dot leaves
  abbrev pub Then : List (List ℕ) → BlifState → Type 0
  Then line next = Adds start next line × OpenIs next.unended (opened line [])

  begins_model : (words : List (List ℕ)) → state.modelled ≡ false → Then (codes ".model" ∷ words) (record start { modelled = true })
  begins_model words e = (
    record {
      typed = λ kinds controls t. subst (λ (l : List (List ℕ)). TypedIs start.typed l (controls ++ [])) (sym (append-nil kinds))
          (subst (λ (l : List (List ℕ)). TypedIs start.typed kinds l) (sym (append-nil controls)) t);
      ended = sym (or-false state.ended);
      model = sym (or-true state.modelled);
      size = omega arith;
      latches = omega arith;
    },
    tt,
  )

  model_meets : (words : List (List ℕ)) → Meets (model_read start words) (model_refused lines words) (Then (codes ".model" ∷ words))
  model_meets [] =
      meets_where (Then (codes ".model" ∷ [])) state.modelled (list_any is_model lines) causes.SecondModel (Ok (record start { modelled = true })) _ kept.model
      (λ e. (refl, begins_model [] e))
  model_meets (name ∷ []) =
      meets_where (Then (codes ".model" ∷ name ∷ [])) state.modelled (list_any is_model lines) causes.SecondModel _ _ kept.model (λ e.
      meets_over (Then (codes ".model" ∷ name ∷ [])) quantities.NameBytes (length name) (Ok (record start { modelled = true })) None (refl, begins_model (name ∷ []) e))
  model_meets (name ∷ word ∷ words) =
      meets_where (Then (codes ".model" ∷ name ∷ word ∷ words)) state.modelled (list_any is_model lines) causes.SecondModel (Err (Cause causes.BadWord)) _ kept.model (λ e.
      let many : ltb 1 (length (name ∷ word ∷ words)) ≡ true = lt-ltb 1 (length (name ∷ word ∷ words)) (omega arith) in rw many refl)

  end_meets : (words : List (List ℕ)) → Meets (end_read start words) (fails_where (has_words words) causes.BadWord) (Then (codes ".end" ∷ words))
  end_meets (word ∷ words) = refl
  end_meets [] = (
    refl,
    (
      record {
        typed = λ kinds controls t. subst (λ (l : List (List ℕ)). TypedIs start.typed l (controls ++ [])) (sym (append-nil kinds))
            (subst (λ (l : List (List ℕ)). TypedIs start.typed kinds l) (sym (append-nil controls)) t);
        ended = sym (or-true state.ended);
        model = sym (or-false state.modelled);
        size = omega arith;
        latches = omega arith;
      },
      tt,
    ),
  )

  passed : (first : List ℕ) (words : List (List ℕ)) → (slice_index first 0 == 46) ≡ true → bytes_eq first (codes ".model") ≡ false → bytes_eq first (codes ".names") ≡ false
      → bytes_eq first (codes ".latch") ≡ false → bytes_eq first (codes ".end") ≡ false → Then (first ∷ words) start
  passed first words dot model names latch end = (
    same_adds start start (first ∷ words) (record { typed = refl; ended = refl; model = refl; size = refl; latches = refl }) (rw latch refl) (rw latch refl) end model (ap not dot) latch,
    rw names tt,
  )

  on_keyword : (first keyword : List ℕ) (words : List (List ℕ)) (read : Result BlifState LineRefusal) (shown : Option LineRefusal) → bytes_eq first keyword ≡ true
      → Meets read shown (Then (keyword ∷ words)) → Meets read shown (Then (first ∷ words))
  on_keyword first keyword words read shown is m = subst (λ (k : List ℕ). Meets read shown (Then (k ∷ words))) (sym (is_keyword first keyword is)) m

  pub statement_meets : (first : List ℕ) (words : List (List ℕ)) → (slice_index first 0 == 46) ≡ true
      → Meets (statement_read unset start first words) (statement_refused unset lines first words) (Then (first ∷ words))
  statement_meets first words dot =
      let This : BlifState → Type 0 = Then (first ∷ words) in
      let t : HasTold lines start = closed_told lines state told in
      meets_either This (bytes_eq first (codes ".model")) _ _ _ _ (λ e. on_keyword first (codes ".model") words _ _ e (model_meets words)) (λ model.
      meets_either This (bytes_eq first (codes ".inputs")) _ _ _ _ (λ e. on_keyword first (codes ".inputs") words _ _ e (inputs_meet lines start t refl words)) (λ inputs.
      meets_either This (bytes_eq first (codes ".outputs")) _ _ _ _ (λ e. on_keyword first (codes ".outputs") words _ _ e (outputs_meet lines start t refl words)) (λ outputs.
      meets_either This (bytes_eq first (codes ".clock")) _ _ _ _ (λ e. on_keyword first (codes ".clock") words _ _ e (clocks_meet lines start t refl words)) (λ clock.
      meets_either This (bytes_eq first (codes ".names")) _ _ _ _ (λ e. on_keyword first (codes ".names") words _ _ e (names_meet lines start t refl words)) (λ names.
      meets_either This (bytes_eq first (codes ".latch")) _ _ _ _ (λ e. on_keyword first (codes ".latch") words _ _ e
      (latches_meet unset lines start t (closed_kept lines state kept) refl words)) (λ latch.
      meets_either This (bytes_eq first (codes ".end")) _ _ _ _ (λ e. on_keyword first (codes ".end") words _ _ e (end_meets words)) (λ end.
      meets_either This (is_passed_over first) (Ok start) (Err (Cause (causes.Unsupported first))) None (Some (Cause (causes.Unsupported first)))
      (λ e. (refl, passed first words dot model names latch end)) (λ e. refl))))))))
