-- Texts up to the limit and past it.
use Rattle.std.proofs.Common.{◌≡◌, ℕ, ◌+◌, ◌-◌, ◌<◌, ◌≤◌, min, List, [], ◌∷◌, ◌++◌, length, take, Option, Some, None, refl, sym, ap, subst, ◌∙◌, append_assoc, arith}
use Rattle.std.specs.Prelude.{option_map}
use Rattle.std.specs.Option.{option_or}
use Rattle.std.proofs.lemmas.List.{append-nil, length-append, take_all, take-append-le}
use Rattle.source_machine.specs.declared.unset.Unset.{Unset}
use Rattle.word_scan.proofs.CallerLemmasPieces.{take_joined, prefix_within}
use Rattle.aiger_reader.specs.declared.refusals.Shown.{Shown}
use Rattle.aiger_reader.specs.declared.refusals.Stop.{Stop}
use Rattle.aiger_reader.specs.declared.refusals.Stop.TheVariants as stops
use Rattle.aiger_reader.specs.declared.readings.Reading.{Reading}
use Rattle.aiger_reader.specs.Units.{units_after}
use Rattle.aiger_reader.specs.Sections.{kind_after, unit_refusal}
use Rattle.aiger_reader.specs.Sources.{place_after, shown_at, first_refusal, units_of, begun_of, shown_by, limit}
use Rattle.aiger_reader.specs.Building.{PlainBuilt, text_read, StopsFor}
use Rattle.aiger_reader.specs.Readings.{HasRead, HasStopped, IsReading}
use Rattle.aiger_reader.proofs.Cuts.{units_joined}
use Rattle.aiger_reader.proofs.Judging.{units_right, units_wrong}

or_joined : (a b c : Option Shown) → option_or a (option_or b c) ≡ option_or (option_or a b) c
or_joined None b c = refl
or_joined (Some x) b c = refl

module _ (unset : Unset) where
  pub first_joined : (before xs ys : List (List ℕ)) → first_refusal unset before (xs ++ ys) ≡ option_or (first_refusal unset before xs) (first_refusal unset (before ++ xs) ys)
  first_joined before [] ys = ap (λ (b : List (List ℕ)). first_refusal unset b ys) (sym (append-nil before))
  first_joined before (x ∷ xs) ys =
      let here : Option Shown = option_map (shown_at (place_after before x)) (unit_refusal unset before x) in
      ap (option_or here) (first_joined (before ++ x ∷ []) xs ys) ∙ or_joined here (first_refusal unset (before ++ x ∷ []) xs) (first_refusal unset ((before ++ x ∷ []) ++ xs) ys)
      ∙ ap (λ (b : List (List ℕ)). option_or (option_or here (first_refusal unset (before ++ x ∷ []) xs)) (first_refusal unset b ys)) (append_assoc before (x ∷ []) xs)

  -- what whole units show stays shown
  pub shown_stays : (text more : List ℕ) (shown : Shown) → shown_by unset text ≡ Some shown → shown_by unset (text ++ more) ≡ Some shown
  shown_stays text more shown h =
      let others : List (List ℕ) = units_after kind_after (units_of text) (begun_of text) more in
      ap (first_refusal unset []) (units_joined kind_after [] [] text more) ∙ first_joined [] (units_of text) others
      ∙ ap (λ (o : Option Shown). option_or o (first_refusal unset (units_of text) others)) h

  -- what was shown within the limit, or that the text is too long, stays so
  pub within_stays : (text more : List ℕ) (shown : Shown) → shown_by unset (take limit text) ≡ Some shown → shown_by unset (take limit (text ++ more)) ≡ Some shown
  within_stays text more shown h = ap (shown_by unset) (take_joined limit text more) ∙ shown_stays (take limit text) (take (limit - length text) more) shown h

  pub long_stays : (text more : List ℕ) → limit < length text → shown_by unset (take limit text) ≡ None → (limit < length (text ++ more)) × (shown_by unset (take limit (text ++ more)) ≡ None)
  long_stays text more long h = (omega (arith, long, length-append text more), ap (shown_by unset) (take-append-le limit text more (omega (arith, long))) ∙ h)

  stays : (text piece : List ℕ) (stop : Stop) (begun begun2 : List ℕ) (built built2 : PlainBuilt) → HasStopped unset text (Some stop) begun built
      → HasStopped unset (text ++ piece) (Some stop) begun2 built2
  stays text piece (stops.Unit shown) begun begun2 built built2 h = within_stays text piece shown h
  stays text piece stops.TooLong begun begun2 built built2 h = long_stays text piece h.0 h.1
  stays text piece stops.NoMemory begun begun2 built built2 h = tt

  -- reading stopped within the limit
  pub stopped_at : (text piece prefix : List ℕ) (room : ℕ) (stop : Stop) (begun : List ℕ) (built : PlainBuilt) → room ≤ limit → length text ≡ limit - room → prefix ≡ take room piece
      → StopsFor stop (text_read unset (text ++ prefix)) → HasStopped unset (text ++ piece) (Some stop) begun built
  stopped_at text piece prefix room (stops.Unit shown) begun built within e f h =
      ap (shown_by unset) (prefix_within limit text piece room within e ∙ ap (λ (l : List ℕ). text ++ l) (sym f)) ∙ units_wrong unset (units_of (text ++ prefix)) shown h
  stopped_at text piece prefix room stops.TooLong begun built within e f h = absurd h
  stopped_at text piece prefix room stops.NoMemory begun built within e f h = tt

  -- what is read is right
  pub right_so_far : (text begun : List ℕ) (built : PlainBuilt) → HasRead unset text begun built → shown_by unset text ≡ None
  right_so_far text begun built has = (units_right unset (units_of text) built has.reads).0

  pub too_long_at : (text piece prefix : List ℕ) (room : ℕ) (begun begun2 : List ℕ) (built built2 : PlainBuilt) → room ≤ limit → length text ≡ limit - room → prefix ≡ take room piece
      → room < length piece → HasRead unset (text ++ prefix) begun2 built2 → HasStopped unset (text ++ piece) (Some stops.TooLong) begun built
  too_long_at text piece prefix room begun begun2 built built2 within e f long has = (
    omega (arith, length-append text piece, e, within, long),
    ap (shown_by unset) (prefix_within limit text piece room within e ∙ ap (λ (l : List ℕ). text ++ l) (sym f)) ∙ right_so_far (text ++ prefix) begun2 built2 has,
  )

  pub goes_on_at : (text piece prefix : List ℕ) (room : ℕ) (begun : List ℕ) (built : PlainBuilt) → room ≤ limit → length text ≡ limit - room → prefix ≡ take room piece → length piece ≤ room
      → HasRead unset (text ++ prefix) begun built → HasStopped unset (text ++ piece) None begun built
  goes_on_at text piece prefix room begun built within e f short has =
      (omega (arith, length-append text piece, e, within, short), subst (λ (l : List ℕ). HasRead unset (text ++ l) begun built) (f ∙ take_all room piece short) has)

  pub reads_not : (text piece : List ℕ) (old new : Reading) (stop : Stop) → old.stopped ≡ Some stop → IsReading unset text old
      → new.taken ≡ old.taken + min (length piece) (limit - old.taken) → new.stopped ≡ old.stopped → new.unset ≡ old.unset → IsReading unset (text ++ piece) new
  reads_not text piece old new stop is read taken same choice =
      let h : HasStopped unset text (Some stop) old.begun.items old.built = subst (λ (s : Option Stop). HasStopped unset text s old.begun.items old.built) is read.stopped in
      record {
        choice = choice ∙ read.choice;
        taken = omega (arith, read.taken, taken, length-append text piece);
        stopped = subst (λ (s : Option Stop). HasStopped unset (text ++ piece) s new.begun.items new.built) (sym (same ∙ is))
            (stays text piece stop old.begun.items new.begun.items old.built new.built h);
      }
