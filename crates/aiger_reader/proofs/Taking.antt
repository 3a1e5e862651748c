-- Units that are read one after the other, as the text grows by parts.
use Rattle.std.proofs.Common.{◌≡◌, ℕ, ◌+◌, List, [], ◌∷◌, ◌++◌, length, take, drop, Result, Ok, Err, sym, ap, subst, ◌∙◌, append_assoc}
use Rattle.std.proofs.lemmas.List.{take-append-drop}
use Rattle.source_machine.specs.declared.unset.Unset.{Unset}
use Rattle.word_scan.specs.Reading.{read_on}
use Rattle.word_scan.proofs.CallerLemmasReading.{read_joined, read_refused}
use Rattle.aiger_reader.specs.declared.refusals.Shown.{Shown}
use Rattle.aiger_reader.specs.declared.refusals.Stop.{Stop}
use Rattle.aiger_reader.specs.declared.refusals.Stop.TheVariants as stops
use Rattle.aiger_reader.specs.Units.{units_after, begun_after, IsFirstEnd, HasNoEnd}
use Rattle.aiger_reader.specs.Sections.{kind_at, kind_after}
use Rattle.aiger_reader.specs.Sources.{units_of, begun_of}
use Rattle.aiger_reader.specs.Building.{PlainBuilt, nothing_built, shown_read, text_read, StopsFor}
use Rattle.aiger_reader.specs.Readings.{HasRead}
use Rattle.aiger_reader.proofs.Cuts.{units_joined, begun_joined, part_with_end, piece_without_end}
use Rattle.aiger_reader.proofs.Tracking.{text_tracked, kind_tracked}

module _ (unset : Unset) where
  -- what a text and more bytes lead to
  pub text_joined : (text more : List ℕ) → text_read unset (text ++ more) ≡ read_on (shown_read unset) (text_read unset text) (units_after kind_after (units_of text) (begun_of text) more)
  text_joined text more =
      ap (read_on (shown_read unset) (Ok nothing_built)) (units_joined kind_after [] [] text more)
      ∙ read_joined (shown_read unset) (Ok nothing_built) (units_of text) (units_after kind_after (units_of text) (begun_of text) more)

  -- a refusal stands, whatever follows
  pub refused_stays : (text more : List ℕ) (shown : Shown) → text_read unset text ≡ Err shown → text_read unset (text ++ more) ≡ Err shown
  refused_stays text more shown h =
      text_joined text more ∙ ap (λ (r : Result PlainBuilt Shown). read_on (shown_read unset) r (units_after kind_after (units_of text) (begun_of text) more)) h
      ∙ read_refused (shown_read unset) shown (units_after kind_after (units_of text) (begun_of text) more)

  module _ (text begun piece : List ℕ) (built : PlainBuilt) (has : HasRead unset text begun built) where
    kind_is : kind_after (units_of text) ≡ kind_at built.header built.place
    kind_is = kind_tracked (units_of text) built (text_tracked unset text built has.reads)

    -- the units that a part completes are read from the state so far
    part_read : (part : List ℕ) (units : List (List ℕ)) → units_after kind_after (units_of text) begun part ≡ units → text_read unset (text ++ part) ≡ read_on (shown_read unset) (Ok built) units
    part_read part units e =
        text_joined text part ∙ ap (λ (r : Result PlainBuilt Shown). read_on (shown_read unset) r (units_after kind_after (units_of text) (begun_of text) part)) has.reads
        ∙ ap (λ (b : List ℕ). read_on (shown_read unset) (Ok built) (units_after kind_after (units_of text) b part)) has.begun_is ∙ ap (read_on (shown_read unset) (Ok built)) e

    begun_then : (part left : List ℕ) → begun_after kind_after (units_of text) begun part ≡ left → begun_of (text ++ part) ≡ left
    begun_then part left e = begun_joined kind_after [] [] text part ∙ ap (λ (b : List ℕ). begun_after kind_after (units_of text) b part) has.begun_is ∙ e

    -- a piece that completes no unit
    pub open_step : HasNoEnd (kind_at built.header built.place) (length begun) piece → HasRead unset (text ++ piece) (begun ++ piece) built
    open_step none =
        let e = piece_without_end kind_after (units_of text) begun piece (subst (λ k. HasNoEnd k (length begun) piece) (sym kind_is) none) in
        record { begun_is = begun_then piece (begun ++ piece) e.1; reads = part_read piece [] e.0 }

    module _ (end : ℕ) (found : IsFirstEnd (kind_at built.header built.place) (length begun) piece end) where
      ends : (units_after kind_after (units_of text) begun (take (end + 1) piece) ≡ (begun ++ take (end + 1) piece) ∷ []) × (begun_after kind_after (units_of text) begun (take (end + 1) piece) ≡ [])
      ends = part_with_end kind_after (units_of text) begun piece end (subst (λ k. IsFirstEnd k (length begun) piece end) (sym kind_is) found)

      -- a part that completes a unit, which is read
      pub whole_step : (next : PlainBuilt) → shown_read unset built (begun ++ take (end + 1) piece) ≡ Ok next → HasRead unset (text ++ take (end + 1) piece) [] next
      whole_step next right = record {
        begun_is = begun_then (take (end + 1) piece) [] ends.1;
        reads = part_read (take (end + 1) piece) ((begun ++ take (end + 1) piece) ∷ []) ends.0 ∙ right;
      }

      rejoin : (text ++ take (end + 1) piece) ++ drop (end + 1) piece ≡ text ++ piece
      rejoin = append_assoc text (take (end + 1) piece) (drop (end + 1) piece) ∙ ap (λ (p : List ℕ). text ++ p) (take-append-drop (end + 1) piece)

      -- a part that completes a unit, which is refused
      whole_refused : (shown : Shown) → shown_read unset built (begun ++ take (end + 1) piece) ≡ Err shown → text_read unset (text ++ piece) ≡ Err shown
      whole_refused shown wrong =
          subst (λ (t : List ℕ). text_read unset t ≡ Err shown) rejoin
          (refused_stays (text ++ take (end + 1) piece) (drop (end + 1) piece) shown (part_read (take (end + 1) piece) ((begun ++ take (end + 1) piece) ∷ []) ends.0 ∙ wrong))

      pub whole_stops : (stop : Stop) → StopsFor stop (shown_read unset built (begun ++ take (end + 1) piece)) → StopsFor stop (text_read unset (text ++ piece))
      whole_stops (stops.Unit shown) h = whole_refused shown h
      whole_stops stops.TooLong h = absurd h
      whole_stops stops.NoMemory h = tt
