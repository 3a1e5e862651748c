-- What a reader knows of the units so far: the header, how many they are, and their bytes.
use Rattle.std.proofs.Common.{◌≡◌, ℕ, ◌+◌, false, List, [], ◌∷◌, ◌++◌, length, Option, Some, None, Result, Ok, Err, refl, sym, ap, subst, ◌∙◌, append_assoc, arith}
use Rattle.std.proofs.lemmas.List.{append-nil, length_push}
use Rattle.source_machine.specs.declared.unset.Unset.{Unset}
use Rattle.source_machine.specs.declared.places.Place.{Place}
use Rattle.source_machine.specs.Additions.{bare}
use Rattle.word_scan.specs.Reading.{read_on}
use Rattle.word_scan.proofs.CallerLemmasReading.{read_refused}
use Rattle.aiger_reader.specs.declared.headers.Header.{Header}
use Rattle.aiger_reader.specs.declared.refusals.Shown.{Shown}
use Rattle.aiger_reader.specs.declared.refusals.UnitRefusal.{UnitRefusal}
use Rattle.aiger_reader.specs.Headers.{header_in, counts_refusal}
use Rattle.aiger_reader.specs.Sections.{section_of, kind_at, kind_after}
use Rattle.aiger_reader.specs.Sources.{bytes_of, units_of}
use Rattle.aiger_reader.specs.Building.{PlainBuilt, nothing_built, begun_with, header_read, unit_read_by, unit_read, place_of, shown_as, shown_read, text_read}
use Rattle.aiger_reader.proofs.Bounding.{not_refused, same_header, body_is}

-- units were read, and the header stands among them
pub record HasTracked (first : List ℕ) (units : List (List ℕ)) (built : PlainBuilt) : Type 0 where
  pub header : Header
  pub header_is : header_in first ≡ Some header
  pub right : counts_refusal header ≡ None
  pub kept : built.header ≡ Some header
  pub place : built.place ≡ length units
  pub start : built.start ≡ bytes_of (first ∷ units)

abbrev pub Tracks : List (List ℕ) → PlainBuilt → Type 0
Tracks [] built = built ≡ nothing_built
Tracks (first ∷ units) built = HasTracked first units built

pub bytes_more : (units : List (List ℕ)) (unit : List ℕ) → bytes_of (units ++ unit ∷ []) ≡ bytes_of units + length unit
bytes_more [] unit = omega arith
bytes_more (first ∷ units) unit = omega (arith, bytes_more units unit)

-- what was shown is what was read
pub read_is : (place : Place) (read : Result PlainBuilt UnitRefusal) (next : PlainBuilt) → shown_as place read ≡ Ok next → read ≡ Ok next
read_is place (Ok built) next h = ap (λ (b : PlainBuilt). Ok b) cc
read_is place (Err refusal) next h = absurd cc

first_tracked : (next : PlainBuilt) (unit : List ℕ) (found : Option Header) → header_in unit ≡ found → header_read found unit ≡ Ok next → HasTracked unit [] next
first_tracked next unit None is h = absurd cc
first_tracked next unit (Some header) is h =
    let k = not_refused (counts_refusal header) (begun_with header (length unit)) next h in
    let fresh : PlainBuilt = record { header = Some header; place = 0; start = length unit; literal = 0; commented = false; machine = bare header.variables } in
    let same = same_header header fresh header.spelling in
    record {
      header = header;
      header_is = is;
      right = k.0;
      kept = ap (λ (b : PlainBuilt). b.header) (sym k.1) ∙ same.0;
      place = ap (λ (b : PlainBuilt). b.place) (sym k.1) ∙ same.1;
      start = ap (λ (b : PlainBuilt). b.start) (sym k.1) ∙ same.2 ∙ omega arith;
    }

next_tracked : (unset : Unset) (first : List ℕ) (units : List (List ℕ)) (built next : PlainBuilt) (unit : List ℕ) → (so_far : HasTracked first units built)
    → unit_read_by unset built.header built unit ≡ Ok next → HasTracked first (units ++ unit ∷ []) next
next_tracked unset first units built next unit so_far h =
    let read = body_is unset so_far.header built next unit (section_of so_far.header built.place) (sym (ap (λ (o : Option Header). unit_read_by unset o built unit) so_far.kept) ∙ h) in
    record {
      header = so_far.header;
      header_is = so_far.header_is;
      right = so_far.right;
      kept = read.header_is ∙ so_far.kept;
      place = read.place ∙ omega (arith, so_far.place, length_push units unit);
      start = read.start ∙ omega (arith, so_far.start, bytes_more units unit);
    }

pub tracks_more : (unset : Unset) (before : List (List ℕ)) (built next : PlainBuilt) (unit : List ℕ) → Tracks before built → unit_read unset built unit ≡ Ok next → Tracks (before ++ unit ∷ []) next
tracks_more unset [] built next unit so_far h =
    first_tracked next unit (header_in unit) refl (sym (ap (λ (b : PlainBuilt). unit_read unset b unit) so_far) ∙ h)
tracks_more unset (first ∷ units) built next unit so_far h = next_tracked unset first units built next unit so_far h

tracks_by : (unset : Unset) (before : List (List ℕ)) (built : PlainBuilt) (unit : List ℕ) (units : List (List ℕ)) (step : Result PlainBuilt Shown) (last : PlainBuilt) → Tracks before built
    → shown_read unset built unit ≡ step
    → ((mid : PlainBuilt) → Tracks (before ++ unit ∷ []) mid → read_on (shown_read unset) (Ok mid) units ≡ Ok last → Tracks ((before ++ unit ∷ []) ++ units) last)
    → read_on (shown_read unset) step units ≡ Ok last → Tracks (before ++ unit ∷ units) last
tracks_by unset before built unit units (Ok mid) last so_far is more h =
    subst (λ (us : List (List ℕ)). Tracks us last) (append_assoc before (unit ∷ []) units)
    (more mid (tracks_more unset before built mid unit so_far (read_is (place_of built unit) (unit_read unset built unit) mid is)) h)
tracks_by unset before built unit units (Err shown) last so_far is more h =
    let stays : read_on (shown_read unset) (Err shown) units ≡ Err shown = read_refused (shown_read unset) shown units in absurd cc

pub tracks_all : (unset : Unset) (before : List (List ℕ)) (built : PlainBuilt) (units : List (List ℕ)) (last : PlainBuilt) → Tracks before built
    → read_on (shown_read unset) (Ok built) units ≡ Ok last → Tracks (before ++ units) last
tracks_all unset before built [] last so_far h =
    let same : built ≡ last = cc in subst (λ (us : List (List ℕ)). Tracks us last) (sym (append-nil before)) (subst (Tracks before) same so_far)
tracks_all unset before built (unit ∷ units) last so_far h =
    tracks_by unset before built unit units (shown_read unset built unit) last so_far refl (λ mid t e. tracks_all unset (before ++ unit ∷ []) mid units last t e) h

pub text_tracked : (unset : Unset) (text : List ℕ) (built : PlainBuilt) → text_read unset text ≡ Ok built → Tracks (units_of text) built
text_tracked unset text built h = tracks_all unset [] nothing_built (units_of text) built refl h

-- the kind of the next unit is told by the units so far
pub kind_tracked : (units : List (List ℕ)) (built : PlainBuilt) → Tracks units built → kind_after units ≡ kind_at built.header built.place
kind_tracked [] built so_far = ap (λ (b : PlainBuilt). kind_at b.header b.place) (sym so_far)
kind_tracked (first ∷ units) built so_far =
    ap (λ (o : Option Header). kind_at o (length units)) (so_far.header_is ∙ sym so_far.kept) ∙ ap (kind_at built.header) (sym so_far.place)
