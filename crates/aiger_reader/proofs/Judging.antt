-- Reading the units one after the other is judging them by sections.
use Rattle.std.proofs.Common.{◌≡◌, ℕ, ◌+◌, Bool, true, false, cond, leb, ◌&&◌, List, [], ◌∷◌, ◌++◌, length, take, map, Option, Some, None, Result, Ok, Err, refl, sym, ap, subst, ◌∙◌, append_assoc, arith}
use Rattle.std.specs.Prelude.{option_map}
use Rattle.std.specs.Option.{option_or}
use Rattle.std.specs.Str.{bytes_eq}
use Rattle.std.proofs.lemmas.List.{append-nil, length_push, take_all, drop_all}
use Rattle.source_machine.specs.declared.unset.Unset.{Unset}
use Rattle.source_machine.specs.Additions.{bare}
use Rattle.word_scan.specs.Reading.{read_on}
use Rattle.word_scan.specs.Words.{words_of}
use Rattle.word_scan.proofs.CallerLemmasReading.{read_refused}
use Rattle.aiger_reader.specs.declared.headers.Spelling.{Spelling}
use Rattle.aiger_reader.specs.declared.headers.Spelling.TheVariants.{Ascii, Binary}
use Rattle.aiger_reader.specs.declared.headers.Header.{Header}
use Rattle.aiger_reader.specs.declared.refusals.UnitRefusal.{UnitRefusal}
use Rattle.aiger_reader.specs.declared.refusals.Shown.{Shown}
use Rattle.aiger_reader.specs.declared.sections.Section.{Section}
use Rattle.aiger_reader.specs.declared.sections.Section.TheVariants.{Inputs, Latches, Outputs, Ands, FirstDeltas, SecondDeltas, Behind}
use Rattle.aiger_reader.specs.Units.{line_of}
use Rattle.aiger_reader.specs.Numbers.{numbers_in}
use Rattle.aiger_reader.specs.Headers.{spelling_of, format_word, header_with, header_of_numbers, header_of_words, header_in, header_refusal, counts_refusal}
use Rattle.aiger_reader.specs.Sections.{latches_from, outputs_from, ands_from, and_units, section_of, section_refusal, is_commented, literal_after, body_refusal, unit_refusal}
use Rattle.aiger_reader.specs.Machines.{part, latches_in, output_of, ands_in}
use Rattle.aiger_reader.specs.Sources.{place_in, place_after, shown_at, first_refusal}
use Rattle.aiger_reader.specs.Building.{PlainBuilt, nothing_built, unit_added, refusal_in, completed, counted, begun_with, unless, header_read, unit_read_by, unit_read, place_by, place_of, shown_as, shown_read}
use Rattle.aiger_reader.proofs.Places.{Stands, stands, in_inputs, in_latches, in_outputs, in_ands, in_first, in_second, behind}
use Rattle.aiger_reader.proofs.Bounding.{not_refused, same_header, added_counts, BodyRead, body_is}
use Rattle.aiger_reader.proofs.Tracking.{HasTracked, bytes_more}
use Rattle.aiger_reader.proofs.SectionParts.{InputsAre, HasParts, no_comment, completed_parts}
use Rattle.aiger_reader.proofs.SectionSteps.{parts_more}

-- what units have built
pub record HasBuilt (unset : Unset) (first : List ℕ) (units : List (List ℕ)) (built : PlainBuilt) : Type 0 where
  pub tracked : HasTracked first units built
  pub parts : HasParts unset tracked.header 0 units built.literal built.commented built.machine

abbrev pub IsBuilt : Unset → List (List ℕ) → PlainBuilt → Type 0
IsBuilt unset [] built = built ≡ nothing_built
IsBuilt unset (first ∷ units) built = HasBuilt unset first units built

part_none : (from count : ℕ) → part from count [] ≡ []
part_none from count = ap (take count) (drop_all from [] (omega arith)) ∙ take_all count [] (omega arith)

none_in : (header : Header) (spelling : Spelling) → ands_in header spelling [] ≡ []
none_in header Ascii = refl
none_in header Binary = refl

no_inputs : (spelling : Spelling) (header : Header) → InputsAre spelling header 1 [] []
no_inputs Ascii header = sym (ap (map _) (part_none 0 header.inputs))
no_inputs Binary header = (λ lt. refl, λ le. absurd (omega (arith, le)))

no_second : (header : Header) (section : Section) → Stands header 0 section → section ≡ SecondDeltas → ⊥
no_second header Inputs (in_inputs lt) e = cc
no_second header Latches (in_latches ge lt) e = cc
no_second header Outputs (in_outputs ge lt) e = cc
no_second header Ands (in_ands s ge lt) e = cc
no_second header FirstDeltas (in_first s ge lt even) e = cc
no_second header SecondDeltas (in_second s ge lt odd) e = omega (arith, odd)
no_second header Behind (behind ge) e = cc

start_parts : (unset : Unset) (header : Header) → HasParts unset header 1 [] 0 false (bare header.variables)
start_parts unset header = record {
  nets = refl;
  literal_is = λ e. absurd (no_second header (section_of header 0) (stands header 0) e);
  commented_is = sym (no_comment header [] (omega arith));
  inputs = no_inputs header.spelling header;
  latches = sym (ap (latches_in unset header (latches_from header)) (part_none (latches_from header) header.latches));
  equations = sym (ap (ands_in header header.spelling) (part_none (ands_from header) (and_units header.spelling header.ands)) ∙ none_in header header.spelling);
  outputs = sym (ap (map output_of) (part_none (outputs_from header) header.outputs));
  input_names = refl;
  output_names = refl;
}

first_built : (unset : Unset) (next : PlainBuilt) (unit : List ℕ) (found : Option Header) → header_in unit ≡ found → header_read found unit ≡ Ok next → HasBuilt unset unit [] next
first_built unset next unit None is h = absurd cc
first_built unset next unit (Some header) is h =
    let k = not_refused (counts_refusal header) (begun_with header (length unit)) next h in
    let fresh : PlainBuilt = record { header = Some header; place = 0; start = length unit; literal = 0; commented = false; machine = bare header.variables } in
    let same = same_header header fresh header.spelling in
    let parts : HasParts unset header 0 [] (completed header fresh).literal (completed header fresh).commented (completed header fresh).machine = completed_parts unset header [] fresh refl
    (start_parts unset header) in
    record {
      tracked = record {
        header = header;
        header_is = is;
        right = k.0;
        kept = ap (λ (b : PlainBuilt). b.header) (sym k.1) ∙ same.0;
        place = ap (λ (b : PlainBuilt). b.place) (sym k.1) ∙ same.1;
        start = ap (λ (b : PlainBuilt). b.start) (sym k.1) ∙ same.2 ∙ omega arith;
      };
      parts = subst (λ (b : PlainBuilt). HasParts unset header 0 [] b.literal b.commented b.machine) k.1 parts;
    }

next_built : (unset : Unset) (first : List ℕ) (units : List (List ℕ)) (built next : PlainBuilt) (unit : List ℕ) → HasBuilt unset first units built
    → unit_read_by unset built.header built unit ≡ Ok next → HasBuilt unset first (units ++ unit ∷ []) next
next_built unset first units built next unit so_far h =
    let header : Header = so_far.tracked.header in
    let section : Section = section_of header built.place in
    let read : BodyRead unset header built next unit section = body_is unset header built next unit section
    (sym (ap (λ (o : Option Header). unit_read_by unset o built unit) so_far.tracked.kept) ∙ h) in
    let added : PlainBuilt = unit_added unset header built unit section in
    let same : section_of header (length units) ≡ section = ap (section_of header) (sym so_far.tracked.place) in
    let more : HasParts unset header 1 (units ++ unit ∷ []) added.literal added.commented added.machine = parts_more unset header units unit built so_far.tracked.place so_far.parts section
    (subst (Stands header (length units)) same (stands header (length units))) same in
    let place : (counted added unit).place ≡ length (units ++ unit ∷ []) = omega (arith, (added_counts unset header built unit section).1, so_far.tracked.place, length_push units unit) in
    record {
      tracked = record {
        header = header;
        header_is = so_far.tracked.header_is;
        right = so_far.tracked.right;
        kept = read.header_is ∙ so_far.tracked.kept;
        place = read.place ∙ omega (arith, so_far.tracked.place, length_push units unit);
        start = read.start ∙ omega (arith, so_far.tracked.start, bytes_more units unit);
      };
      parts = subst (λ (b : PlainBuilt). HasParts unset header 0 (units ++ unit ∷ []) b.literal b.commented b.machine) read.is
          (completed_parts unset header (units ++ unit ∷ []) (counted added unit) place more);
    }

built_more : (unset : Unset) (before : List (List ℕ)) (built next : PlainBuilt) (unit : List ℕ) → IsBuilt unset before built → unit_read unset built unit ≡ Ok next
    → IsBuilt unset (before ++ unit ∷ []) next
built_more unset [] built next unit so_far h =
    first_built unset next unit (header_in unit) refl (sym (ap (λ (b : PlainBuilt). unit_read unset b unit) so_far) ∙ h)
built_more unset (first ∷ units) built next unit so_far h = next_built unset first units built next unit so_far h

-- a refusal, and what reading gives
abbrev ShowsAs : Option UnitRefusal → Result PlainBuilt UnitRefusal → Type 0
ShowsAs None (Ok next) = Unit
ShowsAs None (Err refusal) = ⊥
ShowsAs (Some refusal) (Ok next) = ⊥
ShowsAs (Some refusal) (Err other) = refusal ≡ other

unless_shows : (refusal : Option UnitRefusal) (next : PlainBuilt) → ShowsAs refusal (unless refusal next)
unless_shows None next = tt
unless_shows (Some refusal) next = refl

header_shows : (found : Option Header) (unit : List ℕ) → ShowsAs (header_refusal found) (header_read found unit)
header_shows None unit = refl
header_shows (Some header) unit = unless_shows (counts_refusal header) (begun_with header (length unit))

-- the first literal of a conjunction matters to its second delta alone
same_refusal : (unset : Unset) (header : Header) (place : ℕ) (commented : Bool) (one two : ℕ) (unit : List ℕ) (section : Section) → (section ≡ SecondDeltas → one ≡ two)
    → section_refusal unset header place commented one unit section ≡ section_refusal unset header place commented two unit section
same_refusal unset header place commented one two unit Inputs e = refl
same_refusal unset header place commented one two unit Latches e = refl
same_refusal unset header place commented one two unit Outputs e = refl
same_refusal unset header place commented one two unit Ands e = refl
same_refusal unset header place commented one two unit FirstDeltas e = refl
same_refusal unset header place commented one two unit SecondDeltas e = ap (λ n. section_refusal unset header place commented n unit SecondDeltas) (e refl)
same_refusal unset header place commented one two unit Behind e = refl

body_agrees : (unset : Unset) (first : List ℕ) (units : List (List ℕ)) (built : PlainBuilt) (unit : List ℕ) (so_far : HasBuilt unset first units built)
    → unit_refusal unset (first ∷ units) unit ≡ refusal_in unset so_far.tracked.header built unit (section_of so_far.tracked.header built.place)
body_agrees unset first units built unit so_far =
    let header : Header = so_far.tracked.header in
    let section : Section = section_of header (length units) in
    ap (λ (o : Option Header). body_refusal unset o units unit) so_far.tracked.header_is
    ∙ same_refusal unset header (length units) (is_commented header units) (literal_after header units) built.literal unit section (λ e. sym (so_far.parts.literal_is e))
    ∙ ap (λ c. section_refusal unset header (length units) c built.literal unit section) (sym so_far.parts.commented_is)
    ∙ ap (λ n. section_refusal unset header n built.commented built.literal unit (section_of header n)) (sym so_far.tracked.place)

unit_shows : (unset : Unset) (before : List (List ℕ)) (built : PlainBuilt) (unit : List ℕ) → IsBuilt unset before built → ShowsAs (unit_refusal unset before unit) (unit_read unset built unit)
unit_shows unset [] built unit so_far =
    subst (λ (b : PlainBuilt). ShowsAs (header_refusal (header_in unit)) (unit_read unset b unit)) (sym so_far) (header_shows (header_in unit) unit)
unit_shows unset (first ∷ units) built unit so_far =
    let header : Header = so_far.tracked.header in
    let section : Section = section_of header built.place in
    let refusal : Option UnitRefusal = refusal_in unset header built unit section in
    subst (λ (r : Option UnitRefusal). ShowsAs r (unit_read unset built unit)) (sym (body_agrees unset first units built unit so_far))
    (subst (λ (o : Option Header). ShowsAs refusal (unit_read_by unset o built unit)) (sym so_far.tracked.kept)
    (unless_shows refusal (completed header (counted (unit_added unset header built unit section) unit))))

-- a header has the spelling of its line
numbers_spelling : (spelling : Spelling) (numbers : Option (List ℕ)) (header : Header) → header_of_numbers spelling numbers ≡ Some header → header.spelling ≡ spelling
numbers_spelling spelling None header h = absurd cc
numbers_spelling spelling (Some numbers) header h = by_length (leb 5 (length numbers) && leb (length numbers) 9) h
  where
    by_length : (fits : Bool) → ◌≡◌ {A = Option Header} (cond fits (Some (header_with spelling numbers)) None) (Some header) → header.spelling ≡ spelling
    by_length true e = let same : header_with spelling numbers ≡ header = cc in sym (ap (λ (h : Header). h.spelling) same)
    by_length false e = absurd cc

words_spelling : (spelling : Spelling) (words : List (List ℕ)) (header : Header) → header_of_words spelling words ≡ Some header → header.spelling ≡ spelling
words_spelling spelling [] header h = absurd cc
words_spelling spelling (word ∷ words) header h = by_word (bytes_eq word (format_word spelling)) h
  where
    by_word : (is : Bool) → cond is (header_of_numbers spelling (numbers_in words)) None ≡ Some header → header.spelling ≡ spelling
    by_word true e = numbers_spelling spelling (numbers_in words) header e
    by_word false e = absurd cc

pub header_spelling : (unit : List ℕ) (header : Header) → header_in unit ≡ Some header → header.spelling ≡ spelling_of unit
header_spelling unit header h = words_spelling (spelling_of unit) (words_of (line_of unit)) header h

place_is : (unset : Unset) (before : List (List ℕ)) (built : PlainBuilt) (unit : List ℕ) → IsBuilt unset before built → place_of built unit ≡ place_after before unit
place_is unset [] built unit so_far = ap (λ (b : PlainBuilt). place_of b unit) so_far
place_is unset (first ∷ units) built unit so_far =
    let header : Header = so_far.tracked.header in
    let count : built.place + 1 ≡ length (first ∷ units) = omega (arith, so_far.tracked.place) in
    ap (λ (o : Option Header). place_by o built unit) so_far.tracked.kept ∙ ap (λ s. place_in s (built.place + 1) built.start) (header_spelling first header so_far.tracked.header_is)
    ∙ ap (λ n. place_in (spelling_of first) n built.start) count ∙ ap (place_in (spelling_of first) (length (first ∷ units))) so_far.tracked.start

-- the first refusal of units, and what reading them gives
abbrev pub Judged : Unset → Option Shown → Result PlainBuilt Shown → List (List ℕ) → Type 0
Judged unset None (Ok last) units = IsBuilt unset units last
Judged unset None (Err shown) units = ⊥
Judged unset (Some shown) (Ok last) units = ⊥
Judged unset (Some shown) (Err other) units = shown ≡ other

module _ (unset : Unset) where
  step_judged : (before : List (List ℕ)) (built : PlainBuilt) (unit : List ℕ) (units : List (List ℕ)) (refusal : Option UnitRefusal) (read : Result PlainBuilt UnitRefusal)
      → IsBuilt unset before built → unit_read unset built unit ≡ read → ShowsAs refusal read
      → ((next : PlainBuilt) → IsBuilt unset (before ++ unit ∷ []) next
      → Judged unset (first_refusal unset (before ++ unit ∷ []) units) (read_on (shown_read unset) (Ok next) units) ((before ++ unit ∷ []) ++ units))
      → Judged unset (option_or (option_map (shown_at (place_after before unit)) refusal) (first_refusal unset (before ++ unit ∷ []) units))
      (read_on (shown_read unset) (shown_as (place_of built unit) read) units) (before ++ unit ∷ units)
  step_judged before built unit units None (Ok next) so_far is shows more =
      subst (λ (us : List (List ℕ)). Judged unset (first_refusal unset (before ++ unit ∷ []) units) (read_on (shown_read unset) (Ok next) units) us) (append_assoc before (unit ∷ []) units)
      (more next (built_more unset before built next unit so_far is))
  step_judged before built unit units None (Err refusal) so_far is shows more = absurd shows
  step_judged before built unit units (Some refusal) (Ok next) so_far is shows more = absurd shows
  step_judged before built unit units (Some refusal) (Err other) so_far is shows more =
      subst (λ (r : Result PlainBuilt Shown). Judged unset (Some (shown_at (place_after before unit) refusal)) r (before ++ unit ∷ units))
      (sym (read_refused (shown_read unset) (shown_at (place_of built unit) other) units))
      (ap (shown_at (place_after before unit)) shows ∙ ap (λ p. shown_at p other) (sym (place_is unset before built unit so_far)))

  pub judged : (before : List (List ℕ)) (built : PlainBuilt) (units : List (List ℕ)) → IsBuilt unset before built
      → Judged unset (first_refusal unset before units) (read_on (shown_read unset) (Ok built) units) (before ++ units)
  judged before built [] so_far = subst (λ (us : List (List ℕ)). IsBuilt unset us built) (sym (append-nil before)) so_far
  judged before built (unit ∷ units) so_far =
      step_judged before built unit units (unit_refusal unset before unit) (unit_read unset built unit) so_far refl (unit_shows unset before built unit so_far)
      (λ next h. judged (before ++ unit ∷ []) next units h)

  right_if : (first : Option Shown) (read : Result PlainBuilt Shown) (built : PlainBuilt) (units : List (List ℕ)) → Judged unset first read units → read ≡ Ok built
      → (first ≡ None) × IsBuilt unset units built
  right_if None (Ok last) built units j e = let same : last ≡ built = cc in (refl, subst (IsBuilt unset units) same j)
  right_if None (Err shown) built units j e = absurd j
  right_if (Some shown) (Ok last) built units j e = absurd j
  right_if (Some shown) (Err other) built units j e = absurd cc

  wrong_if : (first : Option Shown) (read : Result PlainBuilt Shown) (shown : Shown) (units : List (List ℕ)) → Judged unset first read units → read ≡ Err shown → first ≡ Some shown
  wrong_if None (Ok last) shown units j e = absurd cc
  wrong_if None (Err other) shown units j e = absurd j
  wrong_if (Some first) (Ok last) shown units j e = absurd j
  wrong_if (Some first) (Err other) shown units j e = let same : other ≡ shown = cc in ap (λ (s : Shown). Some s) (j ∙ same)

  -- units that are read are right, and have built this
  pub units_right : (units : List (List ℕ)) (built : PlainBuilt) → read_on (shown_read unset) (Ok nothing_built) units ≡ Ok built → (first_refusal unset [] units ≡ None) × IsBuilt unset units built
  units_right units built h = right_if (first_refusal unset [] units) (read_on (shown_read unset) (Ok nothing_built) units) built units (judged [] nothing_built units refl) h

  -- and a refusal is the first one
  pub units_wrong : (units : List (List ℕ)) (shown : Shown) → read_on (shown_read unset) (Ok nothing_built) units ≡ Err shown → first_refusal unset [] units ≡ Some shown
  units_wrong units shown h = wrong_if (first_refusal unset [] units) (read_on (shown_read unset) (Ok nothing_built) units) shown units (judged [] nothing_built units refl) h
