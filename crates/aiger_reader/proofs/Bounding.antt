-- Each unit that is read leaves what is bounded.
use Rattle.std.proofs.Common.{◌≡◌, ℕ, ◌+◌, ◌<◌, ◌≤◌, Bool, true, false, cond, List, length, Option, Some, None, Ok, refl, sym, ap, subst, ◌∙◌, arith}
use Rattle.std.specs.Prelude.{IfSome}
use Rattle.source_machine.specs.declared.unset.Unset.{Unset}
use Rattle.source_machine.specs.Additions.{bare}
use Rattle.word_scan.specs.Lines.{HasNoFeed}
use Rattle.aiger_reader.specs.declared.headers.Spelling.{Spelling}
use Rattle.aiger_reader.specs.declared.headers.Spelling.TheVariants.{Ascii, Binary}
use Rattle.aiger_reader.specs.declared.headers.Header.{Header}
use Rattle.aiger_reader.specs.declared.refusals.UnitRefusal.{UnitRefusal}
use Rattle.aiger_reader.specs.declared.sections.Section.{Section}
use Rattle.aiger_reader.specs.declared.sections.Section.TheVariants as sections
use Rattle.aiger_reader.specs.declared.units.UnitKind.TheVariants as kinds
use Rattle.aiger_reader.specs.Units.{line_of}
use Rattle.aiger_reader.specs.Headers.{header_in, counts_refusal}
use Rattle.aiger_reader.specs.Sections.{section_of, kind_at, kind_of, sections_end}
use Rattle.aiger_reader.specs.Building.{PlainBuilt, nothing_built, HasNames, unit_added, refusal_in, completed_in, completed, counted, begun_with, unless, header_read, body_read, unit_read_by, unit_read, is_complete, with_inputs}
use Rattle.aiger_reader.specs.Bounds.{IsSmall, HasInputs, IsBoundedBy, IsBoundedIf, IsBounded}
use Rattle.aiger_reader.proofs.Allowed.{small_header}
use Rattle.aiger_reader.proofs.Places.{Shape, ascii, binary, shape, stands, behind_end}
use Rattle.aiger_reader.proofs.Growing.{IsGrown, completed_bounded, begun_bounded}
use Rattle.aiger_reader.proofs.Named.{behind_alone}
use Rattle.aiger_reader.proofs.Steps.{grown}

-- what the reader asks of a bounded state
pub small_if : (header : Option Header) (built : PlainBuilt) → IsBoundedIf header built → IfSome header IsSmall
small_if None built by = tt
small_if (Some header) built by = small_header header by.allowed

pub small_state : (built : PlainBuilt) → IsBounded built → IfSome built.header IsSmall
small_state built bounded = small_if built.header built bounded.by

pub by_header : (built : PlainBuilt) (header : Header) → IsBounded built → built.header ≡ Some header → IsBoundedBy header built
by_header built header bounded is = subst (λ (h : Option Header). IsBoundedIf h built) is bounded.by

pub small_by : (built : PlainBuilt) (header : Header) → IsBounded built → built.header ≡ Some header → IsSmall header
small_by built header bounded is = small_header header (by_header built header bounded is).allowed

inputs_behind : (header : Header) (built : PlainBuilt) → Shape header → IsBoundedBy header built → sections_end header ≤ built.place → length built.machine.inputs ≡ header.inputs
inputs_behind header built (ascii is from end) by ge =
    let count : length built.machine.inputs ≡ _ = subst (λ s. HasInputs s header built.place built.machine) is by.inputs in
    omega (arith, count, ge, from, end)
inputs_behind header built (binary is from end) by ge =
    let count : HasInputs Binary header built.place built.machine = subst (λ s. HasInputs s header built.place built.machine) is by.inputs in
    count.1 ge

pub names_behind : (built : PlainBuilt) (header : Header) → IsBounded built → built.header ≡ Some header → HasNames header built
names_behind built header bounded is section =
    let by = by_header built header bounded is in
    let ge = behind_end header built.place section in
    let outputs : length built.machine.outputs ≡ header.outputs = omega (arith, by.outputs, ge) in
    (by.fits.input_names_fit.0 ∙ inputs_behind header built (shape header) by ge, by.fits.output_names_fit.0 ∙ outputs)

-- what isn't refused
pub not_refused : (refusal : Option UnitRefusal) (built next : PlainBuilt) → unless refusal built ≡ Ok next → (refusal ≡ None) × (built ≡ next)
not_refused None built next h = (refl, cc)
not_refused (Some r) built next h = absurd cc

-- the number and the bytes of units after one more
record Counts (header : Header) (old new : PlainBuilt) (bytes : ℕ) : Type 0 where
  header_is : new.header ≡ Some header
  place : new.place ≡ old.place + 1
  start : new.start ≡ old.start + bytes

pub same_header : (header : Header) (built : PlainBuilt) (spelling : Spelling)
    → ((completed_in spelling header built).header ≡ built.header) × ((completed_in spelling header built).place ≡ built.place) × ((completed_in spelling header built).start ≡ built.start)
same_header header built Ascii = (refl, refl, refl)
same_header header built Binary = by_end (is_complete header built.place)
  where
    by_end : (at : Bool) → ((cond at (record built { machine = with_inputs built.machine 1 header.inputs }) built).header ≡ built.header) ×
        ((cond at (record built { machine = with_inputs built.machine 1 header.inputs }) built).place ≡ built.place) ×
        ((cond at (record built { machine = with_inputs built.machine 1 header.inputs }) built).start ≡ built.start)
    by_end true = (refl, refl, refl)
    by_end false = (refl, refl, refl)

pub added_counts : (unset : Unset) (header : Header) (built : PlainBuilt) (unit : List ℕ) (section : Section)
    → ((unit_added unset header built unit section).header ≡ built.header) × ((unit_added unset header built unit section).place ≡ built.place) ×
    ((unit_added unset header built unit section).start ≡ built.start)
added_counts unset header built unit sections.Inputs = (refl, refl, refl)
added_counts unset header built unit sections.Latches = (refl, refl, refl)
added_counts unset header built unit sections.Outputs = (refl, refl, refl)
added_counts unset header built unit sections.Ands = (refl, refl, refl)
added_counts unset header built unit sections.FirstDeltas = (refl, refl, refl)
added_counts unset header built unit sections.SecondDeltas = (refl, refl, refl)
added_counts unset header built unit sections.Behind = let alone = behind_alone built (line_of unit) in (alone.header, alone.place, alone.start)

-- the state after a unit of a section
pub record BodyRead (unset : Unset) (header : Header) (built next : PlainBuilt) (unit : List ℕ) (section : Section) : Type 0 where
  pub right : refusal_in unset header built unit section ≡ None
  pub is : completed header (counted (unit_added unset header built unit section) unit) ≡ next
  pub header_is : next.header ≡ built.header
  pub place : next.place ≡ built.place + 1
  pub start : next.start ≡ built.start + length unit

pub body_is : (unset : Unset) (header : Header) (built next : PlainBuilt) (unit : List ℕ) (section : Section) → body_read unset header built unit section ≡ Ok next
    → BodyRead unset header built next unit section
body_is unset header built next unit section h =
    let added : PlainBuilt = counted (unit_added unset header built unit section) unit in
    let k = not_refused (refusal_in unset header built unit section) (completed header added) next h in
    let same = same_header header added header.spelling in
    let counts = added_counts unset header built unit section in
    record {
      right = k.0;
      is = k.1;
      header_is = ap (λ (b : PlainBuilt). b.header) (sym k.1) ∙ same.0 ∙ counts.0;
      place = ap (λ (b : PlainBuilt). b.place) (sym k.1) ∙ same.1 ∙ ap (λ n. n + 1) counts.1;
      start = ap (λ (b : PlainBuilt). b.start) (sym k.1) ∙ same.2 ∙ ap (λ n. n + length unit) counts.2;
    }

plain_behind : (header : Header) (place : ℕ) (unit : List ℕ) → (kind_of (section_of header place) ≡ kinds.Line → HasNoFeed (line_of unit)) → section_of header place ≡ sections.Behind
    → HasNoFeed (line_of unit)
plain_behind header place unit plain is = plain (ap kind_of is)

body_bounded : (unset : Unset) (header : Header) (built next : PlainBuilt) (unit : List ℕ) → (kind_of (section_of header built.place) ≡ kinds.Line → HasNoFeed (line_of unit))
    → IsBoundedBy header built
    → BodyRead unset header built next unit (section_of header built.place) → IsBoundedBy header next
body_bounded unset header built next unit plain by read =
    let section : Section = section_of header built.place in
    let added : PlainBuilt = unit_added unset header built unit section in
    let counts = added_counts unset header built unit section in
    let more : IsGrown header (built.place + 1) added.literal added.machine = grown unset header built unit by section (stands header built.place)
    (plain_behind header built.place unit plain) read.right in
    subst (IsBoundedBy header) read.is
    (completed_bounded header by.allowed (counted added unit) (subst (λ n. IsGrown header (n + 1) added.literal added.machine) (sym counts.1) more))

-- what is bounded stays so, and the next unit begins where this one ends
pub record Bounds (built next : PlainBuilt) (unit : List ℕ) : Type 0 where
  pub bounded : IsBounded next
  pub start : next.start ≡ built.start + length unit

first_bounded : (built next : PlainBuilt) (unit : List ℕ) (found : Option Header) → built ≡ nothing_built → header_read found unit ≡ Ok next → Bounds built next unit
first_bounded built next unit None start h = absurd cc
first_bounded built next unit (Some header) start h =
    let k = not_refused (counts_refusal header) (begun_with header (length unit)) next h in
    let fresh : PlainBuilt = record { header = Some header; place = 0; start = length unit; literal = 0; commented = false; machine = bare header.variables } in
    let same = same_header header fresh header.spelling in
    let by : IsBoundedBy header next = subst (IsBoundedBy header) k.1 (begun_bounded header (length unit) k.0) in
    let header_is : next.header ≡ Some header = ap (λ (b : PlainBuilt). b.header) (sym k.1) ∙ same.0 in
    let place : next.place ≡ 0 = ap (λ (b : PlainBuilt). b.place) (sym k.1) ∙ same.1 in
    let start_is : next.start ≡ length unit = ap (λ (b : PlainBuilt). b.start) (sym k.1) ∙ same.2 in
    record {
      bounded = record { few = omega (arith, place); by = subst (λ (h : Option Header). IsBoundedIf h next) (sym header_is) by };
      start = omega (arith, start_is, ap (λ (b : PlainBuilt). b.start) start);
    }

read_bounded : (unset : Unset) (built next : PlainBuilt) (unit : List ℕ) (header : Option Header) → built.header ≡ header → 0 < length unit
    → (kind_at header built.place ≡ kinds.Line → HasNoFeed (line_of unit)) → built.place ≤ built.start → IsBoundedIf header built
    → unit_read_by unset header built unit ≡ Ok next → Bounds built next unit
read_bounded unset built next unit None is some plain few by h = first_bounded built next unit (header_in unit) by h
read_bounded unset built next unit (Some header) is some plain few by h =
    let read = body_is unset header built next unit (section_of header built.place) h in
    record {
      bounded = record {
        few = omega (arith, read.place, read.start, few, some);
        by = subst (λ (h : Option Header). IsBoundedIf h next) (sym (read.header_is ∙ is)) (body_bounded unset header built next unit plain by read);
      };
      start = read.start;
    }

pub unit_bounded : (unset : Unset) (built next : PlainBuilt) (unit : List ℕ) → 0 < length unit → (kind_at built.header built.place ≡ kinds.Line → HasNoFeed (line_of unit)) → IsBounded built
    → unit_read unset built unit ≡ Ok next → Bounds built next unit
unit_bounded unset built next unit some plain bounded h = read_bounded unset built next unit built.header refl some plain bounded.few bounded.by h
