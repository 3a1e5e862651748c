-- The fault of a whole source, and its judgement, are told by words.
use Rattle.std.proofs.Common.{◌≡◌, ℕ, Bool, true, false, not, ◌||◌, ◌==◌, cond, ltb, List, [], length, take, Option, Some, None, Result, Ok, Err, refl, sym, ap, subst, ◌∙◌}
use Rattle.std.specs.Prelude.{option_map, unwrap_or}
use Rattle.std.specs.Option.{option_or, is_some}
use Rattle.std.specs.Str.{bytes_eq}
use Rattle.std.specs.List.{flat_map, list_any}
use Rattle.std.proofs.lemmas.Slice.Eq.{bytes_eq-Decides}
use Rattle.pulse_ids.specs.declared.quantities.Quantity.TheVariants as quantities
use Rattle.numbered_names.specs.Names.{number_in}
use Rattle.word_scan.specs.Logical.{LogicalLine}
use Rattle.source_machine.specs.declared.places.Place.TheVariants.{Whole}
use Rattle.source_machine.specs.declared.unset.Unset.{Unset}
use Rattle.source_machine.specs.Machines.{PlainMachine}
use Rattle.blif_reader.specs.declared.refusals.BlifCause.{BlifCause}
use Rattle.blif_reader.specs.declared.refusals.BlifCause.TheVariants as causes
use Rattle.blif_reader.specs.declared.refusals.BlifRefusal.{BlifRefusal}
use Rattle.blif_reader.specs.declared.refusals.BlifRefusal.TheVariants as refusals
use Rattle.blif_reader.specs.States.{BlifState, nothing_read, closed}
use Rattle.blif_reader.specs.Sources.{PlainSource, source_of, refusal_of, lines_read, logical_lines, all_logical_lines, limit, too_long, fault_at, is_data, is_derived, is_input, clock_cause}
use Rattle.blif_reader.specs.Sources.{unless_clocked, whole_source, source_read, early, judgement}
use Rattle.blif_reader.specs.Tellings.{input_words, clock_words, net_of, nets_told, clock_told, has_words, source_told, machine_told, words_of}
use Rattle.blif_reader.specs.ToldVerdicts.{first_refusal, is_among, is_read_in, is_made_in, is_declared_in, clock_refused_by, whole_refused, unless_refused_by, lines_judged, early_told}
use Rattle.blif_reader.specs.ToldVerdicts.{judgement_told}
use Rattle.blif_reader.proofs.ClockNames.{net_is}
use Rattle.blif_reader.proofs.ClockUses.{reads_by, makes_by, none_read, none_made, read_named, made_named, input_named, none_passes}
use Rattle.blif_reader.proofs.FirstRefusals.{first_told}
use Rattle.blif_reader.proofs.SourceTellings.{IsBuilt, lines_told, read_by}

-- a name without a number is none of those that have one
unnamed : (nets : List (List ℕ)) (clock name : List ℕ) (same : Bool) → bytes_eq name clock ≡ same → number_in nets clock ≡ None → is_some (number_in nets name) ≡ true → false ≡ same
unnamed nets clock name false e none some = refl
unnamed nets clock name true e none some =
    let is : name ≡ clock = (bytes_eq-Decides name clock).0 e in
    let no : true ≡ false = sym some ∙ ap (λ n. is_some (number_in nets n)) is ∙ ap (λ (o : Option ℕ). is_some o) none in absurd cc

module _ (unset : Unset) (lines : List (List (List ℕ))) (clock : List ℕ) where
  abbrev machine : PlainMachine
  machine = machine_told unset lines

  -- the clock's fault by what the machine reads and drives
  data_is : (found : Option ℕ) → number_in (nets_told lines) clock ≡ found → is_data (machine_told unset lines) found ≡ is_read_in lines clock
  data_is None e = sym (none_read (machine_told unset lines)) ∙ read_named unset lines clock (λ net. false) (λ name h. unnamed (nets_told lines) clock name (bytes_eq name clock) refl e h)
  data_is (Some number) e = read_named unset lines clock (λ net. net == number) (λ name h. net_is (nets_told lines) clock number e name h)

  derived_is : (found : Option ℕ) → number_in (nets_told lines) clock ≡ found
      → is_derived (machine_told unset lines) (has_words (flat_map clock_words lines)) found ≡ (is_made_in lines clock || not (is_declared_in lines clock))
  derived_is None e =
      let made : false ≡ is_made_in lines clock =
      sym (none_made (machine_told unset lines)) ∙ made_named unset lines clock (λ net. false) (λ name h. unnamed (nets_told lines) clock name (bytes_eq name clock) refl e h) in
      let declared : false ≡ is_among clock (flat_map input_words lines) =
      sym (none_passes (machine_told unset lines).inputs) ∙ input_named unset lines clock (λ net. false) (λ name h. unnamed (nets_told lines) clock name (bytes_eq name clock) refl e h) in
      ap (λ b. b || not (false || has_words (flat_map clock_words lines))) made ∙ ap (λ b. is_made_in lines clock || not (b || has_words (flat_map clock_words lines))) declared
  derived_is (Some number) e =
      let made = made_named unset lines clock (λ net. net == number) (λ name h. net_is (nets_told lines) clock number e name h) in
      let declared = input_named unset lines clock (λ net. net == number) (λ name h. net_is (nets_told lines) clock number e name h) in
      ap (λ b. b || not (is_input (machine_told unset lines) number || has_words (flat_map clock_words lines))) made
      ∙ ap (λ b. is_made_in lines clock || not (b || has_words (flat_map clock_words lines))) declared

abbrev cause_by : Bool → Bool → List ℕ → Option BlifCause
cause_by read derived clock = cond read (Some (causes.ClockAsData clock)) (cond derived (Some (causes.DerivedClock clock)) None)

abbrev fault_of : Option BlifCause → Option BlifRefusal
fault_of cause = option_map (fault_at Whole) cause

fault_by : (read derived : Bool) (clock : List ℕ)
    → fault_of (cause_by read derived clock) ≡ cond read (Some (fault_at Whole (causes.ClockAsData clock))) (cond derived (Some (fault_at Whole (causes.DerivedClock clock))) None)
fault_by true derived clock = refl
fault_by false true clock = refl
fault_by false false clock = refl

refusal_is : (cause : Option BlifCause) (source : PlainSource) → refusal_of (unless_clocked cause source) ≡ fault_of cause
refusal_is None source = refl
refusal_is (Some cause) source = refl

whole_by : (modelled : Bool) (cause : Option BlifCause) (source : PlainSource) (told : Option BlifRefusal) → fault_of cause ≡ told
    → refusal_of (cond modelled (unless_clocked cause source) (Err (fault_at Whole causes.NoModel))) ≡ cond (not modelled) (Some (fault_at Whole causes.NoModel)) told
whole_by true cause source told h = refusal_is cause source ∙ h
whole_by false cause source told h = refl

module _ (unset : Unset) (lines : List (List (List ℕ))) (state : BlifState) (is : IsBuilt unset lines state) where
  machine_is : source_of (closed state) ≡ source_told unset lines
  machine_is = is.source

  cause_is : (clock : List ℕ) → fault_of (clock_cause (closed state) (Some clock)) ≡ clock_refused_by lines (Some clock)
  cause_is clock =
      let found : Option ℕ = number_in (nets_told lines) clock in
      let numbers : number_in state.nets clock ≡ found = ap (λ (n : List (List ℕ)). number_in n clock) is.nets in
      let read : is_data (closed state).machine (number_in state.nets clock) ≡ is_read_in lines clock =
      ap (λ (s : PlainSource). is_data s.machine (number_in state.nets clock)) machine_is ∙ ap (is_data (machine_told unset lines)) numbers ∙ data_is unset lines clock found refl in
      let derived : is_derived (closed state).machine state.clocked (number_in state.nets clock) ≡ (is_made_in lines clock || not (is_declared_in lines clock)) =
      ap (λ (s : PlainSource). is_derived s.machine state.clocked (number_in state.nets clock)) machine_is
      ∙ ap (λ b. is_derived (machine_told unset lines) b (number_in state.nets clock)) is.clocked
      ∙ ap (is_derived (machine_told unset lines) (has_words (flat_map clock_words lines))) numbers ∙ derived_is unset lines clock found refl in
      ap (λ b. fault_of (cause_by b (is_derived (closed state).machine state.clocked (number_in state.nets clock)) clock)) read
      ∙ ap (λ b. fault_of (cause_by (is_read_in lines clock) b clock)) derived
      ∙ fault_by (is_read_in lines clock) (is_made_in lines clock || not (is_declared_in lines clock)) clock

  causes_are : (clock : Option (List ℕ)) → fault_of (clock_cause (closed state) clock) ≡ clock_refused_by lines clock
  causes_are None = refl
  causes_are (Some clock) = cause_is clock

  whole_is : refusal_of (whole_source state) ≡ whole_refused lines
  whole_is =
      whole_by state.modelled (clock_cause (closed state) state.clock) (source_of (closed state)) (clock_refused_by lines (clock_told lines))
      (causes_are state.clock ∙ ap (clock_refused_by lines) is.clock)
      ∙ ap (λ b. cond (not b) (Some (fault_at Whole causes.NoModel)) (clock_refused_by lines (clock_told lines))) is.modelled

abbrev long_said : Bool → Option BlifRefusal → Result PlainSource BlifRefusal → Result PlainSource BlifRefusal
long_said long shown said = cond long (Err (unwrap_or shown (refusals.Limit quantities.SourceBytes))) said

module _ (unset : Unset) where
  whole_read : (lines : List LogicalLine) (read : Result BlifState BlifRefusal) → lines_read unset (Ok nothing_read) lines ≡ read → refusal_of read ≡ None
      → refusal_of (source_read read) ≡ whole_refused (words_of lines)
  whole_read lines (Ok state) e accepted = whole_is unset (words_of lines) state (lines_told unset lines state e)
  whole_read lines (Err refusal) e accepted = absurd cc

  pub whole_told : (lines : List LogicalLine) → refusal_of (lines_read unset (Ok nothing_read) lines) ≡ None
      → refusal_of (source_read (lines_read unset (Ok nothing_read) lines)) ≡ whole_refused (words_of lines)
  whole_told lines accepted = whole_read lines (lines_read unset (Ok nothing_read) lines) refl accepted

  said_by : (lines : List LogicalLine) (state : BlifState) (said : Result PlainSource BlifRefusal) → lines_read unset (Ok nothing_read) lines ≡ Ok state → source_read (Ok state) ≡ said
      → refusal_of said ≡ whole_refused (words_of lines) → said ≡ unless_refused_by (whole_refused (words_of lines)) (source_told unset (words_of lines))
  said_by lines state (Ok source) e h told =
      ap (λ (s : PlainSource). Ok s) (read_by unset lines source (Ok state) e h)
      ∙ ap (λ (o : Option BlifRefusal). unless_refused_by o (source_told unset (words_of lines))) told
  said_by lines state (Err refusal) e h told = ap (λ (o : Option BlifRefusal). unless_refused_by o (source_told unset (words_of lines))) told

  lines_said : (lines : List LogicalLine) (read : Result BlifState BlifRefusal) → lines_read unset (Ok nothing_read) lines ≡ read → source_read read ≡ lines_judged unset lines
  lines_said lines (Ok state) e =
      let first : first_refusal unset [] lines ≡ None = sym (first_told unset lines) ∙ ap (λ (r : Result BlifState BlifRefusal). refusal_of r) e in
      said_by lines state (source_read (Ok state)) e refl (whole_is unset (words_of lines) state (lines_told unset lines state e))
      ∙ ap (λ (o : Option BlifRefusal). unless_refused_by (option_or o (whole_refused (words_of lines))) (source_told unset (words_of lines))) (sym first)
  lines_said lines (Err refusal) e =
      let first : first_refusal unset [] lines ≡ Some refusal = sym (first_told unset lines) ∙ ap (λ (r : Result BlifState BlifRefusal). refusal_of r) e in
      ap (λ (o : Option BlifRefusal). unless_refused_by (option_or o (whole_refused (words_of lines))) (source_told unset (words_of lines))) (sym first)

  pub early_is : (text : List ℕ) → early unset text ≡ early_told unset text
  early_is text = ap (λ (o : Option BlifRefusal). option_or o (too_long text)) (first_told unset (logical_lines (take limit text)))

  pub judgement_is : (text : List ℕ) → judgement unset text ≡ judgement_told unset text
  judgement_is text =
      ap (λ (o : Option BlifRefusal). long_said (ltb limit (length text)) o (source_read (lines_read unset (Ok nothing_read) (all_logical_lines text)))) (early_is text)
      ∙ ap (long_said (ltb limit (length text)) (early_told unset text)) (lines_said (all_logical_lines text) (lines_read unset (Ok nothing_read) (all_logical_lines text)) refl)
