-- What the units of each section have built.
use Rattle.std.proofs.Common.{◌≡◌, ℕ, zero, suc, ◌+◌, ◌-◌, ◌%◌, ◌<◌, ◌≤◌, Bool, true, false, cond, eqb, List, [], ◌∷◌, ◌++◌, length, get_or, map, Option, None, refl, sym, ap, subst, ◌∙◌, append_assoc, arith}
use Rattle.std.proofs.lemmas.Bool.{eqb-true, eqb-false}
use Rattle.std.proofs.lemmas.List.{append-nil, length_push, drop_all}
use Rattle.source_machine.specs.declared.unset.Unset.{Unset}
use Rattle.source_machine.specs.Machines.{PlainMachine, PlainLiteral}
use Rattle.source_machine.specs.Additions.{with_input}
use Rattle.source_machine.proofs.CallerLemmas.{length-last}
use Rattle.aiger_reader.specs.declared.headers.Spelling.{Spelling}
use Rattle.aiger_reader.specs.declared.headers.Spelling.TheVariants.{Ascii, Binary}
use Rattle.aiger_reader.specs.declared.headers.Header.{Header}
use Rattle.aiger_reader.specs.declared.sections.Section.{Section}
use Rattle.aiger_reader.specs.declared.sections.Section.TheVariants.{Inputs, Latches, Outputs, Ands, FirstDeltas, SecondDeltas, Behind}
use Rattle.aiger_reader.specs.Sections.{and_units, latches_from, outputs_from, ands_from, sections_end, section_of, any_comment, is_commented, last_of, literal_after}
use Rattle.aiger_reader.specs.Machines.{numbers_from, part, input_of, latches_in, output_of, ands_in, uncommented, symbols_in, names_in}
use Rattle.aiger_reader.specs.Building.{PlainBuilt, with_inputs, completed_in, completed}
use Rattle.aiger_reader.proofs.Places.{Stands, stands, in_inputs, in_latches, in_outputs, in_ands, in_first, in_second, behind}
use Rattle.aiger_reader.proofs.PartLemmas.{names_more}

-- the inputs that units have given, in the binary spelling before and where the sections have ended
abbrev pub InputsAre : Spelling → Header → ℕ → List (List ℕ) → List ℕ → Type 0
InputsAre Ascii header wait units inputs = inputs ≡ map input_of (part 0 header.inputs units)
InputsAre Binary header wait units inputs =
    (length units < sections_end header + wait → inputs ≡ []) × (sections_end header + wait ≤ length units → inputs ≡ numbers_from 1 header.inputs)

-- what units after a header have built; `wait` is 1 before the inputs of the binary spelling come
pub record HasParts (unset : Unset) (header : Header) (wait : ℕ) (units : List (List ℕ)) (literal : ℕ) (commented : Bool) (machine : PlainMachine) : Type 0 where
  pub nets : machine.nets ≡ header.variables
  pub literal_is : section_of header (length units) ≡ SecondDeltas → literal ≡ literal_after header units
  pub commented_is : commented ≡ is_commented header units
  pub inputs : InputsAre header.spelling header wait units machine.inputs
  pub latches : machine.latches ≡ latches_in unset header (latches_from header) (part (latches_from header) header.latches units)
  pub equations : machine.equations ≡ ands_in header header.spelling (part (ands_from header) (and_units header.spelling header.ands) units)
  pub outputs : machine.outputs ≡ map output_of (part (outputs_from header) header.outputs units)
  pub input_names : machine.input_names ≡ names_in 105 (length machine.inputs) (symbols_in header units)
  pub output_names : machine.output_names ≡ names_in 111 (length machine.outputs) (symbols_in header units)

-- further inputs, which have no names
pub record InputsGiven (old new : PlainMachine) (net count : ℕ) : Type 0 where
  pub nets : new.nets ≡ old.nets
  pub latches : new.latches ≡ old.latches
  pub equations : new.equations ≡ old.equations
  pub outputs : new.outputs ≡ old.outputs
  pub output_names : new.output_names ≡ old.output_names
  pub inputs : new.inputs ≡ old.inputs ++ numbers_from net count
  pub names : old.input_names ≡ names_in 105 (length old.inputs) [] → new.input_names ≡ names_in 105 (length new.inputs) []

pub inputs_given : (machine : PlainMachine) (net count : ℕ) → InputsGiven machine (with_inputs machine net count) net count
inputs_given machine net zero = record { nets = refl; latches = refl; equations = refl; outputs = refl; output_names = refl; inputs = sym (append-nil machine.inputs); names = λ h. h }
inputs_given machine net (suc count) =
    let r = inputs_given (with_input machine net None) (net + 1) count in
    record {
      nets = r.nets;
      latches = r.latches;
      equations = r.equations;
      outputs = r.outputs;
      output_names = r.output_names;
      inputs = r.inputs ∙ append_assoc machine.inputs (net ∷ []) (numbers_from (net + 1) count);
      names = λ h. r.names (ap (λ (ns : List (Option (List ℕ))). ns ++ None ∷ []) h ∙ sym (names_more 105 (length machine.inputs))
          ∙ ap (λ n. names_in 105 n []) (sym (length-last machine.inputs net)));
    }

-- no symbols before the sections end
pub no_symbols : (header : Header) (units : List (List ℕ)) → length units ≤ sections_end header → symbols_in header units ≡ []
no_symbols header units le = ap uncommented (drop_all (sections_end header) units le)

pub no_comment : (header : Header) (units : List (List ℕ)) → length units ≤ sections_end header → is_commented header units ≡ false
no_comment header units le = ap any_comment (drop_all (sections_end header) units le)

module _ (unset : Unset) (header : Header) (units : List (List ℕ)) (built : PlainBuilt) (place : built.place ≡ length units)
    (has : HasParts unset header 1 units built.literal built.commented built.machine) where
  given : InputsGiven built.machine (with_inputs built.machine 1 header.inputs) 1 header.inputs
  given = inputs_given built.machine 1 header.inputs

  binary_parts : header.spelling ≡ Binary → (at : Bool) → eqb built.place (sections_end header) ≡ at
      → HasParts unset header 0 units (cond at (record built { machine = with_inputs built.machine 1 header.inputs }) built).literal
      (cond at (record built { machine = with_inputs built.machine 1 header.inputs }) built).commented
      (cond at (record built { machine = with_inputs built.machine 1 header.inputs }) built).machine
  binary_parts is true e =
      let here : built.place ≡ sections_end header = eqb-true _ _ e in
      let yet : InputsAre Binary header 1 units built.machine.inputs = subst (λ s. InputsAre s header 1 units built.machine.inputs) is has.inputs in
      let none : built.machine.inputs ≡ [] = yet.0 (omega (arith, here, place)) in
      let new : PlainMachine = with_inputs built.machine 1 header.inputs in
      let all : new.inputs ≡ numbers_from 1 header.inputs = given.inputs ∙ ap (λ (l : List ℕ). l ++ numbers_from 1 header.inputs) none in
      let silent : symbols_in header units ≡ [] = no_symbols header units (omega (arith, here, place)) in
      record {
        nets = given.nets ∙ has.nets;
        literal_is = has.literal_is;
        commented_is = has.commented_is;
        inputs = subst (λ s. InputsAre s header 0 units new.inputs) (sym is) (λ lt. absurd (omega (arith, here, place, lt)), λ ge. all);
        latches = given.latches ∙ has.latches;
        equations = given.equations ∙ has.equations;
        outputs = given.outputs ∙ has.outputs;
        input_names = given.names (has.input_names ∙ ap (names_in 105 (length built.machine.inputs)) silent) ∙ ap (names_in 105 (length new.inputs)) (sym silent);
        output_names = given.output_names ∙ has.output_names ∙ ap (λ (os : List PlainLiteral). names_in 111 (length os) (symbols_in header units)) (sym given.outputs);
      }
  binary_parts is false e =
      let other = eqb-false _ _ e in
      let yet : InputsAre Binary header 1 units built.machine.inputs = subst (λ s. InputsAre s header 1 units built.machine.inputs) is has.inputs in
      record {
        nets = has.nets;
        literal_is = has.literal_is;
        commented_is = has.commented_is;
        inputs = subst (λ s. InputsAre s header 0 units built.machine.inputs) (sym is) (λ lt. yet.0 (omega (arith, lt)), λ ge. yet.1 (omega (arith, ge, other, place)));
        latches = has.latches;
        equations = has.equations;
        outputs = has.outputs;
        input_names = has.input_names;
        output_names = has.output_names;
      }

  parts_by : (spelling : Spelling) → header.spelling ≡ spelling → HasParts unset header 0 units (completed_in spelling header built).literal (completed_in spelling header built).commented
      (completed_in spelling header built).machine
  parts_by Ascii is = record {
    nets = has.nets;
    literal_is = has.literal_is;
    commented_is = has.commented_is;
    inputs = subst (λ s. InputsAre s header 0 units built.machine.inputs) (sym is) (subst (λ s. InputsAre s header 1 units built.machine.inputs) is has.inputs);
    latches = has.latches;
    equations = has.equations;
    outputs = has.outputs;
    input_names = has.input_names;
    output_names = has.output_names;
  }
  parts_by Binary is = binary_parts is (eqb built.place (sections_end header)) refl

  -- where the sections end the inputs of the binary spelling come
  pub completed_parts : HasParts unset header 0 units (completed header built).literal (completed header built).commented (completed header built).machine
  completed_parts = parts_by header.spelling refl

-- the second delta of a conjunction follows its first one
pub record Follows (header : Header) (place : ℕ) : Type 0 where
  pub is : header.spelling ≡ Binary
  pub ge : ands_from header ≤ place
  pub lt : place < sections_end header
  pub even : (place - ands_from header) % 2 ≡ 0

follows_by : (header : Header) (place : ℕ) (section : Section) → Stands header (place + 1) section → section ≡ SecondDeltas → Follows header place
follows_by header place Inputs (in_inputs lt) e = absurd cc
follows_by header place Latches (in_latches ge lt) e = absurd cc
follows_by header place Outputs (in_outputs ge lt) e = absurd cc
follows_by header place Ands (in_ands s ge lt) e = absurd cc
follows_by header place FirstDeltas (in_first s ge lt even) e = absurd cc
follows_by header place SecondDeltas (in_second s ge lt odd) e = record { is = s; ge = omega (arith, odd); lt = omega (arith, lt); even = omega (arith, odd) }
follows_by header place Behind (behind ge) e = absurd cc

pub second_follows : (header : Header) (units : List (List ℕ)) (unit : List ℕ) → section_of header (length (units ++ unit ∷ [])) ≡ SecondDeltas → Follows header (length units)
second_follows header units unit e =
    follows_by header (length units) (section_of header (length units + 1)) (stands header (length units + 1)) (ap (section_of header) (sym (length_push units unit)) ∙ e)

-- the last of the units
pub last_push : (units : List (List ℕ)) (unit : List ℕ) → last_of (units ++ unit ∷ []) ≡ unit
last_push units unit = let at : length (units ++ unit ∷ []) - 1 ≡ length units = omega (arith, length_push units unit) in ap (λ n. get_or (units ++ unit ∷ []) n []) at ∙ found units
  where
    found : (us : List (List ℕ)) → get_or (us ++ unit ∷ []) (length us) [] ≡ unit
    found [] = refl
    found (u ∷ us) = found us
