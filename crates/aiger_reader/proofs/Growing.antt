-- Each unit leaves a bounded machine.
use Rattle.std.proofs.Common.{◌≡◌, ℕ, zero, suc, ◌+◌, ◌-◌, ◌*◌, ◌<◌, ◌≤◌, min, Bool, true, false, cond, eqb, List, length, Some, None, refl, sym, ap, subst, ◌∙◌, arith}
use Rattle.std.proofs.lemmas.Bool.{eqb-true, eqb-false}
use Rattle.pulse_ids.specs.Quantities.{greatest_of}
use Rattle.pulse_ids.specs.declared.quantities.Quantity.TheVariants as quantities
use Rattle.source_machine.specs.Machines.{PlainMachine, PlainEquation}
use Rattle.source_machine.specs.Fitting.{Fits, size_of, size_of_equations}
use Rattle.source_machine.specs.Additions.{bare, with_input}
use Rattle.source_machine.proofs.CallerLemmas.{length-last, bare_fits, more_input_fits}
use Rattle.aiger_reader.specs.declared.headers.Spelling.{Spelling}
use Rattle.aiger_reader.specs.declared.headers.Spelling.TheVariants.{Ascii, Binary}
use Rattle.aiger_reader.specs.declared.headers.Header.{Header}
use Rattle.aiger_reader.specs.Headers.{counts_refusal}
use Rattle.aiger_reader.specs.Sections.{latches_from, outputs_from, sections_end}
use Rattle.aiger_reader.specs.Building.{PlainBuilt, with_inputs, completed_in, completed, begun_with}
use Rattle.aiger_reader.specs.Bounds.{HasInputs, HasAnds, IsBoundedBy}
use Rattle.aiger_reader.proofs.Allowed.{Allowed, allowed_is}

-- the inputs before those of the binary spelling come
abbrev pub InputsYet : Spelling → Header → ℕ → PlainMachine → Type 0
InputsYet Ascii header place machine = length machine.inputs ≡ min place header.inputs
InputsYet Binary header place machine =
    (place ≤ sections_end header → length machine.inputs ≡ 0) × (sections_end header < place → length machine.inputs ≡ header.inputs)

-- a machine after so many units, before the inputs of the binary spelling come
pub record IsGrown (header : Header) (place literal : ℕ) (machine : PlainMachine) : Type 0 where
  pub fits : Fits machine
  pub nets : machine.nets ≡ header.variables
  pub literal_is : literal ≤ 2 * header.variables + 1
  pub size : size_of machine ≡ 3 * length machine.equations
  pub inputs : InputsYet header.spelling header place machine
  pub latches : length machine.latches ≡ min (place - latches_from header) header.latches
  pub outputs : length machine.outputs ≡ min (place - outputs_from header) header.outputs
  pub ands : HasAnds header.spelling header place machine

-- what further inputs change
pub record InputsAdded (old new : PlainMachine) (count : ℕ) : Type 0 where
  pub nets : new.nets ≡ old.nets
  pub latches : new.latches ≡ old.latches
  pub equations : new.equations ≡ old.equations
  pub outputs : new.outputs ≡ old.outputs
  pub output_names : new.output_names ≡ old.output_names
  pub more : length new.inputs ≡ length old.inputs + count

pub inputs_added : (machine : PlainMachine) (net count : ℕ) → InputsAdded machine (with_inputs machine net count) count
inputs_added machine net zero = record { nets = refl; latches = refl; equations = refl; outputs = refl; output_names = refl; more = omega arith }
inputs_added machine net (suc count) =
    let r = inputs_added (with_input machine net None) (net + 1) count in
    record {
      nets = r.nets;
      latches = r.latches;
      equations = r.equations;
      outputs = r.outputs;
      output_names = r.output_names;
      more = omega (arith, r.more, length-last machine.inputs net);
    }

inputs_fit : (machine : PlainMachine) → Fits machine → (net count : ℕ) → 1 ≤ net → net + count ≤ machine.nets + 1 → length machine.inputs + count ≤ greatest_of quantities.Inputs
    → Fits (with_inputs machine net count)
inputs_fit machine fits net zero least most room = fits
inputs_fit machine fits net (suc count) least most room =
    inputs_fit (with_input machine net None) (more_input_fits machine fits net None (least, omega arith) tt (omega arith)) (net + 1) count (omega arith) (omega arith)
    (omega (arith, length-last machine.inputs net))

ands_kept : (spelling : Spelling) (header : Header) (place : ℕ) (old new : PlainMachine) → new.equations ≡ old.equations → HasAnds spelling header place old → HasAnds spelling header place new
ands_kept Ascii header place old new same has = ap length same ∙ has
ands_kept Binary header place old new same has = ap length same ∙ has

binary_completed : (header : Header) → header.spelling ≡ Binary → Allowed header → counts_refusal header ≡ None → (built : PlainBuilt) → IsGrown header built.place built.literal built.machine
    → (at : Bool) → eqb built.place (sections_end header) ≡ at → IsBoundedBy header (cond at (record built { machine = with_inputs built.machine 1 header.inputs }) built)
binary_completed header is allowed right built grown true e =
    let here : built.place ≡ sections_end header = eqb-true _ _ e in
    let yet : InputsYet Binary header built.place built.machine = subst (λ s. InputsYet s header built.place built.machine) is grown.inputs in
    let none : length built.machine.inputs ≡ 0 = yet.0 (omega (arith, here)) in
    let added = inputs_added built.machine 1 header.inputs in
    record {
      allowed = right;
      fits = inputs_fit built.machine grown.fits 1 header.inputs (omega arith) (omega (arith, grown.nets, allowed.sum)) (omega (arith, none, allowed.small.inputs));
      nets = added.nets ∙ grown.nets;
      literal = grown.literal_is;
      size = ap size_of_equations added.equations ∙ grown.size ∙ ap (λ (es : List PlainEquation). 3 * length es) (sym added.equations);
      inputs = subst (λ s. HasInputs s header built.place (with_inputs built.machine 1 header.inputs)) (sym is) (λ lt. absurd (omega (arith, here, lt)), λ ge. omega (arith, added.more, none));
      latches = ap length added.latches ∙ grown.latches;
      outputs = ap length added.outputs ∙ grown.outputs;
      ands = ands_kept header.spelling header built.place built.machine _ added.equations grown.ands;
    }
binary_completed header is allowed right built grown false e =
    let other = eqb-false _ _ e in
    let yet : InputsYet Binary header built.place built.machine = subst (λ s. InputsYet s header built.place built.machine) is grown.inputs in
    record {
      allowed = right;
      fits = grown.fits;
      nets = grown.nets;
      literal = grown.literal_is;
      size = grown.size;
      inputs = subst (λ s. HasInputs s header built.place built.machine) (sym is) (λ lt. yet.0 (omega (arith, lt)), λ ge. yet.1 (omega (arith, ge, other)));
      latches = grown.latches;
      outputs = grown.outputs;
      ands = grown.ands;
    }

completed_by : (header : Header) → counts_refusal header ≡ None → (built : PlainBuilt) → IsGrown header built.place built.literal built.machine → (spelling : Spelling)
    → header.spelling ≡ spelling → IsBoundedBy header (completed_in spelling header built)
completed_by header right built grown Ascii is = record {
  allowed = right;
  fits = grown.fits;
  nets = grown.nets;
  literal = grown.literal_is;
  size = grown.size;
  inputs = subst (λ s. HasInputs s header built.place built.machine) (sym is) (subst (λ s. InputsYet s header built.place built.machine) is grown.inputs);
  latches = grown.latches;
  outputs = grown.outputs;
  ands = grown.ands;
}
completed_by header right built grown Binary is = binary_completed header is (allowed_is header right) right built grown (eqb built.place (sections_end header)) refl

-- where the sections end the inputs come, and all is bounded
pub completed_bounded : (header : Header) → counts_refusal header ≡ None → (built : PlainBuilt) → IsGrown header built.place built.literal built.machine → IsBoundedBy header (completed header built)
completed_bounded header right built grown = completed_by header right built grown header.spelling refl

none_yet : (spelling : Spelling) (header : Header) (nets : ℕ) → InputsYet spelling header 0 (bare nets)
none_yet Ascii header nets = omega arith
none_yet Binary header nets = (λ le. refl, λ lt. absurd (omega (arith, lt)))

no_ands : (spelling : Spelling) (header : Header) (nets : ℕ) → HasAnds spelling header 0 (bare nets)
no_ands Ascii header nets = omega arith
no_ands Binary header nets = omega arith

-- before the first unit after a header
pub begun_bounded : (header : Header) (start : ℕ) → counts_refusal header ≡ None → IsBoundedBy header (begun_with header start)
begun_bounded header start right =
    let small = (allowed_is header right).small in
    completed_bounded header right (record { header = Some header; place = 0; start = start; literal = 0; commented = false; machine = bare header.variables }) (record {
      fits = bare_fits header.variables small.variables;
      nets = refl;
      literal_is = omega arith;
      size = refl;
      inputs = none_yet header.spelling header header.variables;
      latches = omega arith;
      outputs = omega arith;
      ands = no_ands header.spelling header header.variables;
    })
