-- A unit of each section leaves a machine that has grown by it.
use Rattle.std.proofs.Common.{◌≡◌, ℕ, ◌+◌, ◌-◌, ◌*◌, ◌/◌, ◌%◌, ◌<◌, ◌≤◌, min, List, length, None, refl, sym, ap, subst, ◌∙◌, ◌⊎◌, inl, inr, arith}
use Rattle.std.specs.Prelude.{unwrap_or}
use Rattle.source_machine.specs.declared.unset.Unset.{Unset}
use Rattle.source_machine.specs.Machines.{PlainMachine, PlainEquation}
use Rattle.source_machine.specs.Fitting.{IsNumbered, LiteralFits, LatchFits, EquationFits, size_of_equations, size_of_cubes}
use Rattle.source_machine.specs.Additions.{with_equation}
use Rattle.source_machine.proofs.CallerLemmas.{length-last, size_of_equations-last, more_input_fits, more_output_fits, more_latch_fits, more_equation_fits}
use Rattle.word_scan.specs.Lines.{HasNoFeed}
use Rattle.aiger_reader.specs.declared.headers.Spelling.TheVariants.{Ascii, Binary}
use Rattle.aiger_reader.specs.declared.headers.Header.{Header}
use Rattle.aiger_reader.specs.declared.sections.Section.{Section}
use Rattle.aiger_reader.specs.declared.sections.Section.TheVariants.{Inputs, Latches, Outputs, Ands, FirstDeltas, SecondDeltas, Behind}
use Rattle.aiger_reader.specs.Units.{line_of}
use Rattle.aiger_reader.specs.Numbers.{numbers_of, one_of, three_of}
use Rattle.aiger_reader.specs.LineChecks.{plain_and}
use Rattle.aiger_reader.specs.Deltas.{delta_value}
use Rattle.aiger_reader.specs.Sections.{latches_from, outputs_from, ands_from, sections_end, delta_left, latch_at}
use Rattle.aiger_reader.specs.Machines.{input_of, latch_in, output_of}
use Rattle.aiger_reader.specs.Building.{PlainBuilt, unit_added, refusal_in}
use Rattle.aiger_reader.specs.Bounds.{HasInputs, HasAnds, IsBoundedBy}
use Rattle.aiger_reader.proofs.Allowed.{Allowed, allowed_is, input_fits, latch_fits, output_fits, and_fits, gate_fits}
use Rattle.aiger_reader.proofs.Places.{Shape, ascii, binary, shape, Stands, in_inputs, in_latches, in_outputs, in_ands, in_first, in_second, behind}
use Rattle.aiger_reader.proofs.Growing.{InputsYet, IsGrown}
use Rattle.aiger_reader.proofs.Named.{behind_fits, behind_alone}

-- the inputs are all there, or wait for the end of the sections
inputs_stay : (header : Header) (place : ℕ) (old new : PlainMachine) → Shape header → latches_from header ≤ place → length new.inputs ≡ length old.inputs
    → HasInputs header.spelling header place old → InputsYet header.spelling header (place + 1) new
inputs_stay header place old new (ascii is from end) ge same has =
    let count : length old.inputs ≡ min place header.inputs = subst (λ s. HasInputs s header place old) is has in
    subst (λ s. InputsYet s header (place + 1) new) (sym is) (omega (arith, same, count, ge, from))
inputs_stay header place old new (binary is from end) ge same has =
    let count : HasInputs Binary header place old = subst (λ s. HasInputs s header place old) is has in
    subst (λ s. InputsYet s header (place + 1) new) (sym is) (λ le. same ∙ count.0 (omega (arith, le)), λ lt. same ∙ count.1 (omega (arith, lt)))

-- no conjunction before their section and behind it
ands_stay : (header : Header) (place : ℕ) (old new : PlainMachine) → Shape header → (place < ands_from header) ⊎ (sections_end header ≤ place) → length new.equations ≡ length old.equations
    → HasAnds header.spelling header place old → HasAnds header.spelling header (place + 1) new
ands_stay header place old new (ascii is from end) (inl before) same has =
    let count : length old.equations ≡ min (place - ands_from header) header.ands = subst (λ s. HasAnds s header place old) is has in
    subst (λ s. HasAnds s header (place + 1) new) (sym is) (omega (arith, same, count, before))
ands_stay header place old new (ascii is from end) (inr past) same has =
    let count : length old.equations ≡ min (place - ands_from header) header.ands = subst (λ s. HasAnds s header place old) is has in
    subst (λ s. HasAnds s header (place + 1) new) (sym is) (omega (arith, same, count, past, end))
ands_stay header place old new (binary is from end) (inl before) same has =
    let count : length old.equations ≡ min (place - ands_from header) (2 * header.ands) / 2 = subst (λ s. HasAnds s header place old) is has in
    subst (λ s. HasAnds s header (place + 1) new) (sym is) (omega (arith, same, count, before))
ands_stay header place old new (binary is from end) (inr past) same has =
    let count : length old.equations ≡ min (place - ands_from header) (2 * header.ands) / 2 = subst (λ s. HasAnds s header place old) is has in
    subst (λ s. HasAnds s header (place + 1) new) (sym is) (omega (arith, same, count, past, end))

module _ (unset : Unset) (header : Header) (built : PlainBuilt) (unit : List ℕ) (by : IsBoundedBy header built) where
  -- the state with what a unit of this section says
  abbrev after : Section → PlainBuilt
  after section = unit_added unset header built unit section

  allowed : Allowed header
  allowed = allowed_is header by.allowed

  input_grown : built.place < latches_from header → refusal_in unset header built unit Inputs ≡ None → Shape header → IsGrown header (built.place + 1) built.literal (after Inputs).machine
  input_grown lt right (binary is from end) = absurd (omega (arith, lt, from))
  input_grown lt right (ascii is from end) =
      let count : length built.machine.inputs ≡ min built.place header.inputs = subst (λ s. HasInputs s header built.place built.machine) is by.inputs in
      let numbered = input_fits header.variables (one_of (numbers_of (line_of unit))) right in
      record {
        fits = more_input_fits built.machine by.fits (input_of unit) None (subst (λ n. IsNumbered n (input_of unit)) (sym by.nets) numbered) tt (omega (arith, count, lt, from, allowed.small.inputs));
        nets = by.nets;
        literal_is = by.literal;
        size = by.size;
        inputs = subst (λ s. InputsYet s header (built.place + 1) (after Inputs).machine) (sym is) (omega (arith, count, lt, from, length-last built.machine.inputs (input_of unit)));
        latches = omega (arith, by.latches, lt);
        outputs = omega (arith, by.outputs, lt);
        ands = ands_stay header built.place built.machine _ (ascii is from end) (inl (omega (arith, lt))) refl by.ands;
      }

  latch_grown : latches_from header ≤ built.place → built.place < outputs_from header → refusal_in unset header built unit Latches ≡ None
      → IsGrown header (built.place + 1) built.literal (after Latches).machine
  latch_grown ge lt right =
      let fits = latch_fits unset header.variables (built.place - latches_from header) (latch_at header built.place (line_of unit)) right in
      record {
        fits = more_latch_fits built.machine by.fits (latch_in unset header built.place unit) (subst (λ n. LatchFits n (latch_in unset header built.place unit)) (sym by.nets) fits)
            (omega (arith, by.latches, lt, allowed.small.latches));
        nets = by.nets;
        literal_is = by.literal;
        size = by.size;
        inputs = inputs_stay header built.place built.machine _ (shape header) ge refl by.inputs;
        latches = length-last built.machine.latches (latch_in unset header built.place unit) ∙ omega (arith, by.latches, ge, lt);
        outputs = omega (arith, by.outputs, lt);
        ands = ands_stay header built.place built.machine _ (shape header) (inl (omega (arith, lt))) refl by.ands;
      }

  output_grown : outputs_from header ≤ built.place → built.place < ands_from header → refusal_in unset header built unit Outputs ≡ None
      → IsGrown header (built.place + 1) built.literal (after Outputs).machine
  output_grown ge lt right =
      let fits = output_fits header.variables (one_of (numbers_of (line_of unit))) right in
      record {
        fits = more_output_fits built.machine by.fits (output_of unit) None (subst (λ n. LiteralFits n (output_of unit)) (sym by.nets) fits) tt (omega (arith, by.outputs, lt, allowed.small.outputs));
        nets = by.nets;
        literal_is = by.literal;
        size = by.size;
        inputs = inputs_stay header built.place built.machine _ (shape header) (omega (arith, ge)) refl by.inputs;
        latches = omega (arith, by.latches, ge);
        outputs = length-last built.machine.outputs (output_of unit) ∙ omega (arith, by.outputs, ge, lt);
        ands = ands_stay header built.place built.machine _ (shape header) (inl lt) refl by.ands;
      }

  -- one more conjunction, whichever its units are
  and_more : (equation : PlainEquation) → ands_from header ≤ built.place → built.place < sections_end header → EquationFits header.variables equation → size_of_cubes equation.cubes ≡ 3
      → length built.machine.equations < header.ands → HasAnds header.spelling header (built.place + 1) (with_equation built.machine equation)
      → IsGrown header (built.place + 1) built.literal (with_equation built.machine equation)
  and_more equation ge lt fits three room ands = record {
    fits = more_equation_fits built.machine by.fits equation (subst (λ n. EquationFits n equation) (sym by.nets) fits) (omega (arith, by.size, three, room, allowed.small.ands));
    nets = by.nets;
    literal_is = by.literal;
    size = size_of_equations-last built.machine.equations equation ∙ omega (arith, by.size, three, length-last built.machine.equations equation);
    inputs = inputs_stay header built.place built.machine _ (shape header) (omega (arith, ge)) refl by.inputs;
    latches = omega (arith, by.latches, ge);
    outputs = omega (arith, by.outputs, ge);
    ands = ands;
  }

  and_grown : header.spelling ≡ Ascii → ands_from header ≤ built.place → built.place < sections_end header → refusal_in unset header built unit Ands ≡ None → Shape header
      → IsGrown header (built.place + 1) built.literal (after Ands).machine
  and_grown s ge lt right (binary is from end) = absurd cc
  and_grown s ge lt right (ascii is from end) =
      let count : length built.machine.equations ≡ min (built.place - ands_from header) header.ands = subst (λ s. HasAnds s header built.place built.machine) is by.ands in
      let fits = and_fits header.variables (three_of (numbers_of (line_of unit))) right in
      and_more (plain_and (unwrap_or (three_of (numbers_of (line_of unit))) (0, 0, 0))) ge lt fits refl (omega (arith, count, lt, end))
      (subst (λ s. HasAnds s header (built.place + 1) (after Ands).machine) (sym is) (length-last built.machine.equations _ ∙ omega (arith, count, ge, lt, end)))

  first_grown : header.spelling ≡ Binary → ands_from header ≤ built.place → built.place < sections_end header → (built.place - ands_from header) % 2 ≡ 0 → Shape header
      → IsGrown header (built.place + 1) (after FirstDeltas).literal built.machine
  first_grown s ge lt even (ascii is from end) = absurd cc
  first_grown s ge lt even (binary is from end) =
      let count : length built.machine.equations ≡ min (built.place - ands_from header) (2 * header.ands) / 2 = subst (λ s. HasAnds s header built.place built.machine) is by.ands in
      record {
        fits = by.fits;
        nets = by.nets;
        literal_is = omega (arith, ge, lt, end, allowed.sum);
        size = by.size;
        inputs = inputs_stay header built.place built.machine _ (binary is from end) (omega (arith, ge)) refl by.inputs;
        latches = omega (arith, by.latches, ge);
        outputs = omega (arith, by.outputs, ge);
        ands = subst (λ s. HasAnds s header (built.place + 1) built.machine) (sym is) (omega (arith, count, ge, lt, end, even));
      }

  second_grown : header.spelling ≡ Binary → ands_from header ≤ built.place → built.place < sections_end header → (built.place - ands_from header) % 2 ≡ 1 → Shape header
      → IsGrown header (built.place + 1) built.literal (after SecondDeltas).machine
  second_grown s ge lt odd (ascii is from end) = absurd cc
  second_grown s ge lt odd (binary is from end) =
      let count : length built.machine.equations ≡ min (built.place - ands_from header) (2 * header.ands) / 2 = subst (λ s. HasAnds s header built.place built.machine) is by.ands in
      let left : ℕ = delta_left header built.place in
      let fits = gate_fits header.variables (left, built.literal, built.literal - delta_value unit) (omega arith, omega (arith, ge, lt, end, allowed.sum)) by.literal (omega (arith, by.literal)) in
      and_more (plain_and (left, built.literal, built.literal - delta_value unit)) ge lt fits refl (omega (arith, count, lt, end, odd))
      (subst (λ s. HasAnds s header (built.place + 1) (after SecondDeltas).machine) (sym is) (length-last built.machine.equations _ ∙ omega (arith, count, ge, lt, end, odd)))

  behind_grown : sections_end header ≤ built.place → HasNoFeed (line_of unit) → refusal_in unset header built unit Behind ≡ None
      → IsGrown header (built.place + 1) (after Behind).literal (after Behind).machine
  behind_grown ge plain right =
      let alone = behind_alone built (line_of unit) in
      record {
        fits = behind_fits header built (line_of unit) by.fits plain right;
        nets = alone.nets ∙ by.nets;
        literal_is = omega (arith, alone.literal, by.literal);
        size = ap size_of_equations alone.equations ∙ by.size ∙ ap (λ (es : List PlainEquation). 3 * length es) (sym alone.equations);
        inputs = inputs_stay header built.place built.machine _ (shape header) (omega (arith, ge)) (ap length alone.inputs) by.inputs;
        latches = ap length alone.latches ∙ omega (arith, by.latches, ge);
        outputs = ap length alone.outputs ∙ omega (arith, by.outputs, ge);
        ands = ands_stay header built.place built.machine _ (shape header) (inr ge) (ap length alone.equations) by.ands;
      }

  -- a unit of any section
  pub grown : (section : Section) → Stands header built.place section → (section ≡ Behind → HasNoFeed (line_of unit)) → refusal_in unset header built unit section ≡ None
      → IsGrown header (built.place + 1) (after section).literal (after section).machine
  grown Inputs (in_inputs lt) plain right = input_grown lt right (shape header)
  grown Latches (in_latches ge lt) plain right = latch_grown ge lt right
  grown Outputs (in_outputs ge lt) plain right = output_grown ge lt right
  grown Ands (in_ands s ge lt) plain right = and_grown s ge lt right (shape header)
  grown FirstDeltas (in_first s ge lt even) plain right = first_grown s ge lt even (shape header)
  grown SecondDeltas (in_second s ge lt odd) plain right = second_grown s ge lt odd (shape header)
  grown Behind (behind ge) plain right = behind_grown ge (plain refl) right
