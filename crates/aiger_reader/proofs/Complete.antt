-- The machine of all units.
use Rattle.std.proofs.Common.{◌≡◌, ℕ, zero, suc, ◌+◌, ◌≤◌, Bool, true, false, cond, ltb, List, [], ◌∷◌, length, map, drop, Option, Some, Result, Ok, Err, refl, sym, ap, subst, ◌∙◌, inl, inr, arith}
use Rattle.std.proofs.lemmas.Bool.{cases_lt, lt-ltb, le-ltb}
use Rattle.std.proofs.lemmas.List.{length-map, length-take, length-drop}
use Rattle.source_machine.specs.declared.unset.Unset.{Unset}
use Rattle.source_machine.specs.Machines.{PlainMachine, PlainLatch, PlainLiteral, PlainEquation}
use Rattle.aiger_reader.specs.declared.headers.Spelling.TheVariants.{Binary}
use Rattle.aiger_reader.specs.declared.headers.Header.{Header}
use Rattle.aiger_reader.specs.declared.refusals.AigerRefusal.{AigerRefusal}
use Rattle.aiger_reader.specs.declared.refusals.AigerCause.TheVariants as causes
use Rattle.aiger_reader.specs.Sections.{outputs_from, sections_end}
use Rattle.aiger_reader.specs.Machines.{numbers_from, part, input_of, inputs_in, output_of, symbols_in, names_in, machine_in}
use Rattle.aiger_reader.specs.Sources.{fault_at, end_place, complete, whole_source}
use Rattle.aiger_reader.specs.Building.{PlainBuilt}
use Rattle.aiger_reader.specs.Readings.{machine_by}
use Rattle.aiger_reader.proofs.Places.{Shape, ascii, binary, shape}
use Rattle.aiger_reader.proofs.SectionParts.{InputsAre, HasParts}
use Rattle.aiger_reader.proofs.Judging.{IsBuilt}

numbers_count : (first count : ℕ) → length (numbers_from first count) ≡ count
numbers_count first zero = refl
numbers_count first (suc count) = omega (arith, numbers_count (first + 1) count)

part_count : (from count : ℕ) (units : List (List ℕ)) → from + count ≤ length units → length (part from count units) ≡ count
part_count from count units le = omega (arith, length-take count (drop from units), length-drop from units)

module _ (unset : Unset) (header : Header) (units : List (List ℕ)) (literal : ℕ) (commented : Bool) (machine : PlainMachine) (has : HasParts unset header 0 units literal commented machine)
    (whole : sections_end header ≤ length units) where
  -- the inputs and how many they are
  record InputsFound : Type 0 where
    is : machine.inputs ≡ (machine_in unset header units).inputs
    count : length machine.inputs ≡ header.inputs

  inputs_found : Shape header → InputsFound
  inputs_found (ascii is from end) =
      let found : machine.inputs ≡ map input_of (part 0 header.inputs units) = subst (λ s. InputsAre s header 0 units machine.inputs) is has.inputs in
      record {
        is = found ∙ ap (λ s. inputs_in s header.inputs units) (sym is);
        count = ap length found ∙ length-map (part 0 header.inputs units) input_of ∙ part_count 0 header.inputs units (omega (arith, whole, from, end));
      }
  inputs_found (binary is from end) =
      let found : InputsAre Binary header 0 units machine.inputs = subst (λ s. InputsAre s header 0 units machine.inputs) is has.inputs in
      let all : machine.inputs ≡ numbers_from 1 header.inputs = found.1 (omega (arith, whole)) in
      record {
        is = all ∙ ap (λ s. inputs_in s header.inputs units) (sym is);
        count = ap length all ∙ numbers_count 1 header.inputs;
      }

  outputs_count : length machine.outputs ≡ header.outputs
  outputs_count = ap length has.outputs ∙ length-map (part (outputs_from header) header.outputs units) output_of ∙ part_count (outputs_from header) header.outputs units (omega (arith, whole))

  machine_with : ℕ → List ℕ → List PlainLatch → List PlainEquation → List PlainLiteral → List (Option (List ℕ)) → List (Option (List ℕ)) → PlainMachine
  machine_with nets inputs latches equations outputs input_names output_names =
      record { nets = nets; inputs = inputs; latches = latches; equations = equations; outputs = outputs; input_names = input_names; output_names = output_names }

  pub machine_is : machine ≡ machine_in unset header units
  unfolding machine_with
  machine_is =
      let found = inputs_found (shape header) in
      let i : machine.input_names ≡ names_in 105 header.inputs (symbols_in header units) = has.input_names ∙ ap (λ n. names_in 105 n (symbols_in header units)) found.count in
      let o : machine.output_names ≡ names_in 111 header.outputs (symbols_in header units) = has.output_names ∙ ap (λ n. names_in 111 n (symbols_in header units)) outputs_count in
      ap (λ n. machine_with n machine.inputs machine.latches machine.equations machine.outputs machine.input_names machine.output_names) has.nets
      ∙ ap (λ (x : List ℕ). machine_with header.variables x machine.latches machine.equations machine.outputs machine.input_names machine.output_names) found.is
      ∙ ap (λ (x : List PlainLatch). machine_with header.variables (machine_in unset header units).inputs x machine.equations machine.outputs machine.input_names machine.output_names) has.latches
      ∙ ap (λ (x : List PlainEquation). machine_with header.variables (machine_in unset header units).inputs
      (machine_in unset header units).latches x machine.outputs machine.input_names machine.output_names) has.equations
      ∙ ap (λ (x : List PlainLiteral). machine_with header.variables (machine_in unset header units).inputs (machine_in unset header units).latches
      (machine_in unset header units).equations x machine.input_names machine.output_names) has.outputs
      ∙ ap (λ (x : List (Option (List ℕ))). machine_with header.variables (machine_in unset header units).inputs (machine_in unset header units).latches
      (machine_in unset header units).equations (machine_in unset header units).outputs x machine.output_names) i
      ∙ ap (λ (x : List (Option (List ℕ))). machine_with header.variables (machine_in unset header units).inputs (machine_in unset header units).latches
      (machine_in unset header units).equations (machine_in unset header units).outputs (machine_in unset header units).input_names x) o

done : PlainMachine → Result PlainMachine AigerRefusal
done machine = Ok machine

body_is : (unset : Unset) (header : Header) (units : List (List ℕ)) (built : PlainBuilt) (bytes : ℕ) → built.place ≡ length units
    → HasParts unset header 0 units built.literal built.commented built.machine → machine_by (Some header) built bytes ≡ complete unset (Some header) units bytes
body_is unset header units built bytes place has =
    ap (λ n. cond (ltb n (sections_end header)) (Err (fault_at (end_place header.spelling (n + 1) bytes) causes.Truncated)) (Ok built.machine)) place
    ∙ elim (cases_lt (length units) (sections_end header)) [
      | inl lt ↦ let e : ltb (length units) (sections_end header) ≡ true = lt-ltb _ _ lt in rw e refl
      | inr ge ↦
          let e : ltb (length units) (sections_end header) ≡ false = le-ltb _ _ ge in
          rw e (ap (λ (m : PlainMachine). Ok m) (machine_is unset header units built.literal built.commented built.machine has ge))
    ]

-- what was built is the whole source
pub whole_is : (unset : Unset) (units : List (List ℕ)) (built : PlainBuilt) (bytes : ℕ) → IsBuilt unset units built → machine_by built.header built bytes ≡ whole_source unset units bytes
whole_is unset [] built bytes so_far = ap (λ (b : PlainBuilt). machine_by b.header b bytes) so_far
whole_is unset (first ∷ units) built bytes so_far =
    ap (λ (o : Option Header). machine_by o built bytes) so_far.tracked.kept
    ∙ body_is unset so_far.tracked.header units built bytes so_far.tracked.place so_far.parts ∙ sym (ap (λ (o : Option Header). complete unset o units bytes) so_far.tracked.header_is)
