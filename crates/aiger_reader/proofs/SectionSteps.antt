-- One more unit of each section.
use Rattle.std.proofs.Common.{◌≡◌, ℕ, suc, ◌+◌, ◌-◌, ◌*◌, ◌/◌, ◌%◌, ◌<◌, ◌≤◌, Bool, true, false, cond, List, [], ◌∷◌, ◌++◌, length, take, drop, get_or, map, Option, None, refl, sym, ap, subst, ◌∙◌, ◌⊎◌, inl, inr, arith}
use Rattle.std.proofs.lemmas.List.{length_push, length-drop, length-take, take_all, drop-append-le, get_or-drop, map_push}
use Rattle.source_machine.specs.declared.unset.Unset.{Unset}
use Rattle.source_machine.specs.Machines.{PlainMachine, PlainLatch, PlainLiteral, PlainEquation}
use Rattle.source_machine.proofs.CallerLemmas.{length-last}
use Rattle.aiger_reader.specs.declared.headers.Spelling.TheVariants.{Ascii, Binary}
use Rattle.aiger_reader.specs.declared.headers.Header.{Header}
use Rattle.aiger_reader.specs.declared.sections.Section.{Section}
use Rattle.aiger_reader.specs.declared.sections.Section.TheVariants.{Inputs, Latches, Outputs, Ands, FirstDeltas, SecondDeltas, Behind}
use Rattle.aiger_reader.specs.Units.{line_of}
use Rattle.aiger_reader.specs.LineChecks.{plain_and}
use Rattle.aiger_reader.specs.Deltas.{delta_value}
use Rattle.aiger_reader.specs.Symbols.{begins_comment, symbol_in, named_by}
use Rattle.aiger_reader.specs.Sections.{and_units, latches_from, outputs_from, ands_from, sections_end, section_of, any_comment, is_commented, last_of, literal_after, and_left, delta_left}
use Rattle.aiger_reader.specs.Machines.{part, input_of, latch_in, latches_in, output_of, and_of, and_by, ands_by, ands_in, uncommented, symbols_in, names_in}
use Rattle.aiger_reader.specs.Building.{PlainBuilt, unit_added, with_symbol}
use Rattle.aiger_reader.proofs.Places.{Shape, ascii, binary, shape, Stands, in_inputs, in_latches, in_outputs, in_ands, in_first, in_second, behind}
use Rattle.aiger_reader.proofs.PartLemmas.{part_more, part_before, part_past, latches_more, ands_first, ands_second, comment_more, uncommented_more, names_more, names_line}
use Rattle.aiger_reader.proofs.SectionParts.{InputsAre, HasParts, no_symbols, no_comment, Follows, second_follows, last_push}

length_part : (from count : ℕ) (units : List (List ℕ)) → length units ≤ from + count → length (part from count units) ≡ length units - from
length_part from count units le = omega (arith, length-take count (drop from units), length-drop from units)

-- a list that isn't empty ends in its last item
split_last : (xs : List (List ℕ)) → 0 < length xs → xs ≡ take (length xs - 1) xs ++ last_of xs ∷ []
split_last [] some = absurd (omega arith)
split_last (x ∷ []) some = refl
split_last (x ∷ y ∷ xs) some =
    let rest = split_last (y ∷ xs) (omega arith) in
    let at : length (x ∷ y ∷ xs) - 1 ≡ suc (length (y ∷ xs) - 1) = omega arith in
    ap (λ (l : List (List ℕ)). x ∷ l) rest ∙ ap (λ n. take n (x ∷ y ∷ xs) ++ get_or (x ∷ y ∷ xs) n [] ∷ []) (sym at)

last_part : (from count : ℕ) (units : List (List ℕ)) → from < length units → length units ≤ from + count → last_of (part from count units) ≡ last_of units
last_part from count units lt le =
    let whole : part from count units ≡ drop from units = take_all count (drop from units) (omega (arith, length-drop from units)) in
    let at : from + (length (drop from units) - 1) ≡ length units - 1 = omega (arith, length-drop from units) in
    ap last_of whole ∙ get_or-drop from units (length (drop from units) - 1) [] ∙ ap (λ n. get_or units n []) at

module _ (unset : Unset) (header : Header) (units : List (List ℕ)) (unit : List ℕ) (built : PlainBuilt) (place : built.place ≡ length units)
    (has : HasParts unset header 0 units built.literal built.commented built.machine) where
  -- a state with what a unit of this section says
  abbrev after : Section → PlainBuilt
  after section = unit_added unset header built unit section

  inputs_stay : Shape header → latches_from header ≤ length units → InputsAre header.spelling header 1 (units ++ unit ∷ []) built.machine.inputs
  inputs_stay (ascii is from end) ge =
      let was : built.machine.inputs ≡ map input_of (part 0 header.inputs units) = subst (λ s. InputsAre s header 0 units built.machine.inputs) is has.inputs in
      subst (λ s. InputsAre s header 1 (units ++ unit ∷ []) built.machine.inputs) (sym is) (was ∙ ap (map input_of) (sym (part_past 0 header.inputs units unit (omega (arith, from, ge)))))
  inputs_stay (binary is from end) ge =
      let was : InputsAre Binary header 0 units built.machine.inputs = subst (λ s. InputsAre s header 0 units built.machine.inputs) is has.inputs in
      subst (λ s. InputsAre s header 1 (units ++ unit ∷ []) built.machine.inputs) (sym is)
      (λ lt. was.0 (omega (arith, lt, length_push units unit)), λ le. was.1 (omega (arith, le, length_push units unit)))

  latches_stay : (length units < latches_from header) ⊎ (outputs_from header ≤ length units)
      → built.machine.latches ≡ latches_in unset header (latches_from header) (part (latches_from header) header.latches (units ++ unit ∷ []))
  latches_stay (inl lt) = has.latches ∙ ap (latches_in unset header (latches_from header)) (sym (part_before (latches_from header) header.latches units unit lt))
  latches_stay (inr ge) = has.latches ∙ ap (latches_in unset header (latches_from header)) (sym (part_past (latches_from header) header.latches units unit ge))

  outputs_stay : (length units < outputs_from header) ⊎ (ands_from header ≤ length units) → built.machine.outputs ≡ map output_of (part (outputs_from header) header.outputs (units ++ unit ∷ []))
  outputs_stay (inl lt) = has.outputs ∙ ap (map output_of) (sym (part_before (outputs_from header) header.outputs units unit lt))
  outputs_stay (inr ge) = has.outputs ∙ ap (map output_of) (sym (part_past (outputs_from header) header.outputs units unit ge))

  ands_stay : (length units < ands_from header) ⊎ (sections_end header ≤ length units)
      → built.machine.equations ≡ ands_in header header.spelling (part (ands_from header) (and_units header.spelling header.ands) (units ++ unit ∷ []))
  ands_stay (inl lt) = has.equations ∙ ap (ands_in header header.spelling) (sym (part_before (ands_from header) (and_units header.spelling header.ands) units unit lt))
  ands_stay (inr ge) = has.equations ∙ ap (ands_in header header.spelling) (sym (part_past (ands_from header) (and_units header.spelling header.ands) units unit ge))

  silent : length units < sections_end header → symbols_in header units ≡ symbols_in header (units ++ unit ∷ [])
  silent lt = no_symbols header units (omega arith) ∙ sym (no_symbols header (units ++ unit ∷ []) (omega (arith, length_push units unit)))

  still : length units < sections_end header → built.commented ≡ is_commented header (units ++ unit ∷ [])
  still lt = has.commented_is ∙ no_comment header units (omega arith) ∙ sym (no_comment header (units ++ unit ∷ []) (omega (arith, length_push units unit)))

  -- no unit of another section than first deltas stands before a second delta
  not_second : (Follows header (length units) → ⊥) → section_of header (length (units ++ unit ∷ [])) ≡ SecondDeltas → built.literal ≡ literal_after header (units ++ unit ∷ [])
  not_second never e = absurd (never (second_follows header units unit e))

  input_parts : length units < latches_from header → Shape header → HasParts unset header 1 (units ++ unit ∷ []) built.literal built.commented (after Inputs).machine
  input_parts lt (binary is from end) = absurd (omega (arith, lt, from))
  input_parts lt (ascii is from end) =
      let was : built.machine.inputs ≡ map input_of (part 0 header.inputs units) = subst (λ s. InputsAre s header 0 units built.machine.inputs) is has.inputs in
      let more : part 0 header.inputs (units ++ unit ∷ []) ≡ part 0 header.inputs units ++ unit ∷ [] = part_more 0 header.inputs units unit (omega arith) (omega (arith, lt, from)) in
      let none : symbols_in header units ≡ [] = no_symbols header units (omega (arith, lt)) in
      let none_now : symbols_in header (units ++ unit ∷ []) ≡ [] = no_symbols header (units ++ unit ∷ []) (omega (arith, lt, length_push units unit)) in
      record {
        nets = has.nets;
        literal_is = not_second (λ f. omega (arith, f.ge, lt));
        commented_is = still (omega (arith, lt));
        inputs = subst (λ s. InputsAre s header 1 (units ++ unit ∷ []) (after Inputs).machine.inputs) (sym is)
            (ap (λ (ns : List ℕ). ns ++ input_of unit ∷ []) was ∙ sym (map_push input_of (part 0 header.inputs units) unit) ∙ ap (map input_of) (sym more));
        latches = latches_stay (inl lt);
        equations = ands_stay (inl (omega (arith, lt)));
        outputs = outputs_stay (inl (omega (arith, lt)));
        input_names = ap (λ (ns : List (Option (List ℕ))). ns ++ None ∷ []) (has.input_names ∙ ap (names_in 105 (length built.machine.inputs)) none)
            ∙ sym (names_more 105 (length built.machine.inputs))
            ∙ ap (λ n. names_in 105 n []) (sym (length-last built.machine.inputs (input_of unit))) ∙ ap (names_in 105 (length (built.machine.inputs ++ input_of unit ∷ []))) (sym none_now);
        output_names = has.output_names ∙ ap (names_in 111 (length built.machine.outputs)) (silent (omega (arith, lt)));
      }

  latch_parts : latches_from header ≤ length units → length units < outputs_from header → HasParts unset header 1 (units ++ unit ∷ []) built.literal built.commented (after Latches).machine
  latch_parts ge lt =
      let more = part_more (latches_from header) header.latches units unit ge lt in
      let at : latches_from header + length (part (latches_from header) header.latches units) ≡ built.place = omega
      (arith, length_part (latches_from header) header.latches units (omega (arith, lt)), ge, place) in
      record {
        nets = has.nets;
        literal_is = not_second (λ f. omega (arith, f.ge, lt));
        commented_is = still (omega (arith, lt));
        inputs = inputs_stay (shape header) ge;
        latches = ap (λ (ls : List PlainLatch). ls ++ latch_in unset header built.place unit ∷ []) has.latches
            ∙ ap (λ p. latches_in unset header (latches_from header) (part (latches_from header) header.latches units) ++ latch_in unset header p unit ∷ []) (sym at)
            ∙ sym (latches_more unset header (latches_from header) (part (latches_from header) header.latches units) unit) ∙ ap (latches_in unset header (latches_from header)) (sym more);
        equations = ands_stay (inl (omega (arith, lt)));
        outputs = outputs_stay (inl lt);
        input_names = has.input_names ∙ ap (names_in 105 (length built.machine.inputs)) (silent (omega (arith, lt)));
        output_names = has.output_names ∙ ap (names_in 111 (length built.machine.outputs)) (silent (omega (arith, lt)));
      }

  output_parts : outputs_from header ≤ length units → length units < ands_from header → HasParts unset header 1 (units ++ unit ∷ []) built.literal built.commented (after Outputs).machine
  output_parts ge lt =
      let more = part_more (outputs_from header) header.outputs units unit ge lt in
      let none : symbols_in header units ≡ [] = no_symbols header units (omega (arith, lt)) in
      let none_now : symbols_in header (units ++ unit ∷ []) ≡ [] = no_symbols header (units ++ unit ∷ []) (omega (arith, lt, length_push units unit)) in
      record {
        nets = has.nets;
        literal_is = not_second (λ f. omega (arith, f.ge, lt));
        commented_is = still (omega (arith, lt));
        inputs = inputs_stay (shape header) (omega (arith, ge));
        latches = latches_stay (inr ge);
        equations = ands_stay (inl lt);
        outputs = ap (λ (os : List PlainLiteral). os ++ output_of unit ∷ []) has.outputs ∙ sym (map_push output_of (part (outputs_from header) header.outputs units) unit)
            ∙ ap (map output_of) (sym more);
        input_names = has.input_names ∙ ap (names_in 105 (length built.machine.inputs)) (silent (omega (arith, lt)));
        output_names = ap (λ (ns : List (Option (List ℕ))). ns ++ None ∷ []) (has.output_names ∙ ap (names_in 111 (length built.machine.outputs)) none)
            ∙ sym (names_more 111 (length built.machine.outputs))
            ∙ ap (λ n. names_in 111 n []) (sym (length-last built.machine.outputs (output_of unit))) ∙ ap (names_in 111 (length (built.machine.outputs ++ output_of unit ∷ []))) (sym none_now);
      }

  -- the units of conjunctions with this one
  and_more : ands_from header ≤ length units → length units < sections_end header
      → part (ands_from header) (and_units header.spelling header.ands) (units ++ unit ∷ []) ≡ part (ands_from header) (and_units header.spelling header.ands) units ++ unit ∷ []
  and_more ge lt = part_more (ands_from header) (and_units header.spelling header.ands) units unit ge lt

  abbrev gates : List (List ℕ)
  gates = part (ands_from header) (and_units header.spelling header.ands) units

  -- a machine with these equations
  gate_parts : (equations : List PlainEquation) (literal : ℕ) → ands_from header ≤ length units → length units < sections_end header
      → (section_of header (length (units ++ unit ∷ [])) ≡ SecondDeltas → literal ≡ literal_after header (units ++ unit ∷ []))
      → equations ≡ ands_in header header.spelling (part (ands_from header) (and_units header.spelling header.ands) (units ++ unit ∷ []))
      → HasParts unset header 1 (units ++ unit ∷ []) literal built.commented (record built.machine { equations = equations })
  gate_parts equations literal ge lt literal_is is = record {
    nets = has.nets;
    literal_is = literal_is;
    commented_is = still lt;
    inputs = inputs_stay (shape header) (omega (arith, ge));
    latches = latches_stay (inr (omega (arith, ge)));
    equations = is;
    outputs = outputs_stay (inr ge);
    input_names = has.input_names ∙ ap (names_in 105 (length built.machine.inputs)) (silent lt);
    output_names = has.output_names ∙ ap (names_in 111 (length built.machine.outputs)) (silent lt);
  }

  and_parts : header.spelling ≡ Ascii → ands_from header ≤ length units → length units < sections_end header
      → HasParts unset header 1 (units ++ unit ∷ []) built.literal built.commented (after Ands).machine
  and_parts s ge lt =
      gate_parts (built.machine.equations ++ and_of unit ∷ []) built.literal ge lt (not_second (λ f. let e = f.is in cc))
      (ap (λ (es : List PlainEquation). es ++ and_of unit ∷ []) (has.equations ∙ ap (λ s. ands_in header s gates) s) ∙ sym (map_push and_of gates unit) ∙ ap (map and_of) (sym (and_more ge lt))
      ∙ ap (λ s. ands_in header s (part (ands_from header) (and_units header.spelling header.ands) (units ++ unit ∷ []))) (sym s))

  count : ands_from header ≤ length units → length units < sections_end header → length gates ≡ length units - ands_from header
  count ge lt = length_part (ands_from header) (and_units header.spelling header.ands) units (omega (arith, lt))

  first_parts : header.spelling ≡ Binary → ands_from header ≤ length units → length units < sections_end header → (length units - ands_from header) % 2 ≡ 0
      → HasParts unset header 1 (units ++ unit ∷ []) (after FirstDeltas).literal built.commented built.machine
  first_parts s ge lt even =
      gate_parts built.machine.equations (after FirstDeltas).literal ge lt
      (λ e. let at : length (units ++ unit ∷ []) - 1 ≡ built.place = omega (arith, length_push units unit, place) in
      ap (λ p. delta_left header p - delta_value unit) (sym at) ∙ ap (λ (u : List ℕ). delta_left header (length (units ++ unit ∷ []) - 1) - delta_value u) (sym (last_push units unit)))
      (has.equations ∙ ap (λ s. ands_in header s gates) s ∙ sym (ands_first header 0 ((length units - ands_from header) / 2) gates unit (omega (arith, count ge lt, even)))
      ∙ ap (ands_by header 0) (sym (and_more ge lt))
      ∙ ap (λ s. ands_in header s (part (ands_from header) (and_units header.spelling header.ands) (units ++ unit ∷ []))) (sym s))

  second_gate : ands_from header ≤ length units → length units < sections_end header → (length units - ands_from header) % 2 ≡ 1
      → ands_by header 0 (gates ++ unit ∷ []) ≡ ands_by header 0 gates ++ and_by (and_left header ((length units - ands_from header) / 2)) (delta_value (last_of units)) (delta_value unit) ∷ []
  second_gate ge lt odd =
      let half : ℕ = (length units - ands_from header) / 2 in
      let some : 0 < length gates = omega (arith, count ge lt, odd) in
      let firsts : List (List ℕ) = take (length gates - 1) gates in
      let split : gates ≡ firsts ++ last_of gates ∷ [] = split_last gates some in
      let even : length firsts ≡ 2 * half = omega (arith, length-take (length gates - 1) gates, count ge lt, odd) in
      let last : last_of gates ≡ last_of units = last_part (ands_from header) (and_units header.spelling header.ands) units (omega (arith, odd)) (omega (arith, lt)) in
      let zero_half : 0 + half ≡ half = omega arith in
      ap (λ (l : List (List ℕ)). ands_by header 0 (l ++ unit ∷ [])) split ∙ ands_second header 0 half firsts (last_of gates) unit even
      ∙ ap (λ (l : List (List ℕ)). ands_by header 0 l ++ and_by (and_left header (0 + half)) (delta_value (last_of gates)) (delta_value unit) ∷ []) (sym split)
      ∙ ap (λ n. ands_by header 0 gates ++ and_by (and_left header n) (delta_value (last_of gates)) (delta_value unit) ∷ []) zero_half
      ∙ ap (λ (u : List ℕ). ands_by header 0 gates ++ and_by (and_left header half) (delta_value u) (delta_value unit) ∷ []) last

  second_parts : header.spelling ≡ Binary → ands_from header ≤ length units → length units < sections_end header → (length units - ands_from header) % 2 ≡ 1
      → section_of header (length units) ≡ SecondDeltas
      → HasParts unset header 1 (units ++ unit ∷ []) built.literal built.commented (after SecondDeltas).machine
  second_parts s ge lt odd section =
      let half : ℕ = (length units - ands_from header) / 2 in
      let left : delta_left header built.place ≡ and_left header half = ap (λ p. and_left header ((p - ands_from header) / 2)) place in
      let back : (length units - 1 - ands_from header) / 2 ≡ half = omega (arith, odd) in
      let first : built.literal ≡ and_left header half - delta_value (last_of units) = has.literal_is section ∙ ap (λ n. and_left header n - delta_value (last_of units)) back in
      let gate : plain_and (delta_left header built.place, built.literal, built.literal - delta_value unit) ≡ and_by (and_left header half) (delta_value (last_of units)) (delta_value unit)
      = ap (λ n. plain_and (n, built.literal, built.literal - delta_value unit)) left ∙ ap (λ n. plain_and (and_left header half, n, n - delta_value unit)) first in
      gate_parts (built.machine.equations ++ plain_and (delta_left header built.place, built.literal, built.literal - delta_value unit) ∷ []) built.literal ge lt
      (not_second (λ f. omega (arith, f.even, odd)))
      (ap (λ (es : List PlainEquation). es ++ plain_and (delta_left header built.place, built.literal, built.literal - delta_value unit) ∷ []) (has.equations ∙ ap (λ s. ands_in header s gates) s)
      ∙ ap (λ (e : PlainEquation). ands_by header 0 gates ++ e ∷ []) gate ∙ sym (second_gate ge lt odd) ∙ ap (ands_by header 0) (sym (and_more ge lt))
      ∙ ap (λ s. ands_in header s (part (ands_from header) (and_units header.spelling header.ands) (units ++ unit ∷ []))) (sym s))

  -- the lines behind the sections with this one
  lines_more : sections_end header ≤ length units → drop (sections_end header) (units ++ unit ∷ []) ≡ drop (sections_end header) units ++ unit ∷ []
  lines_more ge = drop-append-le (sections_end header) units (unit ∷ []) ge

  comment_now : sections_end header ≤ length units → is_commented header (units ++ unit ∷ []) ≡ cond built.commented true (begins_comment (line_of unit))
  comment_now ge = ap any_comment (lines_more ge) ∙ comment_more (drop (sections_end header) units) unit ∙ ap (λ c. cond c true (begins_comment (line_of unit))) (sym has.commented_is)

  symbols_now : sections_end header ≤ length units → symbols_in header (units ++ unit ∷ []) ≡ cond built.commented (symbols_in header units) (cond (begins_comment (line_of unit))
      (symbols_in header units) (symbols_in header units ++ line_of unit ∷ []))
  symbols_now ge = ap uncommented (lines_more ge) ∙ uncommented_more (drop (sections_end header) units) unit
      ∙ ap (λ c. cond c (symbols_in header units) (cond (begins_comment (line_of unit)) (symbols_in header units) (symbols_in header units ++ line_of unit ∷ []))) (sym has.commented_is)

  -- a machine with these names
  name_parts : sections_end header ≤ length units → (commented : Bool) (machine : PlainMachine) → commented ≡ is_commented header (units ++ unit ∷ []) → machine.nets ≡ built.machine.nets
      → machine.inputs ≡ built.machine.inputs → machine.latches ≡ built.machine.latches
      → machine.equations ≡ built.machine.equations → machine.outputs ≡ built.machine.outputs
      → machine.input_names ≡ names_in 105 (length built.machine.inputs) (symbols_in header (units ++ unit ∷ []))
      → machine.output_names ≡ names_in 111 (length built.machine.outputs) (symbols_in header (units ++ unit ∷ [])) → HasParts unset header 1 (units ++ unit ∷ []) built.literal commented machine
  name_parts ge commented machine told nets inputs latches equations outputs input_names output_names = record {
    nets = nets ∙ has.nets;
    literal_is = not_second (λ f. omega (arith, f.lt, ge));
    commented_is = told;
    inputs = subst (InputsAre header.spelling header 1 (units ++ unit ∷ [])) (sym inputs) (inputs_stay (shape header) (omega (arith, ge)));
    latches = latches ∙ latches_stay (inr (omega (arith, ge)));
    equations = equations ∙ ands_stay (inr ge);
    outputs = outputs ∙ outputs_stay (inr (omega (arith, ge)));
    input_names = input_names ∙ ap (λ (ns : List ℕ). names_in 105 (length ns) (symbols_in header (units ++ unit ∷ []))) (sym inputs);
    output_names = output_names ∙ ap (λ (os : List PlainLiteral). names_in 111 (length os) (symbols_in header (units ++ unit ∷ []))) (sym outputs);
  }

  silent_parts : sections_end header ≤ length units → (commented : Bool) → commented ≡ is_commented header (units ++ unit ∷ [])
      → symbols_in header (units ++ unit ∷ []) ≡ symbols_in header units → HasParts unset header 1 (units ++ unit ∷ []) built.literal commented built.machine
  silent_parts ge commented told same =
      name_parts ge commented built.machine told refl refl refl refl refl (has.input_names ∙ ap (names_in 105 (length built.machine.inputs)) (sym same))
      (has.output_names ∙ ap (names_in 111 (length built.machine.outputs)) (sym same))

  behind_by : (ge : sections_end header ≤ length units) (commented begins : Bool) → built.commented ≡ commented → begins_comment (line_of unit) ≡ begins
      → HasParts unset header 1 (units ++ unit ∷ []) (cond commented built
      (cond begins (record built { commented = true }) (record built { machine = with_symbol built.machine (symbol_in (line_of unit)) }))).literal
      (cond commented built (cond begins (record built { commented = true }) (record built { machine = with_symbol built.machine (symbol_in (line_of unit)) }))).commented
      (cond commented built (cond begins (record built { commented = true }) (record built { machine = with_symbol built.machine (symbol_in (line_of unit)) }))).machine
  behind_by ge true begins c b =
      silent_parts ge built.commented (c ∙ sym (comment_now ge ∙ ap (λ c. cond c true (begins_comment (line_of unit))) c))
      (symbols_now ge ∙ ap (λ c. cond c (symbols_in header units) (cond (begins_comment (line_of unit)) (symbols_in header units) (symbols_in header units ++ line_of unit ∷ []))) c)
  behind_by ge false true c b =
      silent_parts ge true (sym (comment_now ge ∙ rw (c, b) refl)) (symbols_now ge ∙ rw (c, b) refl)
  behind_by ge false false c b =
      let symbols : symbols_in header (units ++ unit ∷ []) ≡ symbols_in header units ++ line_of unit ∷ [] = symbols_now ge ∙ rw (c, b) refl in
      name_parts ge built.commented (with_symbol built.machine (symbol_in (line_of unit))) (c ∙ sym (comment_now ge ∙ rw (c, b) refl)) refl refl refl refl refl
      (ap (named_by 105 (symbol_in (line_of unit))) has.input_names ∙ sym (names_line 105 (length built.machine.inputs) (symbols_in header units) (line_of unit))
      ∙ ap (names_in 105 (length built.machine.inputs)) (sym symbols))
      (ap (named_by 111 (symbol_in (line_of unit))) has.output_names ∙ sym (names_line 111 (length built.machine.outputs) (symbols_in header units) (line_of unit))
      ∙ ap (names_in 111 (length built.machine.outputs)) (sym symbols))

  -- a unit of any section
  pub parts_more : (section : Section) → Stands header (length units) section → section_of header (length units) ≡ section
      → HasParts unset header 1 (units ++ unit ∷ []) (after section).literal (after section).commented (after section).machine
  parts_more Inputs (in_inputs lt) is = input_parts lt (shape header)
  parts_more Latches (in_latches ge lt) is = latch_parts ge lt
  parts_more Outputs (in_outputs ge lt) is = output_parts ge lt
  parts_more Ands (in_ands s ge lt) is = and_parts s ge lt
  parts_more FirstDeltas (in_first s ge lt even) is = first_parts s ge lt even
  parts_more SecondDeltas (in_second s ge lt odd) is = second_parts s ge lt odd is
  parts_more Behind (behind ge) is = behind_by ge built.commented (begins_comment (line_of unit)) refl refl
