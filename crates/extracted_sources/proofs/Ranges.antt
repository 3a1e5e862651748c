-- The parts of the text of a netlist within the limits are in range.
use Rattle.std.proofs.Common.{◌≡◌, ℕ, ◌+◌, ◌*◌, ◌≤◌, ltb, List, map, length, length-append, Some, None, refl, sym, ◌∙◌, ap, subst, inl, inr, arith}
use Rattle.std.proofs.lemmas.Bool.{cases_Bool, ltb-false}
use Rattle.std.proofs.lemmas.List.{length-map}
use Rattle.pulse_ids.specs.Lists.{IsIn}
use Rattle.pulse_ids.specs.Quantities.{greatest_of}
use Rattle.pulse_ids.specs.declared.quantities.Quantity.TheVariants as quantities
use Rattle.pulse_ids.proofs.CallerLemmas.{IsIn-append, IsIn-map, IsIn-from_map}
use Rattle.source_machine.specs.Machines.{PlainLiteral, literal_of}
use Rattle.cell_netlist.specs.LeanDecisions.{how_many}
use Rattle.cell_netlist.specs.Netlists.{PlainNetlist, wire_of}
use Rattle.netlist_extract.specs.declared.outlines.LatchPart.{LatchPart}
use Rattle.netlist_extract.specs.declared.outlines.AndPart.{AndPart}
use Rattle.netlist_extract.specs.Limits.{limit_of}
use Rattle.netlist_extract.specs.Outlines.{is_back, is_gate, wire_literal, latches_of, ands_of, outline_of}
use Rattle.netlist_extract.specs.Texts.{variables_in}
use Rattle.extracted_machines.specs.Machines.{numbers_from}
use Rattle.extracted_machines.proofs.CallerLemmas.{numbers-low, length-numbers, latch-variables, and-variables, literal-number, latch-numbers, and-numbers}
use Rattle.source_texts.specs.Parts.{IsVariable, IsLatchOf, IsAndOf, IsPosition, IsSymbolOf, AreInRange}
use Rattle.extracted_sources.specs.Sources.{source_latch, source_and, lettered, parts_of}
use Rattle.extracted_sources.specs.Laws.{IsExtracted}
use Rattle.extracted_sources.proofs.KeptNames.{IsKept, input_kept, input_few, output_kept, output_few, printable_lacks}

-- what passes none of three limits
pub record IsWithin (net : PlainNetlist) : Type 0 where
  pub outputs : length net.output_rails ≤ greatest_of quantities.Outputs
  pub latches : how_many is_back net.cells ≤ greatest_of quantities.Latches
  pub size : 3 * how_many is_gate net.cells ≤ greatest_of quantities.Size

within : (net : PlainNetlist) → limit_of net ≡ None → IsWithin net
within net none = elim (cases_Bool (ltb (greatest_of quantities.Outputs) (length net.output_rails))) [
  | inl over ↦ let e : Some quantities.Outputs ≡ None = rw over at none in absurd cc
  | inr outputs ↦
      elim (cases_Bool (ltb (greatest_of quantities.Latches) (how_many is_back net.cells))) [
        | inl over ↦ let e : Some quantities.Latches ≡ None = rw (outputs, over) at none in absurd cc
        | inr latches ↦
            elim (cases_Bool (ltb (greatest_of quantities.Size) (3 * how_many is_gate net.cells))) [
              | inl over ↦ let e : Some quantities.Size ≡ None = rw (outputs, latches, over) at none in absurd cc
              | inr size ↦ record {
                outputs = ltb-false (greatest_of quantities.Outputs) (length net.output_rails) outputs;
                latches = ltb-false (greatest_of quantities.Latches) (how_many is_back net.cells) latches;
                size = ltb-false (greatest_of quantities.Size) (3 * how_many is_gate net.cells) size;
              }
            ]
      ]
]

module _ (net : PlainNetlist) (is : IsExtracted net) where
  latches_count : length (latches_of net) ≡ how_many is_back net.cells
  latches_count =
      sym (length-map (latches_of net) (λ (latch : LatchPart). latch.variable.number)) ∙ ap length (latch-variables net)
      ∙ length-numbers (net.inputs + 1) (how_many is_back net.cells)

  ands_count : length (ands_of net) ≡ how_many is_gate net.cells
  ands_count =
      sym (length-map (ands_of net) (λ (and : AndPart). and.variable.number)) ∙ ap length (and-variables net)
      ∙ length-numbers (net.inputs + 1 + how_many is_back net.cells) (how_many is_gate net.cells)

  abbrev variables : ℕ
  variables = variables_in (outline_of net)

  input_here : (n : ℕ) → IsIn n (numbers_from 1 net.inputs) → IsVariable variables n
  input_here n i = let low = numbers-low 1 net.inputs n i in (omega (arith, low.0), omega (arith, low.1))

  latch_here : (latch : LatchPart) → IsIn latch (latches_of net) → IsLatchOf variables (source_latch latch)
  latch_here latch i =
      let among : IsIn latch.variable.number (numbers_from (net.inputs + 1) (how_many is_back net.cells)) =
      subst (IsIn latch.variable.number) (latch-variables net) (IsIn-map (λ (latch : LatchPart). latch.variable.number) latch (latches_of net) i) in
      let low = numbers-low (net.inputs + 1) (how_many is_back net.cells) latch.variable.number among in
      let next = latch-numbers net is.sound latch i in
      record { out = (omega (arith, low.0), omega (arith, low.1, latches_count)); next = omega (arith, next, latches_count, ands_count) }

  and_here : (and : AndPart) → IsIn and (ands_of net) → IsAndOf variables (source_and and)
  and_here and i =
      let among : IsIn and.variable.number (numbers_from (net.inputs + 1 + how_many is_back net.cells) (how_many is_gate net.cells)) =
      subst (IsIn and.variable.number) (and-variables net) (IsIn-map (λ (and : AndPart). and.variable.number) and (ands_of net) i) in
      let low = numbers-low (net.inputs + 1 + how_many is_back net.cells) (how_many is_gate net.cells) and.variable.number among in
      let both = and-numbers net is.sound and i in
      record {
        net = (omega (arith, low.0), omega (arith, low.1, latches_count, ands_count));
        left = omega (arith, both.0, latches_count, ands_count);
        right = omega (arith, both.1, latches_count, ands_count);
      }

  output_here : (literal : PlainLiteral) → IsIn literal (map literal_of (outline_of net).outputs) → literal.net ≤ variables
  output_here literal i =
      let of = IsIn-from_map literal_of literal (outline_of net).outputs i in
      let from = IsIn-from_map (λ rail. wire_literal net (wire_of rail)) of.0 net.output_rails of.1 in
      let low = literal-number net is.sound (wire_of from.0) in
      let there : (wire_literal net (wire_of from.0)).id.number ≤ variables = omega (arith, low, latches_count, ands_count) in
      subst (λ (l : PlainLiteral). l.net ≤ variables) of.2 (subst (λ l. l.id.number ≤ variables) from.2 there)

  kept_symbol : (letter : ℕ) (named : ℕ × List ℕ) → IsKept named → IsPosition (parts_of (outline_of net)) letter named.0 → IsSymbolOf (parts_of (outline_of net)) (lettered letter named)
  kept_symbol letter named kept position = record {
    position = position;
    not_empty = kept.name.not_empty;
    not_long = kept.name.not_long;
    no_line_feed = printable_lacks 10 (omega arith) named.1 kept.printable;
    no_return = printable_lacks 13 (omega arith) named.1 kept.printable;
  }

  outputs_long : length (map literal_of (outline_of net).outputs) ≡ length net.output_rails
  outputs_long = length-map (outline_of net).outputs literal_of ∙ length-map net.output_rails (λ rail. wire_literal net (wire_of rail))

  symbol_here : (symbol : ℕ × ℕ × List ℕ) → IsIn symbol (parts_of (outline_of net)).symbols → IsSymbolOf (parts_of (outline_of net)) symbol
  symbol_here symbol i =
      elim (IsIn-append symbol (map (lettered 105) (outline_of net).input_symbols) (map (lettered 111) (outline_of net).output_symbols) i) [
        | inl j ↦
            let of = IsIn-from_map (lettered 105) symbol (outline_of net).input_symbols j in
            let kept = input_kept net.inputs net.input_names is.netlist.input_names of.0 of.1 in
            subst (IsSymbolOf (parts_of (outline_of net))) of.2
            (kept_symbol 105 of.0 kept.1 (inl (refl, omega (arith, kept.0, length-numbers 1 net.inputs))))
        | inr j ↦
            let of = IsIn-from_map (lettered 111) symbol (outline_of net).output_symbols j in
            let kept = output_kept net.outputs net.output_names is.netlist.output_names net.output_rails of.0 of.1 in
            subst (IsSymbolOf (parts_of (outline_of net))) of.2 (kept_symbol 111 of.0 kept.1 (inr (refl, omega (arith, kept.0, outputs_long))))
      ]

  symbols_few : length (parts_of (outline_of net)).symbols ≤ greatest_of quantities.Inputs + greatest_of quantities.Outputs
  symbols_few =
      let limits = within net is.within in
      let ins = (outline_of net).input_symbols in
      let outs = (outline_of net).output_symbols in
      let i = input_few net.inputs net.input_names is.netlist.input_names in
      let o = output_few net.outputs net.output_names is.netlist.output_names 0 net.output_rails in
      omega (
        arith,
        i,
        o,
        limits.outputs,
        is.inputs,
        length-append (map (lettered 105) ins) (map (lettered 111) outs),
        length-map ins (lettered 105),
        length-map outs (lettered 111),
      )

  pub parts_in_range : AreInRange (parts_of (outline_of net))
  parts_in_range =
      let limits = within net is.within in
      let inputs = length-numbers 1 net.inputs in
      let latches = length-map (latches_of net) source_latch in
      let ands = length-map (ands_of net) source_and in
      record {
        variables = omega (arith, is.inputs, limits.latches, limits.size, latches_count, ands_count);
        sum = omega (arith, inputs, latches, ands);
        inputs = omega (arith, inputs, is.inputs);
        latches = omega (arith, latches, latches_count, limits.latches);
        outputs = omega (arith, outputs_long, limits.outputs);
        size = omega (arith, ands, ands_count, limits.size);
        symbols = symbols_few;
        each_input = input_here;
        each_latch = λ latch i. let of = IsIn-from_map source_latch latch (latches_of net) i in subst (IsLatchOf variables) of.2 (latch_here of.0 of.1);
        each_output = output_here;
        each_and = λ and i. let of = IsIn-from_map source_and and (ands_of net) i in subst (IsAndOf variables) of.2 (and_here of.0 of.1);
        each_symbol = symbol_here;
      }
