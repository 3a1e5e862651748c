-- The lines of a text tell the machine of its parts.
use Rattle.std.proofs.Common.{◌≡◌, ℕ, ◌+◌, ◌*◌, ◌/◌, ◌%◌, Bool, true, false, cond, eqb, List, [], ◌∷◌, ◌++◌, length, length-append, map, take, drop, decimal, Option, Some, None, unwrap_or}
use Rattle.std.proofs.Common.{refl, sym, ◌∙◌, ap, inl, inr, arith}
use Rattle.std.specs.Option.{option_or}
use Rattle.std.proofs.lemmas.Bool.{eq-eqb, ne_eqb}
use Rattle.std.proofs.lemmas.List.{append_assoc, length-map}
use Rattle.pulse_ids.specs.Lists.{IsIn}
use Rattle.pulse_ids.specs.Literals.{code_of}
use Rattle.source_machine.specs.Machines.{PlainLiteral, PlainLatch, PlainEquation, PlainMachine}
use Rattle.source_machine.specs.declared.unset.Unset.{Unset}
use Rattle.aiger_reader.specs.Numbers.{numbers_of, one_of, two_or_three_of, three_of}
use Rattle.aiger_reader.specs.Units.{line_of}
use Rattle.aiger_reader.specs.LineChecks.{plain_literal, plain_latch, plain_and}
use Rattle.aiger_reader.specs.Symbols.{begins_comment, name_by, name_in}
use Rattle.aiger_reader.specs.Machines.{numbers_from, input_of, output_of, and_of, latches_in, uncommented, machine_in}
use Rattle.source_texts.specs.Parts.{SourceLatch, SourceAnd, SourceParts, AreInRange, IsSymbolOf, latch_from, equation_from, name_given, machine_from}
use Rattle.source_texts.specs.Texts.{literal_code, input_numbers, reset_numbers, latch_numbers, output_numbers, and_numbers}
use Rattle.source_texts.proofs.Lists.{middle, drop_front, take_front, map_both, map_back, map_same}
use Rattle.source_texts.proofs.WordLines.{line_numbers}
use Rattle.source_texts.proofs.SymbolLines.{symbol_line_is, symbol_back, not_comment}
use Rattle.source_texts.proofs.TextHeader.{header_of, inputs_end, latches_end, outputs_end, ands_end}
use Rattle.source_texts.proofs.RightLines.{input_small, latch_small, output_small, and_small, few_variables, input_unit, latch_unit, output_unit, and_unit, symbol_unit, body_units}

abbrev literal_with : ℕ → Bool → PlainLiteral
literal_with net negated = record { net = net; negated = negated }

-- a literal's number tells it
code_back : (net : ℕ) (negated : Bool) → plain_literal (code_of net negated) ≡ literal_with net negated
code_back net false =
    let half : 2 * net / 2 ≡ net = omega arith in
    let parity : eqb (2 * net % 2) 1 ≡ false = ne_eqb (2 * net % 2) 1 (λ e. omega (arith, e)) in
    ap (λ n. literal_with n (eqb (2 * net % 2) 1)) half ∙ ap (literal_with net) parity
code_back net true =
    let half : (2 * net + 1) / 2 ≡ net = omega arith in
    let parity : eqb ((2 * net + 1) % 2) 1 ≡ true = eq-eqb ((2 * net + 1) % 2) 1 (omega arith) in
    ap (λ n. literal_with n (eqb ((2 * net + 1) % 2) 1)) half ∙ ap (literal_with net) parity

literal_back : (literal : PlainLiteral) → plain_literal (literal_code literal) ≡ literal
literal_back literal = code_back literal.net literal.negated

half_even : (net : ℕ) → 2 * net / 2 ≡ net
half_even net = omega arith

abbrev latch_with : ℕ → Bool → PlainLiteral → PlainLatch
latch_with out init next = record { out = out; init = init; next = next }

abbrev equation_with : ℕ → PlainLiteral → PlainLiteral → PlainEquation
equation_with net left right = record { net = net; on = true; cubes = (left ∷ right ∷ []) ∷ [] }

reset_told : (unset : Unset) (left next : ℕ) (reset : Option Bool)
    → plain_latch unset (unwrap_or (two_or_three_of (Some (left ∷ next ∷ reset_numbers reset))) (0, 0, 0)) ≡ latch_with (left / 2) (unwrap_or reset false) (plain_literal next)
reset_told unset left next None = refl
reset_told unset left next (Some false) = refl
reset_told unset left next (Some true) = refl

-- machines of equal parts
abbrev machine_with : ℕ → List ℕ → List PlainLatch → List PlainEquation → List PlainLiteral → List (Option (List ℕ)) → List (Option (List ℕ)) → PlainMachine
machine_with nets inputs latches equations outputs input_names output_names = record {
  nets = nets;
  inputs = inputs;
  latches = latches;
  equations = equations;
  outputs = outputs;
  input_names = input_names;
  output_names = output_names;
}

pub machines_alike : (nets : ℕ) {i i' : List ℕ} {l l' : List PlainLatch} {e e' : List PlainEquation} {o o' : List PlainLiteral} {a a' b b' : List (Option (List ℕ))}
    → i ≡ i' → l ≡ l' → e ≡ e' → o ≡ o' → a ≡ a' → b ≡ b' → machine_with nets i l e o a b ≡ machine_with nets i' l' e' o' a' b'
machines_alike nets {i} {i'} {l} {l'} {e} {e'} {o} {o'} {a} {a'} {b} {b'} p q r s t u =
    ap (λ x. machine_with nets x l e o a b) p ∙ ap (λ x. machine_with nets i' x e o a b) q ∙ ap (λ x. machine_with nets i' l' x o a b) r
    ∙ ap (λ x. machine_with nets i' l' e' x a b) s ∙ ap (λ x. machine_with nets i' l' e' o' x b) t ∙ ap (machine_with nets i' l' e' o' a') u

module _ (parts : SourceParts) (right : AreInRange parts) where
  input_told : (net : ℕ) → IsIn net parts.inputs → input_of (input_unit net) ≡ net
  input_told net i =
      ap (λ numbers. unwrap_or (one_of numbers) 0 / 2) (line_numbers (input_numbers net) (input_small parts.variables (few_variables parts right) net (right.each_input net i)))
      ∙ half_even net

  latch_told : (unset : Unset) (latch : SourceLatch) → IsIn latch parts.latches
      → plain_latch unset (unwrap_or (two_or_three_of (numbers_of (line_of (latch_unit latch)))) (0, 0, 0)) ≡ latch_from latch
  latch_told unset latch i =
      ap (λ numbers. plain_latch unset (unwrap_or (two_or_three_of numbers) (0, 0, 0)))
      (line_numbers (latch_numbers latch) (latch_small parts.variables (few_variables parts right) latch (right.each_latch latch i)))
      ∙ reset_told unset (2 * latch.out) (literal_code latch.next) latch.reset
      ∙ ap (λ n. latch_with n (unwrap_or latch.reset false) (plain_literal (literal_code latch.next))) (half_even latch.out)
      ∙ ap (latch_with latch.out (unwrap_or latch.reset false)) (literal_back latch.next)

  latches_told : (unset : Unset) (place : ℕ) (latches : List SourceLatch) → ((latch : SourceLatch) → IsIn latch latches → IsIn latch parts.latches)
      → latches_in unset (header_of parts) place (map latch_unit latches) ≡ map latch_from latches
  latches_told unset place [] among = refl
  latches_told unset place (latch ∷ latches) among =
      ap (λ l. l ∷ latches_in unset (header_of parts) (place + 1) (map latch_unit latches)) (latch_told unset latch (among latch (inl refl)))
      ∙ ap (λ l. latch_from latch ∷ l) (latches_told unset (place + 1) latches (λ other i. among other (inr i)))

  output_told : (literal : PlainLiteral) → IsIn literal parts.outputs → output_of (output_unit literal) ≡ literal
  output_told literal i =
      ap (λ numbers. plain_literal (unwrap_or (one_of numbers) 0))
      (line_numbers (output_numbers literal) (output_small parts.variables (few_variables parts right) literal (right.each_output literal i)))
      ∙ literal_back literal

  and_told : (and : SourceAnd) → IsIn and parts.ands → and_of (and_unit and) ≡ equation_from and
  and_told and i =
      ap (λ numbers. plain_and (unwrap_or (three_of numbers) (0, 0, 0)))
      (line_numbers (and_numbers and) (and_small parts.variables (few_variables parts right) and (right.each_and and i)))
      ∙ ap (λ n. equation_with n (plain_literal (literal_code and.left)) (plain_literal (literal_code and.right))) (half_even and.net)
      ∙ ap (λ l. equation_with and.net l (plain_literal (literal_code and.right))) (literal_back and.left)
      ∙ ap (equation_with and.net and.left) (literal_back and.right)

  -- the names
  symbols_are : (symbols : List (ℕ × ℕ × List ℕ)) → ((symbol : ℕ × ℕ × List ℕ) → IsIn symbol symbols → IsSymbolOf parts symbol) → (letter place : ℕ)
      → name_in letter place (uncommented (map symbol_unit symbols)) ≡ name_given letter place symbols
  symbols_are [] each letter place = refl
  symbols_are (symbol ∷ symbols) each letter place =
      let is = each symbol (inl refl) in
      let body : List ℕ = symbol.0 ∷ (decimal symbol.1 ++ 32 ∷ symbol.2) in
      let line_here = symbol_line_is parts symbol is right.inputs right.outputs in
      let begins = not_comment parts symbol is right.inputs right.outputs in
      let head : uncommented (symbol_unit symbol ∷ map symbol_unit symbols) ≡ body ∷ uncommented (map symbol_unit symbols) =
      ap (λ (l : List ℕ). cond (begins_comment l) [] (l ∷ uncommented (map symbol_unit symbols))) line_here
      ∙ ap (λ (t : Bool). cond t [] (body ∷ uncommented (map symbol_unit symbols))) begins in
      ap (name_in letter place) head
      ∙ ap (λ said. option_or (name_by letter place said) (name_in letter place (uncommented (map symbol_unit symbols)))) (symbol_back parts symbol is right.inputs right.outputs)
      ∙ ap (option_or (name_by letter place (Some symbol))) (symbols_are symbols (λ other i. each other (inr i)) letter place)

  names_told : (letter count : ℕ) → map (λ place. name_in letter place (uncommented (map symbol_unit parts.symbols))) (numbers_from 0 count)
      ≡ map (λ place. name_given letter place parts.symbols) (numbers_from 0 count)
  names_told letter count =
      map_same (λ place. name_in letter place (uncommented (map symbol_unit parts.symbols))) (λ place. name_given letter place parts.symbols) (numbers_from 0 count)
      (symbols_are parts.symbols right.each_symbol letter)

  abbrev pub inputs_here : List (List ℕ)
  inputs_here = map input_unit parts.inputs

  abbrev pub latches_here : List (List ℕ)
  latches_here = map latch_unit parts.latches

  abbrev pub outputs_here : List (List ℕ)
  outputs_here = map output_unit parts.outputs

  abbrev pub ands_here : List (List ℕ)
  ands_here = map and_unit parts.ands

  abbrev pub symbols_here : List (List ℕ)
  symbols_here = map symbol_unit parts.symbols

  inputs_long : length inputs_here ≡ inputs_end parts
  inputs_long = length-map parts.inputs input_unit

  latches_long : length (inputs_here ++ latches_here) ≡ latches_end parts
  latches_long = omega (arith, length-append inputs_here latches_here, inputs_long, length-map parts.latches latch_unit)

  outputs_long : length ((inputs_here ++ latches_here) ++ outputs_here) ≡ outputs_end parts
  outputs_long = omega (arith, length-append (inputs_here ++ latches_here) outputs_here, latches_long, length-map parts.outputs output_unit)

  pub ands_long : length (((inputs_here ++ latches_here) ++ outputs_here) ++ ands_here) ≡ ands_end parts
  ands_long = omega (arith, length-append ((inputs_here ++ latches_here) ++ outputs_here) ands_here, outputs_long, length-map parts.ands and_unit)

  -- the text's units, parted behind each section
  parted_latches : body_units parts ≡ (inputs_here ++ latches_here) ++ (outputs_here ++ (ands_here ++ symbols_here))
  parted_latches = sym (append_assoc inputs_here latches_here (outputs_here ++ (ands_here ++ symbols_here)))

  parted_outputs : body_units parts ≡ ((inputs_here ++ latches_here) ++ outputs_here) ++ (ands_here ++ symbols_here)
  parted_outputs = parted_latches ∙ sym (append_assoc (inputs_here ++ latches_here) outputs_here (ands_here ++ symbols_here))

  pub parted_ands : body_units parts ≡ (((inputs_here ++ latches_here) ++ outputs_here) ++ ands_here) ++ symbols_here
  parted_ands = parted_outputs ∙ sym (append_assoc ((inputs_here ++ latches_here) ++ outputs_here) ands_here symbols_here)

  pub machine_told : (unset : Unset) → machine_in unset (header_of parts) (body_units parts) ≡ machine_from parts
  machine_told unset =
      let all : List (List ℕ) = body_units parts in
      let inputs : take (length parts.inputs) all ≡ inputs_here =
      take_front inputs_here (latches_here ++ (outputs_here ++ (ands_here ++ symbols_here))) (length parts.inputs) inputs_long in
      let latches : take (length parts.latches) (drop (inputs_end parts) all) ≡ latches_here =
      middle inputs_here latches_here (outputs_here ++ (ands_here ++ symbols_here)) all (inputs_end parts) (length parts.latches) inputs_long (length-map parts.latches latch_unit) refl in
      let outputs : take (length parts.outputs) (drop (latches_end parts) all) ≡ outputs_here =
      middle (inputs_here ++ latches_here) outputs_here (ands_here ++ symbols_here) all (latches_end parts) (length parts.outputs) latches_long (length-map parts.outputs output_unit) parted_latches in
      let ands : take (length parts.ands) (drop (outputs_end parts) all) ≡ ands_here =
      middle ((inputs_here ++ latches_here) ++ outputs_here) ands_here symbols_here all (outputs_end parts) (length parts.ands) outputs_long (length-map parts.ands and_unit) parted_outputs in
      let symbols : drop (ands_end parts) all ≡ symbols_here =
      ap (drop (ands_end parts)) parted_ands ∙ drop_front (((inputs_here ++ latches_here) ++ outputs_here) ++ ands_here) symbols_here (ands_end parts) ands_long in
      machines_alike parts.variables
      (ap (map input_of) inputs ∙ map_back input_of input_unit parts.inputs input_told)
      (ap (latches_in unset (header_of parts) (length parts.inputs)) latches ∙ latches_told unset (length parts.inputs) parts.latches (λ latch i. i))
      (ap (map and_of) ands ∙ map_both and_of and_unit equation_from parts.ands and_told)
      (ap (map output_of) outputs ∙ map_back output_of output_unit parts.outputs output_told)
      (ap (λ (l : List (List ℕ)). map (λ place. name_in 105 place (uncommented l)) (numbers_from 0 (length parts.inputs))) symbols ∙ names_told 105 (length parts.inputs))
      (ap (λ (l : List (List ℕ)). map (λ place. name_in 111 place (uncommented l)) (numbers_from 0 (length parts.outputs))) symbols ∙ names_told 111 (length parts.outputs))
