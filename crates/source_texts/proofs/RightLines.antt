-- Each line of a text is right.
use Rattle.std.proofs.Common.{◌≡◌, ℕ, ◌+◌, ◌-◌, ◌*◌, ◌^◌, ◌%◌, ◌≤◌, ◌<◌, Bool, true, false, eqb, leb, List, [], ◌∷◌, ◌++◌, length, length-append, map, Option, Some, None, refl, ◌∙◌, ap, inl, inr}
use Rattle.std.proofs.Common.{arith}
use Rattle.std.proofs.lemmas.Bool.{le-leb, eq-eqb}
use Rattle.std.proofs.lemmas.List.{length-map}
use Rattle.pulse_ids.specs.Lists.{IsIn}
use Rattle.pulse_ids.specs.Literals.{code_of}
use Rattle.source_machine.specs.Machines.{PlainLiteral}
use Rattle.source_machine.specs.declared.unset.Unset.{Unset}
use Rattle.aiger_reader.specs.declared.sections.Section.{Section}
use Rattle.aiger_reader.specs.declared.sections.Section.TheVariants.{Inputs, Latches, Outputs, Ands, Behind}
use Rattle.aiger_reader.specs.Numbers.{one_of, two_or_three_of, three_of}
use Rattle.aiger_reader.specs.LineChecks.{left_refusal, literal_refusal, input_refusal, latch_refusal, output_refusal, and_refusal}
use Rattle.aiger_reader.specs.Headers.{header_refusal}
use Rattle.aiger_reader.specs.Sections.{is_commented, literal_after, section_of, section_refusal, body_refusal, unit_refusal}
use Rattle.aiger_reader.specs.Sources.{first_refusal}
use Rattle.source_texts.specs.Parts.{SourceLatch, SourceAnd, SourceParts, IsVariable, IsLatchOf, IsAndOf, AreInRange}
use Rattle.source_texts.specs.Texts.{line, literal_code, input_numbers, reset_numbers, latch_numbers, output_numbers, and_numbers, header_words, input_words, latch_words, output_words, and_words}
use Rattle.source_texts.specs.Texts.{symbol_words, body_words}
use Rattle.source_texts.proofs.Lists.{map_part, map_map}
use Rattle.source_texts.proofs.WordLines.{AreSmall, line_numbers}
use Rattle.source_texts.proofs.SymbolLines.{symbol_right}
use Rattle.source_texts.proofs.TextHeader.{header_of, header_is, header_right, inputs_end, latches_end, outputs_end, ands_end, in_inputs, in_latches, in_outputs, in_ands, behind_sections}
use Rattle.source_texts.proofs.Accepting.{Accepted, accepted_is, accepted-append, accepted_each}

code_low : (net : ℕ) (negated : Bool) (most : ℕ) → net ≤ most → code_of net negated ≤ 2 * most + 1
code_low net false most le = omega arith
code_low net true most le = omega arith

left_right : (variables net : ℕ) → IsVariable variables net → left_refusal variables (2 * net) ≡ None
left_right variables net is =
    let parity : eqb (2 * net % 2) 0 ≡ true = eq-eqb (2 * net % 2) 0 (omega arith) in
    let least : leb 2 (2 * net) ≡ true = le-leb 2 (2 * net) (omega (arith, is.0)) in
    let most : leb (2 * net) (2 * variables + 1) ≡ true = le-leb (2 * net) (2 * variables + 1) (omega (arith, is.1)) in
    rw (parity, least, most) refl

literal_right : (variables : ℕ) (literal : PlainLiteral) → literal.net ≤ variables → literal_refusal variables (literal_code literal) ≡ None
literal_right variables literal le =
    let most : leb (literal_code literal) (2 * variables + 1) ≡ true = le-leb (literal_code literal) (2 * variables + 1) (code_low literal.net literal.negated variables le) in
    rw most refl

-- the numbers of the lines
module _ (variables : ℕ) (few : variables ≤ 2 ^ 30) where
  pub input_small : (net : ℕ) → IsVariable variables net → AreSmall (input_numbers net)
  input_small net is n (inl e) = omega (arith, e, is.1)
  input_small net is n (inr i) = absurd i

  reset_small : (reset : Option Bool) → AreSmall (reset_numbers reset)
  reset_small None n i = absurd i
  reset_small (Some false) n (inl e) = omega (arith, e)
  reset_small (Some false) n (inr i) = absurd i
  reset_small (Some true) n (inl e) = omega (arith, e)
  reset_small (Some true) n (inr i) = absurd i

  pub latch_small : (latch : SourceLatch) → IsLatchOf variables latch → AreSmall (latch_numbers latch)
  latch_small latch is n (inl e) = omega (arith, e, is.out.1)
  latch_small latch is n (inr (inl e)) = omega (arith, e, code_low latch.next.net latch.next.negated variables is.next)
  latch_small latch is n (inr (inr i)) = reset_small latch.reset n i

  pub output_small : (literal : PlainLiteral) → literal.net ≤ variables → AreSmall (output_numbers literal)
  output_small literal le n (inl e) = omega (arith, e, code_low literal.net literal.negated variables le)
  output_small literal le n (inr i) = absurd i

  pub and_small : (and : SourceAnd) → IsAndOf variables and → AreSmall (and_numbers and)
  and_small and is n (inl e) = omega (arith, e, is.net.1)
  and_small and is n (inr (inl e)) = omega (arith, e, code_low and.left.net and.left.negated variables is.left)
  and_small and is n (inr (inr (inl e))) = omega (arith, e, code_low and.right.net and.right.negated variables is.right)
  and_small and is n (inr (inr (inr i))) = absurd i

-- a latch's numbers
latch_by_reset : (unset : Unset) (variables place left next : ℕ) (reset : Option Bool) → left_refusal variables left ≡ None → literal_refusal variables next ≡ None
    → latch_refusal unset variables place (two_or_three_of (Some (left ∷ next ∷ reset_numbers reset))) ≡ None
latch_by_reset unset variables place left next None one two = rw (one, two) refl
latch_by_reset unset variables place left next (Some false) one two = rw (one, two) refl
latch_by_reset unset variables place left next (Some true) one two = rw (one, two) refl

-- the units of each section
abbrev pub input_unit : ℕ → List ℕ
input_unit net = line (input_words net)

abbrev pub latch_unit : SourceLatch → List ℕ
latch_unit latch = line (latch_words latch)

abbrev pub output_unit : PlainLiteral → List ℕ
output_unit literal = line (output_words literal)

abbrev pub and_unit : SourceAnd → List ℕ
and_unit and = line (and_words and)

abbrev pub symbol_unit : ℕ × ℕ × List ℕ → List ℕ
symbol_unit symbol = line (symbol_words symbol)

abbrev pub body_units : SourceParts → List (List ℕ)
body_units parts =
    map input_unit parts.inputs ++ (map latch_unit parts.latches ++ (map output_unit parts.outputs ++ (map and_unit parts.ands ++ map symbol_unit parts.symbols)))

pub units_by_sections : (parts : SourceParts) → map line (body_words parts) ≡ body_units parts
units_by_sections parts =
    let s : List (List (List ℕ)) = map symbol_words parts.symbols in
    let d : List (List (List ℕ)) = map and_words parts.ands ++ s in
    let c : List (List (List ℕ)) = map output_words parts.outputs ++ d in
    let b : List (List (List ℕ)) = map latch_words parts.latches ++ c in
    map_part line input_words parts.inputs b
    ∙ ap (λ (l : List (List ℕ)). map input_unit parts.inputs ++ l) (map_part line latch_words parts.latches c)
    ∙ ap (λ (l : List (List ℕ)). map input_unit parts.inputs ++ (map latch_unit parts.latches ++ l)) (map_part line output_words parts.outputs d)
    ∙ ap (λ (l : List (List ℕ)). map input_unit parts.inputs ++ (map latch_unit parts.latches ++ (map output_unit parts.outputs ++ l))) (map_part line and_words parts.ands s)
    ∙ ap (λ (l : List (List ℕ)). map input_unit parts.inputs ++ (map latch_unit parts.latches ++ (map output_unit parts.outputs ++ (map and_unit parts.ands ++ l))))
    (map_map line symbol_words parts.symbols)

module _ (parts : SourceParts) (right : AreInRange parts) where
  pub few_variables : parts.variables ≤ 2 ^ 30
  few_variables = omega (arith, right.variables)

  module _ (unset : Unset) where
    -- a line of a section
    behind_header : (more : List (List ℕ)) (unit : List ℕ) (section : Section) → section_of (header_of parts) (length more) ≡ section
        → section_refusal unset (header_of parts) (length more) (is_commented (header_of parts) more) (literal_after (header_of parts) more) unit section ≡ None
        → unit_refusal unset (line (header_words parts) ∷ more) unit ≡ None
    behind_header more unit section place fine =
        ap (λ header. body_refusal unset header more unit) (header_is parts right)
        ∙ ap (λ (s : Section). section_refusal unset (header_of parts) (length more) (is_commented (header_of parts) more) (literal_after (header_of parts) more) unit s) place
        ∙ fine

    input_right : (net : ℕ) → IsIn net parts.inputs → (more : List (List ℕ)) → 0 ≤ length more → length more < 0 + length parts.inputs
        → unit_refusal unset (line (header_words parts) ∷ more) (input_unit net) ≡ None
    input_right net i more low high =
        let is = right.each_input net i in
        behind_header more (input_unit net) Inputs (in_inputs parts (length more) (omega arith))
        (ap (λ numbers. input_refusal parts.variables (one_of numbers)) (line_numbers (input_numbers net) (input_small parts.variables few_variables net is))
        ∙ left_right parts.variables net is)

    latch_right : (latch : SourceLatch) → IsIn latch parts.latches → (more : List (List ℕ)) → inputs_end parts ≤ length more → length more < inputs_end parts + length parts.latches
        → unit_refusal unset (line (header_words parts) ∷ more) (latch_unit latch) ≡ None
    latch_right latch i more low high =
        let is = right.each_latch latch i in
        behind_header more (latch_unit latch) Latches (in_latches parts (length more) low high)
        (ap (λ numbers. latch_refusal unset parts.variables (length more - length parts.inputs) (two_or_three_of numbers))
        (line_numbers (latch_numbers latch) (latch_small parts.variables few_variables latch is))
        ∙ latch_by_reset unset parts.variables (length more - length parts.inputs) (2 * latch.out) (literal_code latch.next) latch.reset
        (left_right parts.variables latch.out is.out) (literal_right parts.variables latch.next is.next))

    output_right : (literal : PlainLiteral) → IsIn literal parts.outputs → (more : List (List ℕ)) → latches_end parts ≤ length more → length more < latches_end parts + length parts.outputs
        → unit_refusal unset (line (header_words parts) ∷ more) (output_unit literal) ≡ None
    output_right literal i more low high =
        let is = right.each_output literal i in
        behind_header more (output_unit literal) Outputs (in_outputs parts (length more) low high)
        (ap (λ numbers. output_refusal parts.variables (one_of numbers)) (line_numbers (output_numbers literal) (output_small parts.variables few_variables literal is))
        ∙ literal_right parts.variables literal is)

    and_right : (and : SourceAnd) → IsIn and parts.ands → (more : List (List ℕ)) → outputs_end parts ≤ length more → length more < outputs_end parts + length parts.ands
        → unit_refusal unset (line (header_words parts) ∷ more) (and_unit and) ≡ None
    and_right and i more low high =
        let is = right.each_and and i in
        let left = left_right parts.variables and.net is.net in
        let one = literal_right parts.variables and.left is.left in
        let other = literal_right parts.variables and.right is.right in
        behind_header more (and_unit and) Ands (in_ands parts (length more) low high)
        (ap (λ numbers. and_refusal parts.variables (three_of numbers)) (line_numbers (and_numbers and) (and_small parts.variables few_variables and is))
        ∙ rw (left, one, other) refl)

    symbol_fine : (symbol : ℕ × ℕ × List ℕ) → IsIn symbol parts.symbols → (more : List (List ℕ)) → ands_end parts ≤ length more → length more < ands_end parts + length parts.symbols
        → unit_refusal unset (line (header_words parts) ∷ more) (symbol_unit symbol) ≡ None
    symbol_fine symbol i more low high =
        behind_header more (symbol_unit symbol) Behind (behind_sections parts (length more) low)
        (symbol_right parts symbol (right.each_symbol symbol i) right.inputs right.outputs (header_of parts) (is_commented (header_of parts) more) refl refl)

    body_accepted : Accepted unset (line (header_words parts) ∷ []) (body_units parts)
    body_accepted =
        let h : List ℕ = line (header_words parts) in
        let a : List (List ℕ) = map input_unit parts.inputs in
        let b : List (List ℕ) = map latch_unit parts.latches in
        let c : List (List ℕ) = map output_unit parts.outputs in
        let d : List (List ℕ) = map and_unit parts.ands in
        let s : List (List ℕ) = map symbol_unit parts.symbols in
        let a_long : length a ≡ inputs_end parts = length-map parts.inputs input_unit in
        let b_long : length b ≡ length parts.latches = length-map parts.latches latch_unit in
        let c_long : length c ≡ length parts.outputs = length-map parts.outputs output_unit in
        let d_long : length d ≡ length parts.ands = length-map parts.ands and_unit in
        let ab_long : length (a ++ b) ≡ latches_end parts = omega (arith, length-append a b, a_long, b_long) in
        let ac_long : length ((a ++ b) ++ c) ≡ outputs_end parts = omega (arith, length-append (a ++ b) c, ab_long, c_long) in
        let ad_long : length (((a ++ b) ++ c) ++ d) ≡ ands_end parts = omega (arith, length-append ((a ++ b) ++ c) d, ac_long, d_long) in
        accepted-append unset (h ∷ []) a (b ++ (c ++ (d ++ s))) (accepted_each unset h input_unit [] parts.inputs 0 refl input_right)
        (accepted-append unset (h ∷ a) b (c ++ (d ++ s)) (accepted_each unset h latch_unit a parts.latches (inputs_end parts) a_long latch_right)
        (accepted-append unset (h ∷ (a ++ b)) c (d ++ s) (accepted_each unset h output_unit (a ++ b) parts.outputs (latches_end parts) ab_long output_right)
        (accepted-append unset (h ∷ ((a ++ b) ++ c)) d s (accepted_each unset h and_unit ((a ++ b) ++ c) parts.ands (outputs_end parts) ac_long and_right)
        (accepted_each unset h symbol_unit (((a ++ b) ++ c) ++ d) parts.symbols (ands_end parts) ad_long symbol_fine))))

    pub nothing_refused : first_refusal unset [] (line (header_words parts) ∷ body_units parts) ≡ None
    nothing_refused =
        let first : unit_refusal unset [] (line (header_words parts)) ≡ None = ap header_refusal (header_is parts right) ∙ header_right parts right in
        accepted_is unset [] (line (header_words parts) ∷ body_units parts) (first, body_accepted)
