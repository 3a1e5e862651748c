-- What an allowed header and line are.
use Rattle.std.proofs.Common.{◌≡◌, ℕ, ◌+◌, ◌*◌, ◌/◌, ◌%◌, ◌≤◌, Bool, true, false, ◌&&◌, cond, eqb, ltb, leb, [], ◌∷◌, Option, Some, None, refl, arith}
use Rattle.std.specs.Prelude.{unwrap_or, All}
use Rattle.std.specs.Option.{option_or}
use Rattle.std.proofs.lemmas.Bool.{ltb-false, leb-true, eqb-true}
use Rattle.std.proofs.lemmas.List.Elements.{All-nil, All-cons}
use Rattle.pulse_ids.specs.Quantities.{greatest_of}
use Rattle.pulse_ids.specs.declared.quantities.Quantity.{Quantity}
use Rattle.pulse_ids.specs.declared.quantities.Quantity.TheVariants as quantities
use Rattle.source_machine.specs.declared.unset.Unset.{Unset}
use Rattle.source_machine.specs.Fitting.{IsNumbered, LiteralFits, LatchFits, EquationFits}
use Rattle.aiger_reader.specs.declared.headers.Spelling.{Spelling}
use Rattle.aiger_reader.specs.declared.headers.Spelling.TheVariants.{Ascii, Binary}
use Rattle.aiger_reader.specs.declared.headers.Header.{Header}
use Rattle.aiger_reader.specs.declared.refusals.UnitRefusal.{UnitRefusal}
use Rattle.aiger_reader.specs.declared.refusals.UnitRefusal.TheVariants.{BadHeader, Limit, OutOfRange}
use Rattle.aiger_reader.specs.Headers.{over, has_sum, unequal, over_limits, properties, counts_refusal}
use Rattle.aiger_reader.specs.LineChecks.{is_left, left_refusal, literal_refusal, reset_refusal, input_refusal, latch_refusal, output_refusal, and_refusal, plain_literal, plain_latch, plain_and}
use Rattle.aiger_reader.specs.Bounds.{IsSmall}

pub or_none : (a b : Option UnitRefusal) → option_or a b ≡ None → (a ≡ None) × (b ≡ None)
or_none None b h = (refl, h)
or_none (Some x) b h = absurd cc

cond_none : (b : Bool) (x : UnitRefusal) → ◌≡◌ {A = Option UnitRefusal} (cond b (Some x) None) None → b ≡ false
cond_none true x h = absurd cc
cond_none false x h = refl

none_cond : (b : Bool) (x : UnitRefusal) → ◌≡◌ {A = Option UnitRefusal} (cond b None (Some x)) None → b ≡ true
none_cond true x h = refl
none_cond false x h = absurd cc

both : (a b : Bool) → (a && b) ≡ true → (a ≡ true) × (b ≡ true)
both true b e = (refl, e)
both false b e = absurd cc

pub within : (quantity : Quantity) (count : ℕ) → over quantity count ≡ None → count ≤ greatest_of quantity
within quantity count h = ltb-false _ _ (cond_none (ltb (greatest_of quantity) count) (Limit quantity) h)

summed : (spelling : Spelling) (variables sum : ℕ) → has_sum spelling variables sum ≡ true → sum ≤ variables
summed Ascii variables sum h = leb-true _ _ h
summed Binary variables sum h = let e = eqb-true variables sum h in omega (arith, e)

-- what the header's checks leave
pub record Allowed (header : Header) : Type 0 where
  pub small : IsSmall header
  pub sum : header.inputs + header.latches + header.ands ≤ header.variables

pub allowed_is : (header : Header) → counts_refusal header ≡ None → Allowed header
allowed_is header h =
    let a = or_none (unequal header) (option_or (over_limits header) (properties header)) h in
    let b = or_none (over_limits header) (properties header) a.1 in
    let nets = or_none (over quantities.Nets header.variables) _ b.0 in
    let inputs = or_none (over quantities.Inputs header.inputs) _ nets.1 in
    let latches = or_none (over quantities.Latches header.latches) _ inputs.1 in
    let outputs = or_none (over quantities.Outputs header.outputs) (over quantities.Size (3 * header.ands)) latches.1 in
    record {
      small = record {
        variables = within quantities.Nets header.variables nets.0;
        inputs = within quantities.Inputs header.inputs inputs.0;
        latches = within quantities.Latches header.latches latches.0;
        outputs = within quantities.Outputs header.outputs outputs.0;
        ands = within quantities.Size (3 * header.ands) outputs.1;
      };
      sum = summed header.spelling header.variables _ (none_cond (has_sum header.spelling header.variables (header.inputs + header.latches + header.ands)) BadHeader a.0);
    }

pub small_header : (header : Header) → counts_refusal header ≡ None → IsSmall header
small_header header h = (allowed_is header h).small

left_numbered : (variables literal : ℕ) → left_refusal variables literal ≡ None → IsNumbered variables (literal / 2)
left_numbered variables literal h =
    let left = none_cond (is_left variables literal) (OutOfRange literal) h in
    let p = both (eqb (literal % 2) 0) (leb 2 literal && leb literal (2 * variables + 1)) left in
    let q = both (leb 2 literal) (leb literal (2 * variables + 1)) p.1 in
    let least = leb-true _ _ q.0 in
    let most = leb-true _ _ q.1 in
    (omega (arith, least), omega (arith, most))

literal_within : (variables literal : ℕ) → literal_refusal variables literal ≡ None → literal ≤ 2 * variables + 1
literal_within variables literal h = leb-true _ _ (none_cond (leb literal (2 * variables + 1)) (OutOfRange literal) h)

pub literal_fits : (variables literal : ℕ) → literal ≤ 2 * variables + 1 → LiteralFits variables (plain_literal literal)
literal_fits variables literal le = omega (arith, le)

pub input_fits : (variables : ℕ) (said : Option ℕ) → input_refusal variables said ≡ None → IsNumbered variables (unwrap_or said 0 / 2)
input_fits variables None h = absurd cc
input_fits variables (Some left) h = left_numbered variables left h

pub latch_fits : (unset : Unset) (variables place : ℕ) (said : Option (ℕ × ℕ × ℕ)) → latch_refusal unset variables place said ≡ None
    → LatchFits variables (plain_latch unset (unwrap_or said (0, 0, 0)))
latch_fits unset variables place None h = absurd cc
latch_fits unset variables place (Some latch) h =
    let a = or_none (left_refusal variables latch.0) _ h in
    let b = or_none (literal_refusal variables latch.1) (reset_refusal unset place latch.0 latch.2) a.1 in
    (left_numbered variables latch.0 a.0, literal_fits variables latch.1 (literal_within variables latch.1 b.0))

pub output_fits : (variables : ℕ) (said : Option ℕ) → output_refusal variables said ≡ None → LiteralFits variables (plain_literal (unwrap_or said 0))
output_fits variables None h = absurd cc
output_fits variables (Some literal) h = literal_fits variables literal (literal_within variables literal h)

-- a conjunction of a left side and two literals in range
pub gate_fits : (variables : ℕ) (gate : ℕ × ℕ × ℕ) → IsNumbered variables (gate.0 / 2) → gate.1 ≤ 2 * variables + 1 → gate.2 ≤ 2 * variables + 1 → EquationFits variables (plain_and gate)
gate_fits variables gate left first second =
    (left, All-cons (All (LiteralFits variables)) (plain_literal gate.1 ∷ plain_literal gate.2 ∷ []) [] cube (All-nil (All (LiteralFits variables))))
  where
    cube : All (LiteralFits variables) (plain_literal gate.1 ∷ plain_literal gate.2 ∷ [])
    cube = All-cons (LiteralFits variables) (plain_literal gate.1) (plain_literal gate.2 ∷ []) (literal_fits variables gate.1 first)
        (All-cons (LiteralFits variables) (plain_literal gate.2) [] (literal_fits variables gate.2 second) (All-nil (LiteralFits variables)))

pub and_fits : (variables : ℕ) (said : Option (ℕ × ℕ × ℕ)) → and_refusal variables said ≡ None → EquationFits variables (plain_and (unwrap_or said (0, 0, 0)))
and_fits variables None h = absurd cc
and_fits variables (Some gate) h =
    let a = or_none (left_refusal variables gate.0) _ h in
    let b = or_none (literal_refusal variables gate.1) (literal_refusal variables gate.2) a.1 in
    gate_fits variables gate (left_numbered variables gate.0 a.0) (literal_within variables gate.1 b.0) (literal_within variables gate.2 b.1)
