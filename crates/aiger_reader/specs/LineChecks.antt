-- The checks of a line of a section, from the left. M is the number of variables. (AIGER 1.9, section 2.)
use Rattle.std.specs.Prelude.{ℕ, ◌+◌, ◌*◌, ◌/◌, ◌%◌, ◌==◌, Bool, true, false, ◌&&◌, [], ◌∷◌, Option, Some, None, nat_le, if◌then◌else◌}
use Rattle.std.specs.Option.{option_or}
use Rattle.source_machine.specs.Machines.{PlainLiteral, PlainLatch, PlainEquation}
use Rattle.source_machine.specs.declared.unset.Unset.{Unset}
use Rattle.source_machine.specs.declared.unset.Unset.TheVariants.{Refuse, Zero, One}
use Rattle.aiger_reader.specs.declared.refusals.UnitRefusal.{UnitRefusal}
use Rattle.aiger_reader.specs.declared.refusals.UnitRefusal.TheVariants.{BadLine, OutOfRange, NoFixedInit}

-- an even literal from 2 to 2M + 1
abbrev pub is_left : ℕ → ℕ → Bool
is_left variables literal = literal % 2 == 0 && (nat_le 2 literal && nat_le literal (2 * variables + 1))

abbrev pub left_refusal : ℕ → ℕ → Option UnitRefusal
left_refusal variables literal = if is_left variables literal then None else Some (OutOfRange literal)

-- a literal up to 2M + 1
abbrev pub literal_refusal : ℕ → ℕ → Option UnitRefusal
literal_refusal variables literal = if nat_le literal (2 * variables + 1) then None else Some (OutOfRange literal)

-- a latch that is reset to itself has no fixed first bit: the choice refuses it or gives it one
abbrev pub unset_refusal : Unset → ℕ → Option UnitRefusal
unset_refusal Refuse place = Some (NoFixedInit place)
unset_refusal Zero place = None
unset_refusal One place = None

abbrev pub unset_bit : Unset → Bool
unset_bit Refuse = false
unset_bit Zero = false
unset_bit One = true

-- the reset of the latch of this number with this left side
abbrev pub reset_refusal : Unset → ℕ → ℕ → ℕ → Option UnitRefusal
reset_refusal unset place left reset =
    if nat_le reset 1 then None else (if reset == left then unset_refusal unset place else Some (OutOfRange reset))

abbrev pub input_refusal : ℕ → Option ℕ → Option UnitRefusal
input_refusal variables None = Some BadLine
input_refusal variables (Some left) = left_refusal variables left

-- the left side, the next literal and the reset, which is 0 where none stands
abbrev pub latch_refusal : Unset → ℕ → ℕ → Option (ℕ × ℕ × ℕ) → Option UnitRefusal
latch_refusal unset variables place None = Some BadLine
latch_refusal unset variables place (Some latch) =
    option_or (left_refusal variables latch.0)
    (option_or (literal_refusal variables latch.1) (reset_refusal unset place latch.0 latch.2))

abbrev pub output_refusal : ℕ → Option ℕ → Option UnitRefusal
output_refusal variables None = Some BadLine
output_refusal variables (Some literal) = literal_refusal variables literal

abbrev pub and_refusal : ℕ → Option (ℕ × ℕ × ℕ) → Option UnitRefusal
and_refusal variables None = Some BadLine
and_refusal variables (Some gate) =
    option_or (left_refusal variables gate.0)
    (option_or (literal_refusal variables gate.1) (literal_refusal variables gate.2))

-- the literal of a code: half of it is the net, and an odd code negates
abbrev pub plain_literal : ℕ → PlainLiteral
plain_literal code = record { net = code / 2; negated = code % 2 == 1 }

-- the latch of a left side, a next literal and a reset
abbrev pub plain_latch : Unset → ℕ × ℕ × ℕ → PlainLatch
plain_latch unset latch = record {
  out = latch.0 / 2;
  init = if nat_le latch.2 1 then latch.2 == 1 else unset_bit unset;
  next = plain_literal latch.1;
}

-- the and of two literals: one cube of both
abbrev pub plain_and : ℕ × ℕ × ℕ → PlainEquation
plain_and gate = record {
  net = gate.0 / 2;
  on = true;
  cubes = (plain_literal gate.1 ∷ plain_literal gate.2 ∷ []) ∷ [];
}
