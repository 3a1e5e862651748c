-- For callers: what is shown of a text is a refusal of its bytes.
use Rattle.std.proofs.Common.{ℕ, ◌+◌, Bool, true, false, cond, List, [], ◌∷◌, ◌++◌, length, Some, None}
use Rattle.std.specs.Prelude.{nat_lt, option_map}
use Rattle.std.specs.Option.{option_or}
use Rattle.std.specs.declared.option.Option.{Option}
use Rattle.pulse_ids.specs.declared.quantities.Quantity.{Quantity}
use Rattle.pulse_ids.specs.declared.quantities.Quantity.TheVariants.{NetBytes}
use Rattle.netlist_reader.specs.declared.refusals.NetRefusal.{NetRefusal}
use Rattle.netlist_reader.specs.declared.refusals.NetRefusal.TheVariants as refusals
use Rattle.netlist_reader.specs.declared.statements.Statement.{Statement}
use Rattle.netlist_reader.specs.Limits.{limit_of}
use Rattle.netlist_reader.specs.Places.{first_refusal, has_end, line_refusal, refusal_by, stands_after}
use Rattle.netlist_reader.specs.Statements.{statement_in}
use Rattle.netlist_reader.specs.Verdicts.{early, limit, lines_in, too_long}

-- what is shown is no want of memory
abbrev pub IsOfBytes : Option NetRefusal → Type 0
IsOfBytes (Some refusals.NoMemory) = ⊥
IsOfBytes shown = Unit

limit_of_bytes : (over : Option Quantity) → IsOfBytes (option_map (λ quantity. refusals.Limit quantity) over)
limit_of_bytes None = tt
limit_of_bytes (Some quantity) = tt

by_statement : (before : List (List ℕ)) (line : List ℕ) (said : Option Statement) → IsOfBytes (refusal_by before line said)
by_statement before line None = tt
by_statement before line (Some statement) = go (stands_after before statement)
  where
    go : (b : Bool) → IsOfBytes (cond b (option_map (λ quantity. refusals.Limit quantity) (limit_of line statement)) (Some (refusals.BadLine (length before + 1))))
    go true = limit_of_bytes (limit_of line statement)
    go false = tt

or_of_bytes : (one other : Option NetRefusal) → IsOfBytes one → IsOfBytes other → IsOfBytes (option_or one other)
or_of_bytes None other is are = are
or_of_bytes (Some refusal) other is are = is

first_of_bytes : (before lines : List (List ℕ)) → IsOfBytes (first_refusal before lines)
first_of_bytes before [] = tt
first_of_bytes before (line ∷ lines) =
    or_of_bytes (line_refusal before line) (first_refusal (before ++ line ∷ []) lines) (by_statement before line (statement_in line)) (first_of_bytes (before ++ line ∷ []) lines)

long_of_bytes : (ended long : Bool) → IsOfBytes (cond ended None (cond long (Some (refusals.Limit NetBytes)) None))
long_of_bytes true long = tt
long_of_bytes false true = tt
long_of_bytes false false = tt

pub early_of_bytes : (text : List ℕ) → IsOfBytes (early text)
early_of_bytes text =
    or_of_bytes (first_refusal [] (lines_in text)) (too_long text) (first_of_bytes [] (lines_in text)) (long_of_bytes (has_end (lines_in text)) (nat_lt limit (length text)))
