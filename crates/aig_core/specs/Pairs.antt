-- The two literals of a conjunction, in order.
use Rattle.std.specs.Prelude.{ℕ, nat_lt, if◌then◌else◌}
use Rattle.pulse_ids.specs.Ids.{NodeLit}
use Rattle.pulse_ids.specs.Literals.{code_of}
use Rattle.aig_core.specs.declared.pairs.Pair.{Pair}

-- twice the number of the node, plus 1 for a negated literal
abbrev pub literal_code : NodeLit → ℕ
literal_code literal = code_of literal.id.number literal.negated

-- both literals, the one of the lower code first
abbrev pub pair_of : NodeLit → NodeLit → Pair
pair_of a b =
    if nat_lt (literal_code a) (literal_code b) then record { low = a; high = b } else record { low = b; high = a }
