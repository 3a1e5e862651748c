-- Signs and codes of literals.
use Rattle.std.specs.Prelude.{if◌then◌else◌, ℕ, ◌+◌, ◌*◌, Bool, true, false}
use Rattle.pulse_ids.specs.declared.literals.Literal.{Literal}
use Rattle.pulse_ids.specs.declared.literals.Sign.{Sign}
use Rattle.pulse_ids.specs.declared.literals.Sign.TheVariants.{Pos, Neg}

-- the other sign
abbrev pub flipped : Sign → Sign
flipped Pos = Neg
flipped Neg = Pos

-- twice the number, plus 1 for a negated literal
abbrev pub code_of : ℕ → Bool → ℕ
code_of number false = 2 * number
code_of number true = 2 * number + 1

-- the sign of the rail, of what a literal names, that is the literal's rail of this sign: the other one where the
-- literal is negated
abbrev pub rail_sign : {K : Type 0} → Literal K → Sign → Sign
rail_sign literal sign = if literal.negated then flipped sign else sign
