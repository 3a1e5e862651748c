-- Two literals as a pair, and the literals that codes stand for.
use Rattle.std.specs.Prelude.{◌≡◌, ℕ, ◌/◌, ◌%◌, ◌==◌, Bool, true, false}
use Rattle.std.proofs.Common.{refl, arith}
use Rattle.std.proofs.lemmas.Bool.{eqb-true, eqb-false}
use Rattle.pulse_ids.specs.Ids.{NodeLit, numbered}
use Rattle.pulse_ids.specs.Literals.{code_of}

-- the two literals of a conjunction
pub record PlainPair : Type 0 where
  pub low : NodeLit
  pub high : NodeLit

-- the literal of a code: its node is half of the code, and an odd code is negated
abbrev pub coded_literal : ℕ → NodeLit
coded_literal code =
    record { id = numbered (code / 2); negated = code % 2 == 1 }

-- each code is that of its literal
pub code_of_coded : (code : ℕ) → code_of (code / 2) (code % 2 == 1) ≡ code
code_of_coded code = by (code % 2 == 1) refl
  where
    by : (b : Bool) → (code % 2 == 1) ≡ b → code_of (code / 2) b ≡ code
    by true e = let odd = eqb-true (code % 2) 1 e in omega (arith, odd)
    by false e = let even = eqb-false (code % 2) 1 e in omega (arith, even)
