-- The byte that completes a line.
use Rattle.std.proofs.Common.{◌≡◌, ℕ, ◌≤◌, true, false, eqb, cond, Bool, List, length, Option, Some, None, refl, arith}
use Rattle.std.specs.List.{position, position_or_len}
use Rattle.std.proofs.lemmas.Bool.{ltb-false}
use Rattle.std.proofs.lemmas.List.Sums.{fails_before_first}
use Rattle.std.proofs.lemmas.List.Quantifiers.{position-Some}
use Rattle.aiger_reader.specs.declared.units.UnitKind.TheVariants.{Line}
use Rattle.aiger_reader.specs.Units.{IsFirstEnd, HasNoEnd}

pub line_end : (piece : List ℕ) (begun end : ℕ) → position (λ b. eqb b 10) piece ≡ Some end → IsFirstEnd Line begun piece end
line_end piece begun end found =
    let p = position-Some (λ b. eqb b 10) piece end 0 found in
    record { within = p.0; ends = p.1; before = p.2 }

none_cond : (b : Bool) (n : ℕ) → ◌≡◌ {A = Option ℕ} (cond b (Some n) None) None → b ≡ false
none_cond true n e = absurd cc
none_cond false n e = refl

pub no_line_end : (piece : List ℕ) (begun : ℕ) → position (λ b. eqb b 10) piece ≡ None → HasNoEnd Line begun piece
no_line_end piece begun none k lt =
    let long : length piece ≤ position_or_len (λ b. eqb b 10) piece = ltb-false _ _ (none_cond _ _ none) in
    fails_before_first (λ b. eqb b 10) piece k 0 (omega arith)
