-- Numbers in a row: the lemmas that the crates above may cite.
use Rattle.std.proofs.Common.{◌≡◌, ◌≤◌, ◌<◌, ◌+◌, inl, inr, ℕ, zero, suc, max, arith}
use Rattle.std.specs.List.{range_with_len}
use Rattle.std.proofs.lemmas.Bool.{cases_eq}
use Rattle.pulse_ids.specs.Lists.{IsIn}
use Rattle.cell_netlist.specs.Netlists.{wire_bound}

pub in_range : (first n wire : ℕ) → IsIn wire (range_with_len first n) → (first ≤ wire) × (wire < first + n)
in_range first zero wire m = absurd m
in_range first (suc n) wire (inl e) = (omega arith, omega arith)
in_range first (suc n) wire (inr m) = let r = in_range (first + 1) n wire m in (omega arith, omega arith)

pub range_has : (first n wire : ℕ) → first ≤ wire → wire < first + n → IsIn wire (range_with_len first n)
range_has first zero wire low high = absurd (omega arith)
range_has first (suc n) wire low high = elim (cases_eq first wire) [
  | inl e ↦ inl e
  | inr ne ↦ inr (range_has (first + 1) n wire (omega arith) (omega arith))
]

-- one more than the greatest of them
pub range_bound : (first n : ℕ) → max first (wire_bound (range_with_len first n)) ≡ first + n
range_bound first zero = omega arith
range_bound first (suc n) = let r = range_bound (first + 1) n in omega arith
