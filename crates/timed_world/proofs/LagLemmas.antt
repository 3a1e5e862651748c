-- What delays the pulses of a wire.
use Rattle.std.proofs.Common.{◌≡◌, ◌≤◌, ◌⊎◌, ℕ, suc, Bool, true, false, inl, inr, Some, List, [], ◌∷◌, slice_get, refl, ap, ◌∙◌, arith, ◌==◌}
use Rattle.pulse_ids.specs.Lists.{IsIn, occurrences}
use Rattle.pulse_ids.proofs.CallerLemmas.{IsIn-place}
use Rattle.pulse_ids.proofs.CallerLemmasOnCounts.{occurrences-IsIn, IsIn-occurrences}
use Rattle.cell_netlist.specs.declared.lines.Cell.{Cell}
use Rattle.cell_netlist.specs.Netlists.{PlainNetlist, outs}
use Rattle.cell_netlist.specs.WireLaws.{DrivingCellsAreUnique}
use Rattle.cell_netlist.specs.Wired.{IsWired}
use Rattle.timed_world.specs.Delays.{PlainDelays, AreWithin, delay_of, kind_of, lag_in, lag}

-- a cell that drives the wire, whose delay is the lag
pub record FoundIn (delays : PlainDelays) (cells : List Cell) (wire : ℕ) : Type 0 where
  pub place : ℕ
  pub cell : Cell
  pub at : slice_get cells place ≡ Some cell
  pub out : IsIn wire (outs cell)
  pub is : lag_in delays cells wire ≡ delay_of delays (kind_of cell)

pub zero_or_found : (delays : PlainDelays) (cells : List Cell) (wire : ℕ)
    → (((cell : Cell) → IsIn cell cells → IsIn wire (outs cell) → ⊥) × (lag_in delays cells wire ≡ 0)) ⊎ FoundIn delays cells wire
zero_or_found delays [] wire = inl (λ cell i. absurd i, refl)
zero_or_found delays (cell ∷ cells) wire = go (occurrences wire (outs cell) == 0) refl (zero_or_found delays cells wire)
  where
    Result : Type 0
    Result = (((its : Cell) → IsIn its (cell ∷ cells) → IsIn wire (outs its) → ⊥) × (lag_in delays (cell ∷ cells) wire ≡ 0)) ⊎ FoundIn delays (cell ∷ cells) wire

    go : (b : Bool) → (occurrences wire (outs cell) == 0) ≡ b
        → (((its : Cell) → IsIn its cells → IsIn wire (outs its) → ⊥) × (lag_in delays cells wire ≡ 0)) ⊎ FoundIn delays cells wire
        → (((its : Cell) → IsIn its (cell ∷ cells) → IsIn wire (outs its) → ⊥) × (lag_in delays (cell ∷ cells) wire ≡ 0)) ⊎ FoundIn delays (cell ∷ cells) wire
    go true e (inl none) = inl (
      λ its i o. here its i o,
      rw e none.1,
    )
      where
        here : (its : Cell) → IsIn its (cell ∷ cells) → IsIn wire (outs its) → ⊥
        here its (inl same) o =
            let some = IsIn-occurrences wire (outs its) o in
            let z : occurrences wire (outs cell) ≡ 0 = grind (arith) in
            let s = ap (λ x. occurrences wire (outs x)) same in absurd (omega arith)
        here its (inr i) o = none.0 its i o
    go true e (inr found) = inr (record { place = suc found.place; cell = found.cell; at = found.at; out = found.out; is = rw e found.is })
    go false e rest = inr (record { place = 0; cell = cell; at = refl; out = occurrences-IsIn wire (outs cell) some; is = rw e refl })
      where
        some : 1 ≤ occurrences wire (outs cell)
        some = grind (arith)

-- no delay is above 1,000
pub lag_most : (delays : PlainDelays) → AreWithin delays → (net : PlainNetlist) (wire : ℕ) → lag delays net wire ≤ 1000
lag_most delays within net wire = elim (zero_or_found delays net.cells wire) [
  | inl none ↦ omega (arith, none.1)
  | inr found ↦ omega (arith, found.is, (within (kind_of found.cell)).1)
]

module _ (unique : DrivingCellsAreUnique) (delays : PlainDelays) (net : PlainNetlist) (wired : IsWired net) where
  -- the lag of a wire that a cell drives is the cell's delay
  pub lag_of_driver : (wire c : ℕ) (cell : Cell) → slice_get net.cells c ≡ Some cell → IsIn wire (outs cell)
      → lag delays net wire ≡ delay_of delays (kind_of cell)
  lag_of_driver wire c cell at out = elim (zero_or_found delays net.cells wire) [
    | inl none ↦ absurd (none.0 cell (IsIn-place cell net.cells c at) out)
    | inr found ↦ found.is ∙ ap (λ x. delay_of delays (kind_of x)) (unique net wired wire found.place c found.cell cell found.at at found.out out).1
  ]
