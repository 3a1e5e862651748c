-- What cells keep at the start.
use Rattle.std.proofs.Common.{◌≡◌, ◌∙◌, ◌+◌, ◌<◌, ℕ, zero, suc, false, Some, List, [], ◌∷◌, map, length, slice_get, slice_set, ap, sym, subst, refl, arith}
use Rattle.cell_netlist.specs.declared.kinds.Held.TheVariants.{Rest}
use Rattle.cell_netlist.specs.declared.kinds.CellState.{CellState}
use Rattle.cell_netlist.specs.declared.lines.Cell.{Cell}
use Rattle.cell_netlist.specs.World.{preloaded}
use Rattle.pulse_world.specs.PackedStates.{PlainStates, nothing_kept}
use Rattle.pulse_world.proofs.StateBits.{set-here}

-- a cell that keeps nothing at the start keeps what it did
module _ (kept : PlainStates) (c : ℕ) (cell : Cell) (at : slice_get kept.states c ≡ Some (nothing_kept cell)) where
  pub preload-none : (preloaded cell).bit ≡ false → kept ≡ record kept { states = slice_set kept.states c (preloaded cell) }
  preload-none clear =
      let same : preloaded cell ≡ nothing_kept cell = ap (λ bit. record { held = Rest; bit = bit }) clear in
      ap (λ states. record kept { states = states }) (sym (ap (slice_set kept.states c) same ∙ set-here kept.states c (nothing_kept cell) at))

-- the first so many cells keep what they do at the start, and the others nothing
abbrev pub preloaded_to : ℕ → List Cell → List CellState
preloaded_to n [] = []
preloaded_to zero (cell ∷ cells) = nothing_kept cell ∷ preloaded_to zero cells
preloaded_to (suc n) (cell ∷ cells) = preloaded cell ∷ preloaded_to n cells

pub preloaded-none : (cells : List Cell) → preloaded_to 0 cells ≡ map nothing_kept cells
preloaded-none [] = refl
preloaded-none (cell ∷ cells) = ap (λ ss. nothing_kept cell ∷ ss) (preloaded-none cells)

pub preloaded-set : (cells : List Cell) (i : ℕ) (cell : Cell) → slice_get cells i ≡ Some cell → slice_set (preloaded_to i cells) i (preloaded cell) ≡ preloaded_to (i + 1) cells
preloaded-set [] zero cell e = absurd cc
preloaded-set [] (suc i) cell e = absurd cc
preloaded-set (x ∷ cells) zero cell e =
    let same : x ≡ cell = cc in
    let one : 0 + 1 ≡ suc 0 = omega arith in
    subst (λ k. slice_set (preloaded_to 0 (x ∷ cells)) 0 (preloaded cell) ≡ preloaded_to k (x ∷ cells)) (sym one)
    (ap (λ z. preloaded z ∷ preloaded_to 0 cells) (sym same))
preloaded-set (x ∷ cells) (suc i) cell e =
    let next : suc (i + 1) ≡ suc i + 1 = omega arith in
    subst (λ k. preloaded x ∷ slice_set (preloaded_to i cells) i (preloaded cell) ≡ preloaded_to k (x ∷ cells)) next (ap (λ ss. preloaded x ∷ ss) (preloaded-set cells i cell e))

pub preloaded-all : (cells : List Cell) (n : ℕ) → n ≡ length cells → preloaded_to n cells ≡ map preloaded cells
preloaded-all [] n e = refl
preloaded-all (cell ∷ cells) zero e = absurd (omega arith)
preloaded-all (cell ∷ cells) (suc n) e = ap (λ ss. preloaded cell ∷ ss) (preloaded-all cells n (omega arith))

pub preloaded-next : (cells : List Cell) (i : ℕ) → i < length cells → (cell : Cell) × (slice_get cells i ≡ Some cell) × (slice_get (preloaded_to i cells) i ≡ Some (nothing_kept cell))
preloaded-next [] i lt = absurd (omega arith)
preloaded-next (cell ∷ cells) zero lt = (cell, refl, refl)
preloaded-next (cell ∷ cells) (suc i) lt = preloaded-next cells i (omega arith)

pub preloaded-step : (first now next : PlainStates) (i id : ℕ) → now ≡ record first { states = preloaded_to i first.cells } → id ≡ i
    → ((cell : Cell) × (slice_get now.cells id ≡ Some cell) × (next ≡ record now { states = slice_set now.states id (preloaded cell) }))
    → next ≡ record first { states = preloaded_to (i + 1) first.cells }
preloaded-step first now next i id is same (cell, at, sets) =
    let here = subst (λ k. slice_get k.cells i ≡ Some cell) is (subst (λ k. slice_get now.cells k ≡ Some cell) same at) in
    sets ∙ rw (is, same) (ap (λ states. record first { states = states }) (preloaded-set first.cells i cell here))
