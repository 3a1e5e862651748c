-- Whether the texts of items have bytes.
use Rattle.std.proofs.Common.{
  ◌≡◌,
  ◌+◌,
  ◌<◌,
  ◌^◌,
  ℕ,
  zero,
  suc,
  List,
  [],
  ◌∷◌,
  ◌++◌,
  length,
  take,
  get_or,
  decimal,
  Result,
  Ok,
  Err,
  IsOk,
  IsErr,
  refl,
  ap,
  ◌∙◌,
  arith,
}
use Rattle.std.specs.List.{flat_map}
use Rattle.std.proofs.Math.Seq.{take-suc}
use Rattle.std.proofs.lemmas.Fmt.{decimal_nonempty}
use Rattle.std.proofs.lemmas.List.{length-append, append-nil}
use Rattle.std.proofs.lemmas.List.Concat.{flat_map-append}
use Rattle.std.proofs.lemmas.List.Folds.{length-flat_map-take}

-- what fails has bytes, where nothing without bytes fails
pub has_bytes : {E : Type 0} (result : Result Unit E) (count : ℕ) → IsErr result → (count ≡ 0 → IsOk result) → 0 < count
has_bytes (Ok u) count e h = cc
has_bytes (Err x) zero e h = let no = h refl in cc
has_bytes (Err x) (suc count) e h = omega arith

-- an item with bytes gives the texts of all items bytes
pub more_bytes : {X : Type 0} (text : X → List ℕ) (items : List X) (at : ℕ) (other : X) → at < length items → 0 < length (text (get_or items at other))
    → 0 < length (flat_map text items)
more_bytes text items at other h some = omega (arith, length-flat_map-take text items at other h)

-- the texts of the items up to one, and of that one
pub next_bytes : {X : Type 0} (text : X → List ℕ) (items : List X) (at : ℕ) (other : X) → at < length items
    → length (flat_map text (take (suc at) items)) ≡ length (flat_map text (take at items)) + length (text (get_or items at other))
next_bytes text items at other h =
    let item = get_or items at other in
    ap (λ l. length (flat_map text l)) (take-suc items at other h)
    ∙ ap length (flat_map-append text (take at items) (item ∷ []) ∙ ap (λ l. flat_map text (take at items) ++ l) (append-nil (text item)))
    ∙ length-append (flat_map text (take at items)) (text item)

-- a number between two texts
pub numbered_bytes : (before after : List ℕ) (number : ℕ) → number < 2 ^ 64 → 0 < length (before ++ (decimal number ++ (after ++ [])))
numbered_bytes before after number small =
    omega (arith, length-append before (decimal number ++ (after ++ [])), length-append (decimal number) (after ++ []), decimal_nonempty number small)
