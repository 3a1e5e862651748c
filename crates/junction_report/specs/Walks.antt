-- Walks along LA, FA and splitter cells, and the greatest that is measured on them.
use Rattle.std.specs.Prelude.{◌≡◌, ◌≤◌, ℕ, Some, option_map, unwrap_or, slice_get, List, [], ◌∷◌, length}
use Rattle.std.specs.List.{sum_by}
use Rattle.cell_netlist.specs.declared.lines.Cell.{Cell}
use Rattle.cell_netlist.specs.declared.lines.Cell.TheVariants.{La, Fa, Split, Droc}
use Rattle.cell_netlist.specs.Netlists.{PlainNetlist}
pub use Rattle.cell_orders.specs.PassingCells.{IsPassing, Drives, Feeds}

-- the first of the cells, where there is one, reads an output of the cell before
abbrev pub IsFollowedBy : PlainNetlist → ℕ → List ℕ → Type 0
IsFollowedBy net c [] = Unit
IsFollowedBy net c (d ∷ rest) = Feeds net c d

-- A walk is a list of LA, FA and splitter cells, each but the first reading an output of the one before.
abbrev pub IsWalk : PlainNetlist → List ℕ → Type 0
IsWalk net [] = Unit
IsWalk net (c ∷ rest) = IsPassing net c × IsFollowedBy net c rest × IsWalk net rest

-- the last cell of the list
abbrev pub EndsIn : List ℕ → ℕ → Type 0
EndsIn [] c = ⊥
EndsIn (d ∷ []) c = d ≡ c
EndsIn (d ∷ e ∷ rest) c = EndsIn (e ∷ rest) c

-- a walk that ends in the cell
abbrev pub IsWalkTo : PlainNetlist → ℕ → List ℕ → Type 0
IsWalkTo net c walk = IsWalk net walk × EndsIn walk c

-- the greatest measure of the lists of a kind: one of them has it, and none has a greater one
pub record IsGreatest (Takes : List ℕ → Type 0) (measure : List ℕ → ℕ) (greatest : ℕ) : Type 0 where
  pub walk : List ℕ
  pub taken : Takes walk
  pub reached : measure walk ≡ greatest
  pub most : (other : List ℕ) → Takes other → measure other ≤ greatest

-- the depth of a cell: the greatest length of a walk that ends in it
abbrev pub IsDepth : PlainNetlist → ℕ → ℕ → Type 0
IsDepth net c depth = IsGreatest (IsWalkTo net c) length depth

-- 1 for an LA or FA
abbrev pub one_if_gate : Cell → ℕ
one_if_gate (La a b out) = 1
one_if_gate (Fa a b out) = 1
one_if_gate (Split from left right) = 0
one_if_gate (Droc role preload feed q n) = 0

-- how many LA and FA cells are on a walk
abbrev pub gates_on : PlainNetlist → List ℕ → ℕ
gates_on net walk = sum_by (λ c. unwrap_or (option_map one_if_gate (slice_get net.cells c)) 0) walk
