-- Laws that the decisions on leanness miss nothing, and that balance speaks of every leaf.
use Rattle.std.specs.Prelude.{◌≡◌, ◌↔◌, ◌≤◌, ℕ, true, length}
use Rattle.pulse_ids.specs.Lists.{IsIn, HowManyHave, ceil_log2}
use Rattle.cell_netlist.specs.Netlists.{PlainNetlist, IsRoot}
use Rattle.cell_netlist.specs.Sound.{IsSound}
use Rattle.cell_netlist.specs.Lean.{Useful, IsLean, leaves}
use Rattle.cell_netlist.specs.Decisions.{is_none_driven_twice}
use Rattle.cell_netlist.specs.LeanDecisions.{useful_after, is_all_rooted, is_lean}

-- the useful wires are those that are found in as many rounds as there are cells
abbrev pub UsefulIsDecided : Type 0
UsefulIsDecided = (net : PlainNetlist) (wire : ℕ) → IsIn wire (useful_after net (length net.cells)) ↔ Useful net wire

-- a lean netlist in which no wire is driven twice and every climb ends passes all decisions
abbrev pub LeanIsDecided : Type 0
LeanIsDecided = (net : PlainNetlist) → is_none_driven_twice net ≡ true → is_all_rooted net ≡ true → IsLean net → is_lean net ≡ true

-- a sound netlist is lean just where it passes all decisions
abbrev pub SoundLeanIsDecided : Type 0
SoundLeanIsDecided = (net : PlainNetlist) → IsSound net → IsLean net ↔ (is_lean net ≡ true)

-- in a sound netlist each root has a number of leaves below it
abbrev pub LeavesAreCounted : Type 0
LeavesAreCounted = (net : PlainNetlist) → IsSound net → (root : ℕ) → (k : ℕ) × HowManyHave (λ leaf. IsRoot net root leaf) (leaves net) k

-- and no other number
abbrev pub CountsOfLeavesAreEqual : Type 0
CountsOfLeavesAreEqual = (net : PlainNetlist) (root k j : ℕ) → HowManyHave (λ leaf. IsRoot net root leaf) (leaves net) k
    → HowManyHave (λ leaf. IsRoot net root leaf) (leaves net) j → k ≡ j

-- A leaf has a root, which has a number of leaves, and stands at most as many splitters below it as the logarithm
-- of that number, rounded up.
pub record IsBalanced (net : PlainNetlist) (leaf : ℕ) : Type 0 where
  pub root : ℕ
  pub below : IsRoot net root leaf
  pub count : ℕ
  pub counted : HowManyHave (λ other. IsRoot net root other) (leaves net) count
  pub few : below.splitters ≤ ceil_log2 count

-- in a sound and lean netlist each leaf is balanced
abbrev pub LeavesAreBalanced : Type 0
LeavesAreBalanced = (net : PlainNetlist) → IsSound net → IsLean net → (leaf : ℕ) → IsIn leaf (leaves net) → IsBalanced net leaf
