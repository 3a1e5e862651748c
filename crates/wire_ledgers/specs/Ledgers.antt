-- The ledger of a netlist that is being made: which of its wires are open, that is, still to be read.
use Rattle.std.specs.Prelude.{◌≡◌, ◌≤◌, ◌<◌, ◌+◌, ℕ, List, [], ◌∷◌}
use Rattle.std.specs.List.{flat_map, range_with_len}
use Rattle.pulse_ids.specs.Lists.{IsIn, occurrences}
use Rattle.cell_netlist.specs.declared.lines.Cell.{Cell}
use Rattle.cell_netlist.specs.Netlists.{PlainNetlist, outs, reads, driven, read, number_of_wires, IsDroc}
use Rattle.splitter_trees.specs.Spreading.{Rises, with_cells}

-- the cell is a gate on two wires, which drives one
pub record IsGateOn (cell : Cell) (a b out : ℕ) : Type 0 where
  pub two : reads cell ≡ a ∷ b ∷ []
  pub one : outs cell ≡ out ∷ []

-- Lines come in the order of the wires that they drive. Each wire is read once or is open once, but for the debts:
-- reads that a later line will mend, as the feed of a back without a front. Cells that are no DROCs rise.
pub record IsLedger (net : PlainNetlist) (open_wires debts : List ℕ) : Type 0 where
  pub in_order : driven net ≡ range_with_len 0 (number_of_wires net)
  pub once : (wire : ℕ) → occurrences wire (read net) + occurrences wire open_wires ≡ occurrences wire (driven net) + occurrences wire debts
  pub inside : (wire : ℕ) → 1 ≤ occurrences wire open_wires → wire < number_of_wires net
  pub rise : (cell : Cell) → IsIn cell net.cells → (IsDroc cell → ⊥) → Rises cell

-- Cells are added that drive so many next wires, in order. What was open, with the new wires, is read by them or open
-- after; reads beyond that are new debts, and debts that are gone were reads of theirs. Those that are no DROCs rise.
pub record AddsCells (old new : PlainNetlist) (before after debts_before debts_after : List ℕ) : Type 0 where
  pub cells : List Cell
  pub added : new ≡ with_cells old cells
  pub more : ℕ
  pub wires : number_of_wires new ≡ number_of_wires old + more
  pub drives : flat_map outs cells ≡ range_with_len (number_of_wires old) more
  pub balance : (wire : ℕ) → occurrences wire (flat_map reads cells) + occurrences wire after + occurrences wire debts_before
      ≡ occurrences wire before + occurrences wire (flat_map outs cells) + occurrences wire debts_after
  pub opens : (wire : ℕ) → occurrences wire after ≤ occurrences wire before + occurrences wire (flat_map outs cells)
  pub rise : (cell : Cell) → IsIn cell cells → (IsDroc cell → ⊥) → Rises cell
