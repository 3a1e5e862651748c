-- What spreading a wire over its readers does to a netlist.
use Rattle.std.specs.Prelude.{◌≡◌, ◌≤◌, ◌<◌, ◌+◌, ◌*◌, ◌-◌, ℕ, List, [], ◌∷◌, ◌++◌, length}
use Rattle.std.specs.List.{flat_map, range_with_len}
use Rattle.pulse_ids.specs.Lists.{IsIn, occurrences, ceil_log2}
use Rattle.cell_netlist.specs.declared.lines.Cell.{Cell}
use Rattle.cell_netlist.specs.declared.lines.Cell.TheVariants.{La, Fa, Split, Droc}
use Rattle.cell_netlist.specs.Netlists.{PlainNetlist, netlist_of, outs, reads, number_of_wires, SplittersBelow}
use Rattle.splitter_trees.specs.Trees.{IsTree}

-- the cell is a splitter
abbrev pub IsSplitter : Cell → Type 0
IsSplitter (La a b out) = ⊥
IsSplitter (Fa a b out) = ⊥
IsSplitter (Split from left right) = Unit
IsSplitter (Droc role preload feed q n) = ⊥

-- a cell drives no wire that is not above those that it reads
abbrev pub Rises : Cell → Type 0
Rises cell = (port out : ℕ) → IsIn port (reads cell) → IsIn out (outs cell) → port < out

-- the netlist with cells added behind its own, and all else as it was
abbrev pub with_cells : PlainNetlist → List Cell → PlainNetlist
with_cells net cells = record net { cells = net.cells ++ cells }

-- these cells by themselves
abbrev pub only_cells : List Cell → PlainNetlist
only_cells cells = netlist_of 0 0 [] cells [] [] []

-- What is so of the tree of a wire for so many readers, on wires from the next one on.
pub record Spreads (next from readers : ℕ) (cells : List Cell) (leaves : List ℕ) : Type 0 where
  -- there is one splitter less than readers, and nothing else
  pub one_less : length cells + 1 ≡ readers
  pub all_split : (cell : Cell) → IsIn cell cells → IsSplitter cell
  pub rise : (cell : Cell) → IsIn cell cells → Rises cell
  -- they drive new wires, each once, in order
  pub drives : flat_map outs cells ≡ range_with_len next (2 * (readers - 1))
  -- there are as many leaves as readers, and no two are the same
  pub one_each : length leaves ≡ readers
  pub distinct : (wire : ℕ) → occurrences wire leaves ≤ 1
  -- the one leaf for one reader is the wire itself; for more, one splitter reads the wire and the leaves are new
  pub alone : readers ≡ 1 → leaves ≡ from ∷ []
  pub one_reads : 2 ≤ readers → occurrences from (flat_map reads cells) ≡ 1
  pub on_new : 2 ≤ readers → (wire : ℕ) → IsIn wire leaves → (next ≤ wire) × (wire < next + 2 * (readers - 1))
  -- the wire and each new one is either a leaf or read by one of the splitters, once; they read no other
  pub once : (wire : ℕ) → occurrences wire (flat_map reads cells) + occurrences wire leaves ≡ occurrences wire (from ∷ flat_map outs cells)
  -- from the wire down to each leaf lead these splitters alone, and few of them
  pub below : (wire : ℕ) → IsIn wire leaves → (splitters : ℕ) × (splitters ≤ ceil_log2 readers) × SplittersBelow (only_cells cells) splitters from wire

-- A wire is spread over its readers: its tree is added on new wires, and no other line. All that follows from the
-- tree stands beside it.
pub record IsSpread (old new : PlainNetlist) (from readers : ℕ) (leaves : List ℕ) : Type 0 where
  pub cells : List Cell
  pub added : new ≡ with_cells old cells
  pub tree : IsTree (number_of_wires old) from readers cells leaves
  pub spreads : Spreads (number_of_wires old) from readers cells leaves
  pub wires : number_of_wires new ≡ number_of_wires old + 2 * (readers - 1)

-- splitters were added behind, and no other line
pub record GainsSplitters (old new : PlainNetlist) : Type 0 where
  pub cells : List Cell
  pub added : new ≡ with_cells old cells
  pub all_split : (cell : Cell) → IsIn cell cells → IsSplitter cell
