-- Splitters below a wire, and the roots of wires.
use Rattle.std.specs.Prelude.{◌≡◌, ℕ, zero, suc, [], ◌∷◌}
use Rattle.cell_netlist.specs.declared.lines.Cell.{Cell}
use Rattle.cell_netlist.specs.declared.lines.Cell.TheVariants.{Split}
use Rattle.pulse_ids.specs.Lists.{IsIn}
use Rattle.cell_netlist.specs.PlainNetlists.{PlainNetlist}

-- the cell is a splitter from one wire to another
abbrev pub Splits : Cell → ℕ → ℕ → Type 0
Splits (Split source left right) from to = (source.number ≡ from) × IsIn to (left.number ∷ right.number ∷ [])
Splits cell from to = ⊥

-- a splitter of the netlist leads from one wire to another
abbrev pub HasSplitter : PlainNetlist → ℕ → ℕ → Type 0
HasSplitter net from to = (cell : Cell) × IsIn cell net.cells × Splits cell from to

-- a chain of this many splitters leads from one wire to another
abbrev pub SplittersBelow : PlainNetlist → ℕ → ℕ → ℕ → Type 0
SplittersBelow net zero from to = from ≡ to
SplittersBelow net (suc n) from to = (mid : ℕ) × HasSplitter net from mid × SplittersBelow net n mid to

-- The root of a wire: a chain of splitters leads from it to the wire, and no splitter drives it. A wire of a
-- loop of splitters has none.
pub record IsRoot (net : PlainNetlist) (root wire : ℕ) : Type 0 where
  pub splitters : ℕ
  pub chain : SplittersBelow net splitters root wire
  pub first : (from : ℕ) → HasSplitter net from root → ⊥
