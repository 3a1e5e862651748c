-- The cells that pass pulses on within a phase, and which of them reads which.
use Rattle.std.specs.Prelude.{◌≡◌, ℕ, Some, slice_get}
use Rattle.cell_netlist.specs.declared.lines.Cell.{Cell}
use Rattle.pulse_ids.specs.Lists.{IsIn}
use Rattle.cell_netlist.specs.Netlists.{PlainNetlist, outs, reads, IsDroc}

-- the cell of this number is an LA, FA or splitter
pub record IsPassing (net : PlainNetlist) (c : ℕ) : Type 0 where
  pub cell : Cell
  pub at : slice_get net.cells c ≡ Some cell
  pub kind : IsDroc cell → ⊥

-- the LA, FA or splitter of this number drives the wire
pub record Drives (net : PlainNetlist) (c wire : ℕ) : Type 0 where
  pub passing : IsPassing net c
  pub out : IsIn wire (outs passing.cell)

-- the LA, FA or splitter of the second number reads an output of that of the first
pub record Feeds (net : PlainNetlist) (c d : ℕ) : Type 0 where
  pub reader : IsPassing net d
  pub wire : ℕ
  pub read : IsIn wire (reads reader.cell)
  pub drives : Drives net c wire
