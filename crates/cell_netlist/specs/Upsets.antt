-- Laws on upsets: which cell an upset is of.
use Rattle.std.specs.Prelude.{◌≡◌, ◌↔◌, ℕ, [], ◌∷◌, length}
use Rattle.cell_netlist.specs.declared.lines.Reader.{Reader}
use Rattle.cell_netlist.specs.Netlists.{PlainNetlist}
use Rattle.cell_netlist.specs.Places.{readers, IsReaderOf, reading_cell}
use Rattle.cell_netlist.specs.Wired.{IsWired}
use Rattle.cell_netlist.specs.World.{State, Upset, deliver, UpsetsCell}

-- a delivery is an upset just where it upsets a cell
abbrev pub UpsetsAreOfCells : Type 0
UpsetsAreOfCells = (net : PlainNetlist) (state : State) (wire : ℕ) → length state.cell_states ≡ length net.cells
    → (deliver net state wire ≡ Upset) ↔ ((c : ℕ) × UpsetsCell net state wire c)

-- in a wired netlist the cell that a delivery upsets is that of the wire's one reader
abbrev pub ReadingCellsAreUpset : Type 0
ReadingCellsAreUpset = (net : PlainNetlist) → IsWired net → (state : State) (wire c : ℕ) → UpsetsCell net state wire c
    → (reader : Reader) × (readers net wire ≡ reader ∷ []) × IsReaderOf reader c × (reading_cell net wire ≡ c)
