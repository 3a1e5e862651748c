-- Places of cells where one is fed anew, and where one is added.
use Rattle.std.proofs.Common.{◌≡◌, ℕ, zero, suc, Some, List, [], ◌∷◌, ◌++◌, length, slice_get, refl, arith}
use Rattle.pulse_ids.specs.Ids.{WireId}
use Rattle.cell_netlist.specs.declared.lines.Cell.{Cell}
use Rattle.cell_netlist.specs.Netlists.{with_feed, cells_with_feed}
use Rattle.cell_netlist.proofs.CallerLemmas.{leaves_rest}
use Rattle.splitter_trees.specs.Spreading.{only_cells}
use Rattle.splitter_trees.proofs.CallerLemmas.{place_stays}

pub fed_there : (place : ℕ) (wire : WireId) (cells : List Cell) (cell : Cell) → slice_get cells place ≡ Some cell
    → slice_get (cells_with_feed place wire cells) place ≡ Some (with_feed wire cell)
fed_there place wire cells cell e = (leaves_rest wire (only_cells cells) place).fed cell e

pub fed_elsewhere : (place : ℕ) (wire : WireId) (cells : List Cell) (other : ℕ) → (other ≡ place → ⊥)
    → slice_get (cells_with_feed place wire cells) other ≡ slice_get cells other
fed_elsewhere place wire cells other ne = (leaves_rest wire (only_cells cells) place).others other ne

pub front_place : (cells : List Cell) (front : Cell) (place : ℕ) (cell : Cell) → slice_get cells place ≡ Some cell
    → slice_get (cells ++ front ∷ []) place ≡ Some cell
front_place cells front place cell e = place_stays cells (front ∷ []) place cell e

pub length-fed : (place : ℕ) (wire : WireId) (cells : List Cell) → length (cells_with_feed place wire cells) ≡ length cells
length-fed place wire [] = refl
length-fed zero wire (cell ∷ cells) = refl
length-fed (suc place) wire (cell ∷ cells) = let r = length-fed place wire cells in omega arith
