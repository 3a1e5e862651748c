-- The wires of the rails and of the cells from a number on.
use Rattle.std.proofs.Common.{◌≡◌, ◌+◌, ℕ, max, Some, List, drop, map, slice_get, refl}
use Rattle.std.specs.List.{flat_map}
use Rattle.cell_netlist.specs.declared.lines.Rail.{Rail}
use Rattle.cell_netlist.specs.declared.lines.Cell.{Cell}
use Rattle.cell_netlist.specs.Netlists.{wire_of, wire_bound}
use Rattle.cell_netlist.proofs.CallerLemmas.{wire_bound-append}
use Rattle.cell_netlist.proofs.CallerLemmasOnLists.{drop-at}

pub rail_bound : (rails : List Rail) (i : ℕ) (rail : Rail) → slice_get rails i ≡ Some rail
    → wire_bound (map wire_of (drop i rails)) ≡ max (wire_of rail + 1) (wire_bound (map wire_of (drop (i + 1) rails)))
rail_bound rails i rail e = rw (drop-at rails i rail e) refl

pub cell_bounds : (wires : Cell → List ℕ) (cells : List Cell) (i : ℕ) (cell : Cell) → slice_get cells i ≡ Some cell
    → wire_bound (flat_map wires (drop i cells)) ≡ max (wire_bound (wires cell)) (wire_bound (flat_map wires (drop (i + 1) cells)))
cell_bounds wires cells i cell e = rw (drop-at cells i cell e) (wire_bound-append (wires cell) (flat_map wires (drop (i + 1) cells)))
