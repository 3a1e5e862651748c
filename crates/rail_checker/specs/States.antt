-- The marks of cells that state lines name.
use Rattle.std.specs.Prelude.{ℕ, Bool, false, not, ◌&&◌, List, get_or, slice_get}
use Rattle.cell_netlist.specs.declared.lines.Cell.{Cell}
use Rattle.cell_netlist.specs.Decisions.{is_some_with, is_back}

-- the cell of a number is a back, and isn't marked
abbrev pub is_new_back : List Cell → List Bool → ℕ → Bool
is_new_back cells marks cell = is_some_with is_back (slice_get cells cell) && not (get_or marks cell false)
