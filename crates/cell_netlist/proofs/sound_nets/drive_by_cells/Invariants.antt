use Rattle.std.proofs.Common.{◌≡◌, ◌≤◌, length, drop}
use Rattle.std.specs.List.{flat_map}
use Rattle.cell_netlist.specs.Netlists.{wire_bound, outs}
use Rattle.cell_netlist.specs.Places.{cell_places, driving}
use Rattle.cell_netlist.specs.PlaceTables.{written}
use Rattle.cell_netlist.proofs.sound_nets.drive_by_cells.Given as goal

abbrev pub invariant-loop-number : goal.invariant-loop-number
invariant-loop-number l = (written (cell_places driving l.number (drop l.number l.cells)) l.table ≡ written (cell_places driving 0 l.cells) l.fn.table)
    × (wire_bound (flat_map outs (drop l.number l.cells)) ≤ length l.table)
