use Rattle.std.proofs.Common.{◌≡◌, ◌≤◌, map, length, drop}
use Rattle.pulse_ids.specs.Ids.{numbered}
use Rattle.cell_netlist.specs.declared.lines.Reader.TheVariants as readers_of
use Rattle.cell_netlist.specs.Netlists.{wire_bound, wire_of}
use Rattle.cell_netlist.specs.Places.{rail_places}
use Rattle.cell_netlist.specs.PlaceTables.{written}
use Rattle.cell_netlist.proofs.sound_nets.read_by_rails.Given as goal

abbrev pub invariant-loop-number : goal.invariant-loop-number
invariant-loop-number l = (written (rail_places (λ r. readers_of.Output (numbered r)) l.number (drop l.number l.rails)) l.table
    ≡ written (rail_places (λ r. readers_of.Output (numbered r)) 0 l.rails) l.fn.table)
    × (wire_bound (map wire_of (drop l.number l.rails)) ≤ length l.table)
