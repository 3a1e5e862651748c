use Rattle.std.proofs.Common.{length, replicate, ap, ◌∙◌, sym, arith}
use Rattle.std.proofs.lemmas.List.{length-replicate}
use Rattle.pulse_ids.specs.Ids.{numbered}
use Rattle.cell_netlist.specs.declared.lines.Driver.TheVariants as drivers_of
use Rattle.cell_netlist.specs.Netlists.{number_of_wires}
use Rattle.cell_netlist.specs.Places.{driving, cell_places, rail_places}
use Rattle.cell_netlist.proofs.WireBounds.{number_of_wires-parts}
use Rattle.cell_netlist.proofs.TableLemmas.{numbered-is, written-append, written-length}
use Rattle.cell_netlist.proofs.sound_nets.driver_table.Goals as goal

pub drive_by_rails-requires : goal.drive_by_rails-requires
drive_by_rails-requires c =
    let parts = number_of_wires-parts c.args.net.now in
    let many = ap length c.in_ok-table.ensures ∙ length-replicate _ _ in
    let wires = c.wires.ensures.value in
    rw c.input_rails.ensures (omega arith)

pub drive_by_cells-requires : goal.drive_by_cells-requires
drive_by_cells-requires c =
    let parts = number_of_wires-parts c.args.net.now in
    let many = ap length c.in_ok-table.ensures ∙ length-replicate _ _ in
    let long = ap length c.drive_by_rails.ensures ∙ written-length (rail_places (λ r. drivers_of.Input (numbered r)) 0 c.input_rails.result.now) c.in_ok-table.table in
    let wires = c.wires.ensures.value in
    rw c.cells.ensures (omega arith)

pub returns : goal.returns
returns c =
    rw (c.drive_by_cells.ensures, c.cells.ensures, c.drive_by_rails.ensures, c.input_rails.ensures, c.in_ok-table.ensures, c.wires.ensures.value, numbered-is c.new.result 0 c.new.ensures)
    (sym (written-append (rail_places (λ r. drivers_of.Input (numbered r)) 0 c.args.net.now.input_rails) (cell_places driving 0 c.args.net.now.cells)
    (replicate (number_of_wires c.args.net.now) (drivers_of.Input (numbered 0)))))
