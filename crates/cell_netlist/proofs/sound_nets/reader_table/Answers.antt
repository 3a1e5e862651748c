use Rattle.std.proofs.Common.{length, replicate, ap, ◌∙◌, sym, arith}
use Rattle.std.proofs.lemmas.List.{length-replicate}
use Rattle.pulse_ids.specs.Ids.{numbered}
use Rattle.cell_netlist.specs.declared.lines.Reader.TheVariants as readers_of
use Rattle.cell_netlist.specs.Netlists.{number_of_wires}
use Rattle.cell_netlist.specs.Places.{reading, cell_places, rail_places}
use Rattle.cell_netlist.proofs.WireBounds.{number_of_wires-parts}
use Rattle.cell_netlist.proofs.TableLemmas.{numbered-is, written-append, written-length}
use Rattle.cell_netlist.proofs.sound_nets.reader_table.Goals as goal

pub read_by_cells-requires : goal.read_by_cells-requires
read_by_cells-requires c =
    let parts = number_of_wires-parts c.args.net.now in
    let many = ap length c.in_ok-table.ensures ∙ length-replicate _ _ in
    let wires = c.wires.ensures.value in
    rw c.cells.ensures (omega arith)

pub read_by_rails-requires : goal.read_by_rails-requires
read_by_rails-requires c =
    let parts = number_of_wires-parts c.args.net.now in
    let many = ap length c.in_ok-table.ensures ∙ length-replicate _ _ in
    let long = ap length c.read_by_cells.ensures ∙ written-length (cell_places reading 0 c.cells.result.now) c.in_ok-table.table in
    let wires = c.wires.ensures.value in
    rw c.output_rails.ensures (omega arith)

pub returns : goal.returns
returns c =
    rw (c.read_by_rails.ensures, c.output_rails.ensures, c.read_by_cells.ensures, c.cells.ensures, c.in_ok-table.ensures, c.wires.ensures.value, numbered-is c.new.result 0 c.new.ensures)
    (sym (written-append (cell_places reading 0 c.args.net.now.cells) (rail_places (λ r. readers_of.Output (numbered r)) 0 c.args.net.now.output_rails)
    (replicate (number_of_wires c.args.net.now) (readers_of.Output (numbered 0)))))
