-- A piece that fails leaves the pieces before it.
use Rattle.std.proofs.Common.{◌++◌, ◌∙◌, codes}
use Rattle.std.specs.List.{flat_map}
use Rattle.netlist_writer.specs.Texts.{rail_line, cell_line}
use Rattle.byte_ports.proofs.CallerLemmas.{wrote_first, wrote_second, ok_so, err_so, written_of}
use Rattle.netlist_writer.proofs.writing.write_circuit.Goals as goal

pub returns-in_err-write_rails-clause-written : goal.returns-in_err-write_rails-clause-written
returns-in_err-write_rails-clause-written g c =
    wrote_first _ _ _ _ _ _ (flat_map (rail_line (codes "input")) c.args.net.now.input_rails)
    (flat_map cell_line c.args.net.now.cells ++ flat_map (rail_line (codes "output")) c.args.net.now.output_rails)
    (err_so c.in_err-write_rails.was) c.from_residual.ensures.0
    (written_of (rail_line (codes "input")) _ _ _ _ _ _ _ (c.items.ensures ∙ c.input_rails.ensures) c.write_rails.ensures.written)

pub returns-in_err-write_cells-clause-written : goal.returns-in_err-write_cells-clause-written
returns-in_err-write_cells-clause-written g c =
    wrote_second _ _ _ _ _ _ _ _ (flat_map (rail_line (codes "input")) c.args.net.now.input_rails)
    (flat_map cell_line c.args.net.now.cells ++ flat_map (rail_line (codes "output")) c.args.net.now.output_rails)
    (ok_so c.in_ok-write_rails.was)
    (written_of (rail_line (codes "input")) _ _ _ _ _ _ _ (c.items.ensures ∙ c.input_rails.ensures) c.write_rails.ensures.written)
    (wrote_first _ _ _ _ _ _ (flat_map cell_line c.args.net.now.cells) (flat_map (rail_line (codes "output")) c.args.net.now.output_rails)
    (err_so c.in_err-write_cells.was) c.from_residual-in_err-write_cells.ensures.0
    (written_of cell_line _ _ _ _ _ _ _ (c.items-2.ensures ∙ c.cells.ensures) c.write_cells.ensures.written))

pub returns-clause-written : goal.returns-clause-written
returns-clause-written g c =
    wrote_second _ _ _ _ _ _ _ _ (flat_map (rail_line (codes "input")) c.args.net.now.input_rails)
    (flat_map cell_line c.args.net.now.cells ++ flat_map (rail_line (codes "output")) c.args.net.now.output_rails)
    (ok_so c.in_ok-write_rails.was)
    (written_of (rail_line (codes "input")) _ _ _ _ _ _ _ (c.items.ensures ∙ c.input_rails.ensures) c.write_rails.ensures.written)
    (wrote_second _ _ _ _ _ _ _ _ (flat_map cell_line c.args.net.now.cells) (flat_map (rail_line (codes "output")) c.args.net.now.output_rails)
    (ok_so c.in_ok-write_cells.was)
    (written_of cell_line _ _ _ _ _ _ _ (c.items-2.ensures ∙ c.cells.ensures) c.write_cells.ensures.written)
    (written_of (rail_line (codes "output")) _ _ _ _ _ _ _ (c.items-3.ensures ∙ c.output_rails.ensures) c.write_rails-2.ensures.written))
