-- The names of the inputs, and then those of the outputs.
use Rattle.std.proofs.Common.{codes}
use Rattle.std.specs.List.{flat_map}
use Rattle.netlist_writer.specs.Texts.{name_line}
use Rattle.byte_ports.proofs.CallerLemmas.{wrote_first, wrote_second, ok_so, err_so, written_of}
use Rattle.netlist_writer.proofs.writing.write_both_names.Goals as goal

pub returns-in_err-write_names-clause-written : goal.returns-in_err-write_names-clause-written
returns-in_err-write_names-clause-written g c =
    wrote_first _ _ _ _ _ _ (flat_map (name_line (codes "iname")) c.args.net.now.input_names) (flat_map (name_line (codes "oname")) c.args.net.now.output_names)
    (err_so c.in_err-write_names.was) c.from_residual.ensures.0
    (written_of (name_line (codes "iname")) _ _ _ _ _ _ _ c.input_names.ensures c.write_names.ensures.written)

pub returns-clause-written : goal.returns-clause-written
returns-clause-written g c =
    wrote_second _ _ _ _ _ _ _ _ (flat_map (name_line (codes "iname")) c.args.net.now.input_names) (flat_map (name_line (codes "oname")) c.args.net.now.output_names)
    (ok_so c.in_ok-write_names.was)
    (written_of (name_line (codes "iname")) _ _ _ _ _ _ _ c.input_names.ensures c.write_names.ensures.written)
    (written_of (name_line (codes "oname")) _ _ _ _ _ _ _ c.output_names.ensures c.write_names-2.ensures.written)
