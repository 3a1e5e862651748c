-- A line that fails leaves the lines before it.
use Rattle.std.proofs.Common.{arith}
use Rattle.netlist_writer.specs.Texts.{name_line}
use Rattle.byte_ports.proofs.CallerLemmas.{wrote_up_to_item, err_so}
use Rattle.netlist_writer.proofs.writing.write_names.Goals as goal

pub returns-in_err-write_name-clause-written : goal.returns-in_err-write_name-clause-written
returns-in_err-write_name-clause-written g c =
    wrote_up_to_item (name_line c.args.side.now) c.args.names.now c.loop-named.named-index _ _ _ _ _ _ _ _ _ (omega arith) c.named-item.is c.loop-named.invariant.written c.loop-named.invariant.calm
    (err_so c.in_err-write_name.was) c.from_residual.ensures.0 c.write_name.ensures.written
