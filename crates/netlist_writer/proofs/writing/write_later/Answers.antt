-- The state lines, and then the names.
use Rattle.std.specs.List.{flat_map}
use Rattle.netlist_writer.specs.Texts.{state_line, names_text}
use Rattle.byte_ports.proofs.CallerLemmas.{wrote_first, wrote_second, ok_so, err_so, written_of}
use Rattle.netlist_writer.proofs.writing.write_later.Goals as goal

pub returns-in_err-write_states-clause-written : goal.returns-in_err-write_states-clause-written
returns-in_err-write_states-clause-written g c =
    wrote_first _ _ _ _ _ _ (flat_map state_line c.args.net.now.states) (names_text c.args.net.now)
    (err_so c.in_err-write_states.was) c.from_residual.ensures.0
    (written_of state_line _ _ _ _ _ _ _ c.state_lines.ensures c.write_states.ensures.written)

pub returns-clause-written : goal.returns-clause-written
returns-clause-written g c =
    wrote_second _ _ _ _ _ _ _ _ (flat_map state_line c.args.net.now.states) (names_text c.args.net.now)
    (ok_so c.in_ok-write_states.was)
    (written_of state_line _ _ _ _ _ _ _ c.state_lines.ensures c.write_states.ensures.written)
    c.write_both_names.ensures.written
