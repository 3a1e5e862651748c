-- The text in four pieces.
use Rattle.std.proofs.Common.{◌++◌, codes}
use Rattle.byte_ports.proofs.CallerLemmas.{wrote_first, wrote_second, ok_so, err_so}
use Rattle.netlist_writer.specs.Texts.{head_text, circuit_text, later_text}
use Rattle.netlist_writer.proofs.TextLemmas.{text_in_pieces}
use Rattle.netlist_writer.proofs.writing.write_netlist.Goals as goal

pub returns-in_err-write_head-clause-written : goal.returns-in_err-write_head-clause-written
returns-in_err-write_head-clause-written g c = rw (text_in_pieces c.args.net.now)
    (wrote_first _ _ _ _ _ _ (head_text c.args.net.now) (circuit_text c.args.net.now ++ (later_text c.args.net.now ++ codes "end\n"))
    (err_so c.in_err-write_head.was) c.from_residual.ensures.0 c.write_head.ensures.written)

pub returns-in_err-write_circuit-clause-written : goal.returns-in_err-write_circuit-clause-written
returns-in_err-write_circuit-clause-written g c = rw (text_in_pieces c.args.net.now)
    (wrote_second _ _ _ _ _ _ _ _ (head_text c.args.net.now) (circuit_text c.args.net.now ++ (later_text c.args.net.now ++ codes "end\n"))
    (ok_so c.in_ok-write_head.was) c.write_head.ensures.written
    (wrote_first _ _ _ _ _ _ (circuit_text c.args.net.now) (later_text c.args.net.now ++ codes "end\n")
    (err_so c.in_err-write_circuit.was) c.from_residual-in_err-write_circuit.ensures.0 c.write_circuit.ensures.written))

pub returns-in_err-write_later-clause-written : goal.returns-in_err-write_later-clause-written
returns-in_err-write_later-clause-written g c = rw (text_in_pieces c.args.net.now)
    (wrote_second _ _ _ _ _ _ _ _ (head_text c.args.net.now) (circuit_text c.args.net.now ++ (later_text c.args.net.now ++ codes "end\n"))
    (ok_so c.in_ok-write_head.was) c.write_head.ensures.written
    (wrote_second _ _ _ _ _ _ _ _ (circuit_text c.args.net.now) (later_text c.args.net.now ++ codes "end\n")
    (ok_so c.in_ok-write_circuit.was) c.write_circuit.ensures.written
    (wrote_first _ _ _ _ _ _ (later_text c.args.net.now) (codes "end\n")
    (err_so c.in_err-write_later.was) c.from_residual-in_err-write_later.ensures.0 c.write_later.ensures.written)))

pub returns-clause-written : goal.returns-clause-written
returns-clause-written g c = rw (text_in_pieces c.args.net.now)
    (wrote_second _ _ _ _ _ _ _ _ (head_text c.args.net.now) (circuit_text c.args.net.now ++ (later_text c.args.net.now ++ codes "end\n"))
    (ok_so c.in_ok-write_head.was) c.write_head.ensures.written
    (wrote_second _ _ _ _ _ _ _ _ (circuit_text c.args.net.now) (later_text c.args.net.now ++ codes "end\n")
    (ok_so c.in_ok-write_circuit.was) c.write_circuit.ensures.written
    (wrote_second _ _ _ _ _ _ _ _ (later_text c.args.net.now) (codes "end\n")
    (ok_so c.in_ok-write_later.was) c.write_later.ensures.written c.write_line.ensures.written)))
