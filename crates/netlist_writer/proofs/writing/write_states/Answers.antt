-- A piece that fails leaves the pieces before it.
use Rattle.std.proofs.Common.{arith}
use Rattle.netlist_writer.specs.Texts.{state_line}
use Rattle.byte_ports.proofs.CallerLemmas.{wrote_up_to, err_so}
use Rattle.netlist_writer.proofs.writing.write_states.Goals as goal

pub returns-in_err-write_state-clause-written : goal.returns-in_err-write_state-clause-written
returns-in_err-write_state-clause-written g c =
    wrote_up_to state_line c.args.states.now c.loop-state.state-index _ _ _ _ _ _ _ _ _ (omega arith) c.loop-state.invariant.written c.loop-state.invariant.calm
    (err_so c.in_err-write_state.was) c.from_residual.ensures.0 c.write_state.ensures.written
