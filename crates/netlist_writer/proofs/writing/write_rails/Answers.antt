-- A piece that fails leaves the pieces before it.
use Rattle.std.proofs.Common.{arith}
use Rattle.netlist_writer.specs.Texts.{rail_line}
use Rattle.byte_ports.proofs.CallerLemmas.{wrote_up_to, err_so}
use Rattle.netlist_writer.proofs.writing.write_rails.Goals as goal

pub returns-in_err-write_rail-clause-written : goal.returns-in_err-write_rail-clause-written
returns-in_err-write_rail-clause-written g c =
    wrote_up_to (rail_line c.args.side.now) c.args.rails.now c.loop-rail.rail-index _ _ _ _ _ _ _ _ _ (omega arith) c.loop-rail.invariant.written c.loop-rail.invariant.calm
    (err_so c.in_err-write_rail.was) c.from_residual.ensures.0 c.write_rail.ensures.written
