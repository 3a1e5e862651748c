-- A piece that fails leaves the pieces before it.
use Rattle.std.proofs.Common.{arith}
use Rattle.junction_report.specs.Texts.{line_text}
use Rattle.byte_ports.proofs.CallerLemmas.{wrote_up_to, err_so}
use Rattle.junction_report.proofs.writing.write_lines.Goals as goal

pub returns-in_err-write_line-clause-written : goal.returns-in_err-write_line-clause-written
returns-in_err-write_line-clause-written g c =
    wrote_up_to line_text c.args.lines.now c.loop-line.line-index _ _ _ _ _ _ _ _ _ (omega arith) c.loop-line.invariant.written c.loop-line.invariant.calm
    (err_so c.in_err-write_line.was) c.from_residual.ensures.0 c.write_line.ensures.written
