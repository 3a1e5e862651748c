-- A piece that fails leaves the pieces before it.
use Rattle.std.proofs.Common.{arith}
use Rattle.junction_report.specs.Texts.{spaced}
use Rattle.byte_ports.proofs.CallerLemmas.{wrote_up_to, err_so}
use Rattle.junction_report.proofs.writing.write_cells.Goals as goal

pub returns-in_err-write_cell-clause-written : goal.returns-in_err-write_cell-clause-written
returns-in_err-write_cell-clause-written g c =
    wrote_up_to (λ cell. spaced cell.number) c.args.cells.now c.loop-cell.cell-index _ _ _ _ _ _ _ _ _ (omega arith) c.loop-cell.invariant.written c.loop-cell.invariant.calm
    (err_so c.in_err-write_cell.was) c.from_residual.ensures.0 c.write_cell.ensures.written
