-- A piece that fails leaves the pieces before it.
use Rattle.std.proofs.Common.{◌∷◌, ◌++◌, [], codes}
use Rattle.std.specs.List.{flat_map}
use Rattle.byte_ports.proofs.CallerLemmas.{wrote_first, wrote_second, written_of, ok_so, err_so}
use Rattle.junction_report.specs.Texts.{spaced}
use Rattle.junction_report.proofs.ReportLines.{line_in_pieces}
use Rattle.junction_report.proofs.writing.write_path.Goals as goal

pub returns-in_err-write_all-clause-written : goal.returns-in_err-write_all-clause-written
returns-in_err-write_all-clause-written g c = rw (line_in_pieces (codes "path") c.args.report.now.path)
    (wrote_first _ _ _ _ _ _ (codes "path") (flat_map (λ cell. spaced cell.number) c.args.report.now.path ++ 10 ∷ [])
    (err_so c.in_err-write_all.was) c.from_residual.ensures.0 c.write_all.ensures.written)

pub returns-in_err-write_cells-clause-written : goal.returns-in_err-write_cells-clause-written
returns-in_err-write_cells-clause-written g c = rw (line_in_pieces (codes "path") c.args.report.now.path)
    (wrote_second _ _ _ _ _ _ _ _ (codes "path") (flat_map (λ cell. spaced cell.number) c.args.report.now.path ++ 10 ∷ []) (ok_so c.in_ok-write_all.was) c.write_all.ensures.written
    (wrote_first _ _ _ _ _ _ (flat_map (λ cell. spaced cell.number) c.args.report.now.path) (10 ∷ [])
    (err_so c.in_err-write_cells.was) c.from_residual-in_err-write_cells.ensures.0
    (written_of (λ cell. spaced cell.number) _ _ _ _ _ _ _ c.cells.ensures c.write_cells.ensures.written)))

pub returns-clause-written : goal.returns-clause-written
returns-clause-written g c = rw (line_in_pieces (codes "path") c.args.report.now.path)
    (wrote_second _ _ _ _ _ _ _ _ (codes "path") (flat_map (λ cell. spaced cell.number) c.args.report.now.path ++ 10 ∷ []) (ok_so c.in_ok-write_all.was) c.write_all.ensures.written
    (wrote_second _ _ _ _ _ _ _ _ (flat_map (λ cell. spaced cell.number) c.args.report.now.path) (10 ∷ []) (ok_so c.in_ok-write_cells.was)
    (written_of (λ cell. spaced cell.number) _ _ _ _ _ _ _ c.cells.ensures c.write_cells.ensures.written) c.write_all-2.ensures.written))
