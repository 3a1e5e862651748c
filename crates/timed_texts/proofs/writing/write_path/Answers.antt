-- A piece that fails leaves the pieces before it.
use Rattle.std.proofs.Common.{◌∷◌, ◌++◌, [], codes}
use Rattle.std.specs.List.{flat_map}
use Rattle.byte_ports.proofs.CallerLemmas.{wrote_first, wrote_second, ok_so, err_so}
use Rattle.timed_texts.specs.Texts.{spaced_cell}
use Rattle.timed_texts.proofs.TextLines.{line_in_pieces}
use Rattle.timed_texts.proofs.writing.write_path.Goals as goal

pub returns-in_err-write_all-clause-written : goal.returns-in_err-write_all-clause-written
returns-in_err-write_all-clause-written g c = rw (line_in_pieces (codes "path") c.args.bound.now.path)
    (wrote_first _ _ _ _ _ _ (codes "path") (flat_map spaced_cell c.args.bound.now.path ++ 10 ∷ [])
    (err_so c.in_err-write_all.was) c.from_residual.ensures.0 c.write_all.ensures.written)

pub returns-in_err-write_cells-clause-written : goal.returns-in_err-write_cells-clause-written
returns-in_err-write_cells-clause-written g c = rw (line_in_pieces (codes "path") c.args.bound.now.path)
    (wrote_second _ _ _ _ _ _ _ _ (codes "path") (flat_map spaced_cell c.args.bound.now.path ++ 10 ∷ []) (ok_so c.in_ok-write_all.was) c.write_all.ensures.written
    (wrote_first _ _ _ _ _ _ (flat_map spaced_cell c.args.bound.now.path) (10 ∷ [])
    (err_so c.in_err-write_cells.was) c.from_residual-in_err-write_cells.ensures.0 c.write_cells.ensures.written))

pub returns-clause-written : goal.returns-clause-written
returns-clause-written g c = rw (line_in_pieces (codes "path") c.args.bound.now.path)
    (wrote_second _ _ _ _ _ _ _ _ (codes "path") (flat_map spaced_cell c.args.bound.now.path ++ 10 ∷ []) (ok_so c.in_ok-write_all.was) c.write_all.ensures.written
    (wrote_second _ _ _ _ _ _ _ _ (flat_map spaced_cell c.args.bound.now.path) (10 ∷ []) (ok_so c.in_ok-write_cells.was) c.write_cells.ensures.written c.write_all-2.ensures.written))
