-- A piece that fails leaves the pieces before it.
use Rattle.std.proofs.Common.{◌++◌}
use Rattle.byte_ports.proofs.CallerLemmas.{wrote_first, wrote_second, ok_so, err_so}
use Rattle.junction_report.specs.Texts.{rails_text, sizes_text, path_line}
use Rattle.junction_report.proofs.writing.write_report.Goals as goal

pub returns-in_err-write_rails-clause-written : goal.returns-in_err-write_rails-clause-written
returns-in_err-write_rails-clause-written g c =
    wrote_first _ _ _ _ _ _ (rails_text c.args.report.now) (sizes_text c.args.report.now ++ path_line c.args.report.now)
    (err_so c.in_err-write_rails.was) c.from_residual.ensures.0 c.write_rails.ensures.written

pub returns-in_err-write_sizes-clause-written : goal.returns-in_err-write_sizes-clause-written
returns-in_err-write_sizes-clause-written g c =
    wrote_second _ _ _ _ _ _ _ _ (rails_text c.args.report.now) (sizes_text c.args.report.now ++ path_line c.args.report.now)
    (ok_so c.in_ok-write_rails.was) c.write_rails.ensures.written
    (wrote_first _ _ _ _ _ _ (sizes_text c.args.report.now) (path_line c.args.report.now)
    (err_so c.in_err-write_sizes.was) c.from_residual-in_err-write_sizes.ensures.0 c.write_sizes.ensures.written)

pub returns-clause-written : goal.returns-clause-written
returns-clause-written g c =
    wrote_second _ _ _ _ _ _ _ _ (rails_text c.args.report.now) (sizes_text c.args.report.now ++ path_line c.args.report.now)
    (ok_so c.in_ok-write_rails.was) c.write_rails.ensures.written
    (wrote_second _ _ _ _ _ _ _ _ (sizes_text c.args.report.now) (path_line c.args.report.now)
    (ok_so c.in_ok-write_sizes.was) c.write_sizes.ensures.written c.write_path.ensures.written)
