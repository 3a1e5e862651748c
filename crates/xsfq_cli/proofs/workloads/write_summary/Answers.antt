-- A part that fails leaves the parts before it.
use Rattle.std.proofs.Common.{◌++◌}
use Rattle.byte_ports.proofs.CallerLemmas.{wrote_first, wrote_second, ok_so, err_so}
use Rattle.junction_report.specs.Texts.{sizes_text}
use Rattle.xsfq_cli.specs.Workloads.{head_text, tail_text}
use Rattle.xsfq_cli.proofs.workloads.write_summary.Goals as goal

pub returns-in_err-write_head : goal.returns-in_err-write_head
returns-in_err-write_head g c =
    wrote_first _ _ _ _ _ _ (head_text c.args.work.now) (sizes_text c.args.work.now.report ++ tail_text c.args.work.now)
    (err_so c.in_err-write_head.was) c.from_residual.ensures.0 c.write_head.ensures

pub returns-in_err-write_sizes : goal.returns-in_err-write_sizes
returns-in_err-write_sizes g c =
    wrote_second _ _ _ _ _ _ _ _ (head_text c.args.work.now) (sizes_text c.args.work.now.report ++ tail_text c.args.work.now)
    (ok_so c.in_ok-write_head.was) c.write_head.ensures
    (wrote_first _ _ _ _ _ _ (sizes_text c.args.work.now.report) (tail_text c.args.work.now)
    (err_so c.in_err-write_sizes.was) c.from_residual-in_err-write_sizes.ensures.0 c.write_sizes.ensures.written)

pub returns : goal.returns
returns g c =
    wrote_second _ _ _ _ _ _ _ _ (head_text c.args.work.now) (sizes_text c.args.work.now.report ++ tail_text c.args.work.now)
    (ok_so c.in_ok-write_head.was) c.write_head.ensures
    (wrote_second _ _ _ _ _ _ _ _ (sizes_text c.args.work.now.report) (tail_text c.args.work.now)
    (ok_so c.in_ok-write_sizes.was) c.write_sizes.ensures.written c.write_tail.ensures)
