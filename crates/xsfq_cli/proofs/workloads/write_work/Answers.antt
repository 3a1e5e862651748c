-- A netlist that is not written whole leaves nothing behind it.
use Rattle.std.proofs.Common.{ap, subst}
use Rattle.byte_ports.specs.Writing.{WritesText}
use Rattle.byte_ports.proofs.CallerLemmas.{wrote_first, wrote_second, ok_so, err_so}
use Rattle.cell_netlist.specs.Text.{text_of}
use Rattle.xsfq_cli.specs.Workloads.{summary_text}
use Rattle.xsfq_cli.proofs.WorkloadLaws.{net_written}
use Rattle.xsfq_cli.proofs.workloads.write_work.Goals as goal

pub returns-in_err-write_netlist : goal.returns-in_err-write_netlist
returns-in_err-write_netlist g c =
    wrote_first _ _ _ _ _ _ (text_of c.args.work.now.net) (summary_text c.args.work.now)
    (err_so c.in_err-write_netlist.was) c.from_residual.ensures.0 (net_written _ _ _ _ _ _ _ c.net.ensures.net c.write_netlist.ensures.written)

pub returns : goal.returns
returns g c =
    wrote_second _ _ _ _ _ _ _ _ (text_of c.args.work.now.net) (summary_text c.args.work.now) (ok_so c.in_ok-write_netlist.was)
    (net_written _ _ _ _ _ _ _ c.net.ensures.net c.write_netlist.ensures.written) c.write_summary.ensures
