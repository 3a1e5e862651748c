-- The work is that of the counter.
use Rattle.std.proofs.Common.{◌∙◌, length, ap, subst}
use Rattle.cell_netlist.specs.declared.kinds.Ask.TheVariants.{Pos}
use Rattle.cell_netlist.specs.declared.kinds.Version.TheVariants.{One}
use Rattle.source_machine.specs.Machines.{PlainMachine}
use Rattle.xsfq_cli.specs.Headline.{ComputesOnce, IsNetOf}
use Rattle.xsfq_cli.proofs.workloads.do_work.Goals as goal

pub pulses-requires : goal.pulses-requires
pulses-requires c = c.in_ok-net.ensures.net.named.inputs ∙ ap (λ (machine : PlainMachine). length machine.inputs) c.in_ok-machine.ensures

pub returns-clause-work : goal.returns-clause-work
returns-clause-work c = record {
  computes = subst ComputesOnce c.in_ok-machine.ensures c.in_ok-net.ensures.computes;
  net_of = subst (λ (machine : PlainMachine). IsNetOf machine Pos One c.in_ok-net.net) c.in_ok-machine.ensures c.in_ok-net.ensures.net;
  reports = c.in_ok-report.ensures;
  counts = c.in_ok-counts.ensures;
}
