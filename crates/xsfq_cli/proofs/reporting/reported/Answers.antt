-- The report on the netlist that a sound one is.
use Rattle.std.proofs.Common.{subst}
use Rattle.cell_netlist.specs.Netlists.{PlainNetlist, IsNetlist}
use Rattle.xsfq_cli.proofs.reporting.reported.Goals as goal

pub returns-clause-netlist : goal.returns-clause-netlist
returns-clause-netlist c = subst (λ (net : PlainNetlist). IsNetlist net) c.net.ensures.net c.wires.ensures.netlist

pub returns-clause-report : goal.returns-clause-report
returns-clause-report c = c.report.ensures
