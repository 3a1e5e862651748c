-- What `workload` does: it makes a counter, compiles it, reports on the netlist and simulates it.
use Rattle.std.specs.Prelude.{ℕ, ◌≤◌, ⊤, true, List, [], ◌∷◌, ◌++◌, codes, replicate}
use Rattle.cell_netlist.specs.declared.kinds.Ask.TheVariants.{Pos}
use Rattle.cell_netlist.specs.declared.kinds.Version.TheVariants.{One}
use Rattle.cell_netlist.specs.Netlists.{number_of_wires}
use Rattle.cell_netlist.specs.Text.{text_of}
use Rattle.junction_report.specs.Reports.{IsReport}
use Rattle.junction_report.specs.Texts.{numbered_line, sizes_text}
use Rattle.pulse_traces.specs.declared.orders.DeliveryOrder.TheVariants.{Mix}
use Rattle.pulse_traces.specs.CycleCounts.{CountsSimulation}
use Rattle.workload_circuits.specs.Counters.{counter}
use Rattle.xsfq_cli.specs.declared.orders.Order.{Order}
use Rattle.xsfq_cli.specs.declared.orders.Order.TheVariants.{Check, Compile, Report, Simulate, Workload}
use Rattle.xsfq_cli.specs.declared.workloads.Work.{Work}
use Rattle.xsfq_cli.specs.Headline.{ComputesOnce, IsNetOf}

-- an order that words may give: a counter has at least one bit and at most 4,096
abbrev pub IsInRange : Order → Type 0
IsInRange (Compile ask version) = ⊤
IsInRange Check = ⊤
IsInRange Report = ⊤
IsInRange (Simulate schedule trace) = ⊤
IsInRange (Workload bits) = (1 ≤ bits) × (bits ≤ 4096)

-- The headline of `workload`. A counter of so many bits computes one thing; the netlist is one of it, with the positive rail
-- of each output; the report is that on the netlist; and the counts are those of its simulation for 16 cycles in which the
-- counter's input is 1, in the order `mix` of its number of bits.
pub record IsDone (work : Work) : Type 0 where
  pub computes : ComputesOnce (counter work.bits)
  pub net_of : IsNetOf (counter work.bits) Pos One work.net
  pub reports : IsReport work.net work.report
  pub counts : CountsSimulation (Mix work.bits) work.net (replicate 16 (true ∷ [])) work.counts

-- the lines before those of the report, and the lines after them
abbrev pub head_text : Work → List ℕ
head_text work = numbered_line (codes "workload", work.bits) ++ numbered_line (codes "wires", number_of_wires work.net)

abbrev pub tail_text : Work → List ℕ
tail_text work = numbered_line (codes "deliveries", work.counts.deliveries) ++ numbered_line (codes "ones", work.counts.ones)

-- the summary behind the netlist's text
abbrev pub summary_text : Work → List ℕ
summary_text work = head_text work ++ (sizes_text work.report ++ tail_text work)

abbrev pub work_text : Work → List ℕ
work_text work = text_of work.net ++ summary_text work
