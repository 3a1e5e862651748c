-- What the text of `workload` is: the netlist that `compile` makes of the counter's text, and one summary of it.
use Rattle.std.specs.Prelude.{◌≡◌, ◌≤◌, ℕ, List}
use Rattle.cell_netlist.specs.declared.kinds.Ask.TheVariants.{Pos}
use Rattle.cell_netlist.specs.declared.kinds.Version.TheVariants.{One}
use Rattle.cell_netlist.specs.Netlists.{PlainNetlist}
use Rattle.cell_netlist.specs.Text.{text_of}
use Rattle.counter_sources.specs.Sources.{counter_text}
use Rattle.run_outcomes.specs.declared.outcomes.Outcome.{Outcome}
use Rattle.run_outcomes.specs.declared.outcomes.Outcome.TheVariants as outcomes
use Rattle.workload_circuits.specs.Counters.{counter}
use Rattle.xsfq_cli.specs.declared.orders.Order.TheVariants.{Compile}
use Rattle.xsfq_cli.specs.declared.workloads.Work.{Work}
use Rattle.xsfq_cli.specs.Headline.{IsNetOf}
use Rattle.xsfq_cli.specs.Judgements.{Writes}
use Rattle.xsfq_cli.specs.Workloads.{IsDone, work_text}

-- The netlist's text that `workload` writes is one that `compile` writes for the counter's text.
abbrev pub WorkloadIsCompiled : Type 0
WorkloadIsCompiled =
    (work : Work) → work.bits ≤ 4096 → IsDone work → Writes (Compile Pos One) (counter_text work.bits) (text_of work.net) outcomes.Done

-- And for the counter's text `compile` writes nothing but the text of a netlist of that counter.
abbrev pub CounterIsCompiled : Type 0
CounterIsCompiled =
    (bits : ℕ) (text : List ℕ) (ending : Outcome) → bits ≤ 4096 → Writes (Compile Pos One) (counter_text bits) text ending
    → (net : PlainNetlist) × IsNetOf (counter bits) Pos One net × (text ≡ text_of net) × (ending ≡ outcomes.Done)

-- A counter's netlist has one report and one pair of counts, and so one text.
abbrev pub OneWorkText : Type 0
OneWorkText =
    (work other : Work) → IsDone work → IsDone other → work.bits ≡ other.bits → work.net ≡ other.net
    → (work.counts ≡ other.counts) × (work_text work ≡ work_text other)
