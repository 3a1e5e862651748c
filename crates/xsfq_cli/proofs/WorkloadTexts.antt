-- The text of a workload is the netlist that `compile` makes of the counter's text, and one summary of it.
use Rattle.std.proofs.Common.{◌≡◌, ◌≤◌, ℕ, Bool, true, List, [], ◌∷◌, replicate, Ok, refl, sym, subst}
use Rattle.source_machine.specs.declared.unset.Unset.TheVariants.{Refuse}
use Rattle.source_machine.specs.Grounding.{IsWellFounded}
use Rattle.source_machine.specs.Machines.{PlainMachine}
use Rattle.aiger_reader.specs.Sources.{IsVerdictOf}
use Rattle.cell_netlist.specs.declared.kinds.Ask.TheVariants.{Pos}
use Rattle.cell_netlist.specs.declared.kinds.Version.TheVariants.{One}
use Rattle.cell_netlist.specs.Netlists.{PlainNetlist}
use Rattle.counter_sources.specs.Sources.{counter_text, CountersAreRead}
use Rattle.junction_report.specs.declared.reports.Report.{Report}
use Rattle.junction_report.specs.Reports.{IsReport, ReportsAreUnique}
use Rattle.pulse_traces.specs.declared.orders.DeliveryOrder.TheVariants.{Mix}
use Rattle.pulse_traces.specs.declared.pulse_counts.PulseCounts.{PulseCounts}
use Rattle.pulse_traces.specs.CycleCounts.{CountsSimulation}
use Rattle.pulse_traces.specs.EveryOrder.{OneCount}
use Rattle.workload_circuits.specs.Counters.{counter}
use Rattle.workload_circuits.specs.Laws.{CountersAreFounded}
use Rattle.xsfq_cli.specs.declared.workloads.Work.{Work}
use Rattle.xsfq_cli.specs.Headline.{IsNetOf}
use Rattle.xsfq_cli.specs.Laws.{OneVerdict}
use Rattle.xsfq_cli.specs.Sources.{kind_of, Aiger, HasVerdict}
use Rattle.xsfq_cli.specs.Workloads.{work_text}
use Rattle.xsfq_cli.specs.WorkloadTexts.{WorkloadIsCompiled, CounterIsCompiled, OneWorkText}

-- a counter's text begins as AIGER does
counter-kind : (bits : ℕ) → kind_of (counter_text bits) ≡ Aiger
counter-kind bits = refl

module _ (read : CountersAreRead) where
  -- its verdict is the counter
  counter-verdict : (bits : ℕ) → bits ≤ 4096 → IsWellFounded (counter bits) → HasVerdict (counter_text bits) (Ok (counter bits))
  counter-verdict bits few founded = subst (λ said. IsVerdictOf said (Ok (counter bits))) (sym (read Refuse bits few)) (refl, founded)

  pub workload_is_compiled : WorkloadIsCompiled
  workload_is_compiled work few done = (
    work.net,
    record { machine = counter work.bits; verdict = counter-verdict work.bits few done.computes.founded; computes = done.computes; net_of = done.net_of },
    refl,
    refl,
  )

  pub counter_is_compiled : OneVerdict → CountersAreFounded → CounterIsCompiled
  counter_is_compiled one founded bits text ending few (net, compiled, text_is, done) =
      let same : Ok compiled.machine ≡ Ok (counter bits) =
      one (counter_text bits) (Ok compiled.machine) (Ok (counter bits)) compiled.verdict (counter-verdict bits few (founded bits few)) in
      let machine : compiled.machine ≡ counter bits = cc in
      (net, subst (λ (m : PlainMachine). IsNetOf m Pos One net) machine compiled.net_of, text_is, done)

work-text-same : (work other : Work) → work.bits ≡ other.bits → work.net ≡ other.net → work.report ≡ other.report → work.counts ≡ other.counts
    → work_text work ≡ work_text other
work-text-same work other b n r c = go work.bits other.bits work.net other.net work.report other.report work.counts other.counts b n r c
  where
    work_of : ℕ → PlainNetlist → Report → PulseCounts → Work
    work_of bits net report counts = record { bits = bits; net = net; report = report; counts = counts }

    go : (a b : ℕ) (n m : PlainNetlist) (r s : Report) (c d : PulseCounts) → a ≡ b → n ≡ m → r ≡ s → c ≡ d → work_text (work_of a n r c) ≡ work_text (work_of b m s d)
    go a b n m r s c d e f g h = rw (e, f, g, h) refl

-- the vectors of its simulation
abbrev sixteen : List (List Bool)
sixteen = replicate 16 (true ∷ [])

pub one_work_text : OneCount → ReportsAreUnique → OneWorkText
one_work_text one_count unique work other done also bits net =
    let report : work.report ≡ other.report =
    unique work.net done.net_of.sound work.report other.report done.reports (subst (λ n. IsReport n other.report) (sym net) also.reports) in
    let counted = subst (λ n. CountsSimulation (Mix other.bits) n sixteen other.counts) (sym net) also.counts in
    let again = subst (λ b. CountsSimulation (Mix b) work.net sixteen other.counts) (sym bits) counted in
    let counts = one_count (Mix work.bits) work.net sixteen work.counts other.counts done.counts again in
    (counts, work-text-same work other bits net report counts)
