-- What each command makes of its input. A new command adds a line to each definition.
use Rattle.std.specs.Prelude.{◌≡◌, ◌+◌, ℕ, Bool, true, false, List, Option, None, Err}
use Rattle.pulse_ids.specs.Quantities.{greatest_of}
use Rattle.pulse_ids.specs.declared.quantities.Quantity.TheVariants.{NetBytes, SourceBytes, TailBytes}
use Rattle.cell_netlist.specs.Netlists.{PlainNetlist}
use Rattle.cell_netlist.specs.Text.{text_of}
use Rattle.xsfq_cli.specs.declared.orders.Order.{Order}
use Rattle.xsfq_cli.specs.declared.orders.Order.TheVariants.{Check, Compile, Report, Simulate, Workload}
use Rattle.run_outcomes.specs.declared.outcomes.Outcome.{Outcome}
use Rattle.run_outcomes.specs.declared.outcomes.Outcome.TheVariants.{Done}
use Rattle.xsfq_cli.specs.Checked.{HasCheck, IsChecked, sound_line}
use Rattle.xsfq_cli.specs.Headline.{IsCompiled}
use Rattle.xsfq_cli.specs.NetTexts.{net_shown}
use Rattle.xsfq_cli.specs.Reported.{IsReported}
use Rattle.xsfq_cli.specs.declared.simulation_inputs.SoundInput.{SoundInput}
use Rattle.xsfq_cli.specs.Simulated.{has_scripts, HasInput, input_shown, IsSimulation}
use Rattle.xsfq_cli.specs.Sources.{source_shown, HasVerdict}
use Rattle.xsfq_cli.specs.declared.workloads.Work.{Work}
use Rattle.xsfq_cli.specs.Workloads.{IsDone, work_text}

-- it reads its input
abbrev pub reads : Order → Bool
reads (Compile ask version) = true
reads Check = true
reads Report = true
reads (Simulate schedule trace) = true
reads (Workload bits) = false

-- the greatest number of bytes of an input that is not refused
abbrev pub most_bytes : Order → ℕ
most_bytes (Compile ask version) = greatest_of SourceBytes
most_bytes Check = greatest_of NetBytes
most_bytes Report = greatest_of NetBytes
most_bytes (Simulate schedule trace) = greatest_of NetBytes + greatest_of TailBytes
most_bytes (Workload bits) = 0

-- the refusal that the first bytes of the input show, whatever follows them
abbrev pub shown : Order → List ℕ → Option Outcome
shown (Compile ask version) bytes = source_shown bytes
shown Check bytes = net_shown bytes
shown Report bytes = net_shown bytes
shown (Simulate schedule trace) bytes = input_shown (has_scripts schedule) bytes
shown (Workload bits) bytes = None

-- the whole input is refused by this outcome
abbrev pub Refuses : Order → List ℕ → Outcome → Type 0
Refuses (Compile ask version) bytes outcome = HasVerdict bytes (Err outcome)
Refuses Check bytes outcome = HasCheck bytes (Err outcome)
Refuses Report bytes outcome = HasCheck bytes (Err outcome)
Refuses (Simulate schedule trace) bytes outcome = HasInput (has_scripts schedule) bytes (Err outcome)
Refuses (Workload bits) bytes outcome = ⊥

-- the command's text for the whole input, and the outcome where the output takes all of it
abbrev pub Writes : Order → List ℕ → List ℕ → Outcome → Type 0
Writes (Compile ask version) bytes text ending = (net : PlainNetlist) × IsCompiled ask version bytes net × (text ≡ text_of net) × (ending ≡ Done)
Writes Check bytes text ending = (net : PlainNetlist) × IsChecked bytes net × (text ≡ sound_line net) × (ending ≡ Done)
Writes Report bytes text ending = (net : PlainNetlist) × IsReported bytes net text × (ending ≡ Done)
Writes (Simulate schedule trace) bytes text ending = (input : SoundInput) × IsSimulation schedule trace bytes input text ending
Writes (Workload bits) bytes text ending = (work : Work) × (work.bits ≡ bits) × IsDone work × (text ≡ work_text work) × (ending ≡ Done)
