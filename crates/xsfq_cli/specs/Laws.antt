-- What the table gives, and what the judgements of commands are.
use Rattle.std.specs.Prelude.{◌≡◌, ◌⊎◌, ◌↔◌, ◌<◌, ◌≤◌, ◌+◌, ◌-◌, ◌^◌, ◌++◌, ℕ, Bool, true, false, List, Some, None, Result, Ok, length}
use Rattle.std.specs.Io.KnownBytes.{Consumes}
use Rattle.byte_ports.specs.Causes.{Rose}
use Rattle.source_machine.specs.Machines.{PlainMachine}
use Rattle.cell_netlist.specs.declared.kinds.Ask.{Ask}
use Rattle.cell_netlist.specs.declared.kinds.Version.{Version}
use Rattle.cell_netlist.specs.declared.unsound.Unsound.{Unsound}
use Rattle.cell_netlist.specs.Netlists.{PlainNetlist, IsNetlist}
use Rattle.cell_netlist.specs.Sound.{IsFirstUnsound, IsSound}
use Rattle.cell_netlist.specs.Text.{text_of}
use Rattle.netlist_reader.specs.Laws.{IsWithinLimits}
use Rattle.xsfq_cli.specs.declared.orders.Order.{Order}
use Rattle.xsfq_cli.specs.declared.orders.Order.TheVariants.{Check, Compile, Simulate, Workload}
use Rattle.xsfq_cli.specs.declared.orders.Schedule.{Schedule}
use Rattle.run_outcomes.specs.declared.outcomes.Outcome.{Outcome}
use Rattle.run_outcomes.specs.declared.outcomes.Outcome.TheVariants as outcomes
use Rattle.xsfq_cli.specs.Checked.{IsChecked, sound_line}
use Rattle.xsfq_cli.specs.Headline.{IsCompiled}
use Rattle.xsfq_cli.specs.Judgements.{most_bytes, reads, shown, Refuses, Writes}
use Rattle.xsfq_cli.specs.NetTexts.{net_shown}
use Rattle.run_outcomes.specs.Outcomes.{IsEnding, IsRefusal}
use Rattle.xsfq_cli.specs.declared.simulation_inputs.SoundInput.{SoundInput}
use Rattle.xsfq_cli.specs.Simulated.{has_scripts, input_shown, IsSimulation}
use Rattle.xsfq_cli.specs.Sources.{HasVerdict, source_shown}
use Rattle.xsfq_cli.specs.Table.{Input, Output, Answers, ReadWhole, Unread, Unwritten, WriteFailed, Wrote}
use Rattle.xsfq_cli.specs.declared.workloads.Work.{Work}
use Rattle.xsfq_cli.specs.Workloads.{IsDone, work_text}

-- a source has at most one verdict
abbrev pub OneVerdict : Type 0
OneVerdict = (bytes : List ℕ) (one other : Result PlainMachine Outcome) → HasVerdict bytes one → HasVerdict bytes other → one ≡ other

-- a command refuses an input by one outcome at the most
abbrev pub OneRefusal : Type 0
OneRefusal = (order : Order) (bytes : List ℕ) (one other : Outcome) → Refuses order bytes one → Refuses order bytes other → one ≡ other

-- for an input that is refused there is no text
abbrev pub RefusedHasNoText : Type 0
RefusedHasNoText = (order : Order) (bytes text : List ℕ) (refusal ending : Outcome) → Refuses order bytes refusal → Writes order bytes text ending → ⊥

-- what refuses an input is a fault or limit of its bytes, or that its netlist is unsound
abbrev pub RefusalsAreOfBytes : Type 0
RefusalsAreOfBytes = (order : Order) (bytes : List ℕ) (refusal : Outcome) → Refuses order bytes refusal → IsRefusal refusal

-- a refusal that the first bytes of an input show is that of the whole input
abbrev pub ShownIsRefused : Type 0
ShownIsRefused = (order : Order) (bytes more : List ℕ) (outcome : Outcome) → shown order bytes ≡ Some outcome → Refuses order (bytes ++ more) outcome

-- the count of a port's faults is below its greatest value, and the port did not fail in the call
pub record IsCalm (faults faults_now : ℕ) : Type 0 where
  pub below : faults < 2 ^ 64 - 1
  pub kept : faults_now ≡ faults

-- words order nothing exactly where the outcome is `Usage`, and then nothing is read or written
pub record UsageLaw : Type 0 where
  pub comes : (input : Input) (output : Output) (outcome : Outcome) → Answers None input output outcome → (outcome ≡ outcomes.Usage) × Unread input × Unwritten output
  pub only : (order : Order) (input : Input) (output : Output) → Answers (Some order) input output outcomes.Usage → ⊥

-- the outcome is `ReadFault` exactly where the input's count of faults rose
abbrev pub ReadFaultLaw : Type 0
ReadFaultLaw = (order : Order) (input : Input) (output : Output) (outcome : Outcome) → input.faults < 2 ^ 64 - 1 → Answers (Some order) input output outcome
    → (outcome ≡ outcomes.ReadFault) ↔ Rose input.faults input.faults_now

-- the outcome is `WriteFault` exactly where the output's count of faults rose
abbrev pub WriteFaultLaw : Type 0
WriteFaultLaw = (order : Order) (input : Input) (output : Output) (outcome : Outcome) → output.faults < 2 ^ 64 - 1 → Answers (Some order) input output outcome
    → (outcome ≡ outcomes.WriteFault) ↔ Rose output.faults output.faults_now

-- but where a text was written whole and flushed or the output failed, the output is as it was
abbrev pub UnwrittenLaw : Type 0
UnwrittenLaw = (order : Order) (input : Input) (output : Output) (outcome : Outcome) → Answers (Some order) input output outcome
    → (IsEnding outcome → ⊥) → (outcome ≡ outcomes.WriteFault → ⊥) → Unwritten output

-- a command that reads nothing leaves its input as it was
abbrev pub UnreadLaw : Type 0
UnreadLaw = (order : Order) (input : Input) (output : Output) (outcome : Outcome) → reads order ≡ false
    → Answers (Some order) input output outcome → Unread input

-- where the input tells its bytes and did not fail, a refused input gives its refusal, or memory was refused
abbrev pub RefusedLaw : Type 0
RefusedLaw = (order : Order) (input : Input) (output : Output) (outcome refusal : Outcome) (bytes : List ℕ) → reads order ≡ true
    → input.before ≡ Some bytes → IsCalm input.faults input.faults_now → Answers (Some order) input output outcome → Refuses order bytes refusal
    → (outcome ≡ refusal) ⊎ (outcome ≡ outcomes.NoMemory)

-- where it tells its bytes and neither port failed, one that is not refused gives its text, whole and flushed, or
-- memory was refused
abbrev pub AcceptedLaw : Type 0
AcceptedLaw = (order : Order) (input : Input) (output : Output) (outcome : Outcome) (bytes : List ℕ) → reads order ≡ true
    → input.before ≡ Some bytes → IsCalm input.faults input.faults_now → IsCalm output.faults output.faults_now → Answers (Some order) input output outcome
    → ((refusal : Outcome) → Refuses order bytes refusal → ⊥)
    → (outcome ≡ outcomes.NoMemory) ⊎ ((text : List ℕ) × Writes order bytes text outcome × Wrote output text)

-- and only its refusal refuses it: an outcome that is a refusal is that of the input's bytes
abbrev pub OnlyRefusedLaw : Type 0
OnlyRefusedLaw = (order : Order) (input : Input) (output : Output) (outcome : Outcome) (bytes : List ℕ) → input.before ≡ Some bytes
    → Answers (Some order) input output outcome → IsRefusal outcome → Refuses order bytes outcome

-- at most 4,096 bytes are taken past the greatest number
abbrev pub BoundedLaw : Type 0
BoundedLaw = (order : Order) (input : Input) (output : Output) (outcome : Outcome) → Answers (Some order) input output outcome
    → (taken : List ℕ) × Consumes input.before input.now taken × (length taken ≤ most_bytes order + 4096)

-- The headline: after `Done` all of a source was read, and the output took exactly the text of one netlist, to which it
-- was compiled, and was flushed.
abbrev pub DoneLaw : Type 0
DoneLaw = (ask : Ask) (version : Version) (input : Input) (output : Output) → Answers (Some (Compile ask version)) input output outcomes.Done
    → (bytes : List ℕ) × ReadWhole source_shown input bytes × (net : PlainNetlist) × IsCompiled ask version bytes net × Wrote output (text_of net)

-- Where it tells its bytes and neither port failed, a source whose verdict is a machine is compiled, or memory was
-- refused.
abbrev pub MachineLaw : Type 0
MachineLaw = (ask : Ask) (version : Version) (input : Input) (output : Output) (outcome : Outcome) (bytes : List ℕ) (machine : PlainMachine) → input.before ≡ Some bytes
    → IsCalm input.faults input.faults_now → IsCalm output.faults output.faults_now → Answers (Some (Compile ask version)) input output outcome
    → HasVerdict bytes (Ok machine)
    → (outcome ≡ outcomes.NoMemory) ⊎ ((outcome ≡ outcomes.Done) × (net : PlainNetlist) × IsCompiled ask version bytes net × Wrote output (text_of net))

-- After `Done` of `check` the whole input was one netlist's text, the netlist is sound, so that the law of every order
-- holds of it, and the output took exactly its line and was flushed.
abbrev pub CheckedLaw : Type 0
CheckedLaw = (input : Input) (output : Output) → Answers (Some Check) input output outcomes.Done
    → (bytes : List ℕ) × ReadWhole net_shown input bytes × (net : PlainNetlist) × IsChecked bytes net × Wrote output (sound_line net)

-- the input tells its bytes, which are the text of a netlist within the limits, and it did not fail
pub record HoldsNet (input : Input) (net : PlainNetlist) : Type 0 where
  pub netlist : IsNetlist net
  pub limits : IsWithinLimits net
  pub text : input.before ≡ Some (text_of net)
  pub calm : IsCalm input.faults input.faults_now

-- where the output did not fail, a sound netlist is told so, or memory was refused
abbrev pub SoundLaw : Type 0
SoundLaw = (input : Input) (output : Output) (outcome : Outcome) (net : PlainNetlist) → HoldsNet input net → IsCalm output.faults output.faults_now
    → Answers (Some Check) input output outcome → IsSound net
    → (outcome ≡ outcomes.NoMemory) ⊎ ((outcome ≡ outcomes.Done) × Wrote output (sound_line net))

-- and every other one is refused by the first rule that it breaks
abbrev pub UnsoundLaw : Type 0
UnsoundLaw = (input : Input) (output : Output) (outcome : Outcome) (net : PlainNetlist) (unsound : Unsound) → HoldsNet input net
    → Answers (Some Check) input output outcome → IsFirstUnsound net unsound
    → (outcome ≡ outcomes.Unsound unsound) ⊎ (outcome ≡ outcomes.NoMemory)

-- After `Done` of `simulate`, and after a script's fault, the whole input was a netlist's text and vectors for it, the netlist
-- is sound, so that it pulses as its rail equations say, and the output took exactly the text of its simulation and was flushed.
abbrev pub SimulatedLaw : Type 0
SimulatedLaw = (schedule : Schedule) (trace : Bool) (input : Input) (output : Output) (outcome : Outcome) → Answers (Some (Simulate schedule trace)) input output outcome
    → IsEnding outcome → (bytes : List ℕ) × ReadWhole (input_shown (has_scripts schedule)) input bytes
    × (read : SoundInput) × (text : List ℕ) × IsSimulation schedule trace bytes read text outcome × Wrote output text

-- `workload` reads nothing. Its outcome is that memory was refused, and nothing was written; or its work was done, and the output
-- took the netlist's text with the summary behind it and was flushed, or failed and took a prefix of it.
abbrev pub WorkloadLaw : Type 0
WorkloadLaw = (bits : ℕ) (input : Input) (output : Output) (outcome : Outcome) → Answers (Some (Workload bits)) input output outcome
    → Unread input × (((outcome ≡ outcomes.NoMemory) × Unwritten output)
    ⊎ ((work : Work) × (work.bits ≡ bits) × IsDone work
    × (((outcome ≡ outcomes.Done) × Wrote output (work_text work)) ⊎ ((outcome ≡ outcomes.WriteFault) × WriteFailed output (work_text work)))))
