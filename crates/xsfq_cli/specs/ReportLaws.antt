-- What the table gives of `report`.
use Rattle.std.specs.Prelude.{◌≡◌, ◌⊎◌, ℕ, List, Some}
use Rattle.cell_netlist.specs.declared.unsound.Unsound.{Unsound}
use Rattle.cell_netlist.specs.Netlists.{PlainNetlist}
use Rattle.cell_netlist.specs.Sound.{IsFirstUnsound, IsSound}
use Rattle.cell_netlist.specs.Text.{text_of}
use Rattle.xsfq_cli.specs.declared.orders.Order.TheVariants.{Report}
use Rattle.run_outcomes.specs.declared.outcomes.Outcome.{Outcome}
use Rattle.run_outcomes.specs.declared.outcomes.Outcome.TheVariants as outcomes
use Rattle.xsfq_cli.specs.Laws.{HoldsNet, IsCalm}
use Rattle.xsfq_cli.specs.NetTexts.{net_shown}
use Rattle.xsfq_cli.specs.Reported.{IsReported, IsReportText}
use Rattle.xsfq_cli.specs.Table.{Input, Output, Answers, ReadWhole, Wrote}

-- After `Done` of `report` the whole input was one netlist's text, the netlist is sound, and the output took exactly the
-- text of the report on it, and was flushed.
abbrev pub ReportedLaw : Type 0
ReportedLaw = (input : Input) (output : Output) → Answers (Some Report) input output outcomes.Done
    → (bytes : List ℕ) × ReadWhole net_shown input bytes × (net : PlainNetlist) × (text : List ℕ) × IsReported bytes net text × Wrote output text

-- the report on a sound netlist has one text only
abbrev pub OneReportText : Type 0
OneReportText = (net : PlainNetlist) (one other : List ℕ) → IsSound net → IsReportText net one → IsReportText net other → one ≡ other

-- where the output did not fail, a sound netlist is reported on, or memory was refused
abbrev pub SoundIsReported : Type 0
SoundIsReported = (input : Input) (output : Output) (outcome : Outcome) (net : PlainNetlist) → HoldsNet input net → IsCalm output.faults output.faults_now
    → Answers (Some Report) input output outcome → IsSound net
    → (outcome ≡ outcomes.NoMemory) ⊎ ((outcome ≡ outcomes.Done) × (text : List ℕ) × IsReported (text_of net) net text × Wrote output text)

-- and every other one is refused by the first rule that it breaks
abbrev pub UnsoundIsNotReported : Type 0
UnsoundIsNotReported = (input : Input) (output : Output) (outcome : Outcome) (net : PlainNetlist) (unsound : Unsound) → HoldsNet input net
    → Answers (Some Report) input output outcome → IsFirstUnsound net unsound
    → (outcome ≡ outcomes.Unsound unsound) ⊎ (outcome ≡ outcomes.NoMemory)
