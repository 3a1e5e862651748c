-- What the table gives of `report`.
use Rattle.std.proofs.Common.{◌≡◌, ◌⊎◌, inl, inr, List, ℕ, Ok, Err, refl, sym, ap, subst, ◌∙◌}
use Rattle.std.specs.declared.result.Result.{Result}
use Rattle.cell_netlist.specs.Netlists.{PlainNetlist}
use Rattle.cell_netlist.specs.Refused.{SoundIsNotRefused}
use Rattle.cell_netlist.specs.Text.{text_of}
use Rattle.junction_report.specs.declared.reports.Report as reports
use Rattle.junction_report.specs.Reports.{ReportsAreUnique}
use Rattle.junction_report.specs.Texts.{report_text}
use Rattle.netlist_reader.specs.Laws.{TextsAreRead}
use Rattle.xsfq_cli.specs.declared.orders.Order.TheVariants.{Report}
use Rattle.run_outcomes.specs.declared.outcomes.Outcome.{Outcome}
use Rattle.run_outcomes.specs.declared.outcomes.Outcome.TheVariants as outcomes
use Rattle.xsfq_cli.specs.Checked.{IsCheckBy}
use Rattle.xsfq_cli.specs.Judgements.{Writes}
use Rattle.xsfq_cli.specs.Laws.{AcceptedLaw, RefusalsAreOfBytes, RefusedLaw}
use Rattle.xsfq_cli.specs.NetTexts.{net_said}
use Rattle.xsfq_cli.specs.Reported.{IsReported}
use Rattle.xsfq_cli.specs.ReportLaws.{OneReportText, ReportedLaw, SoundIsReported, UnsoundIsNotReported}
use Rattle.xsfq_cli.specs.Table.{Wrote}
use Rattle.xsfq_cli.proofs.CheckLaws.{said_so}
use Rattle.xsfq_cli.proofs.HeadlineLaws.{done_writes}
use Rattle.xsfq_cli.proofs.Judging.{unrefused}

-- a report that was written
pub reported_law : RefusalsAreOfBytes → ReportedLaw
reported_law of input output answers =
    let made = done_writes of Report input output answers in
    (made.bytes, made.reads_all, made.writes.0, made.text, made.writes.1, made.wrote)

pub one_report_text : ReportsAreUnique → OneReportText
one_report_text unique net one other sound is are =
    is.says ∙ ap (λ (report : reports.Report). report_text report) (unique net sound is.report are.report is.reports are.reports) ∙ sym are.says

pub sound_is_reported : TextsAreRead → SoundIsNotRefused → AcceptedLaw → SoundIsReported
sound_is_reported read unbroken accepted input output outcome net holds quiet answers sound =
    go (accepted Report input output outcome (text_of net) refl holds.text holds.calm quiet answers
    (λ refusal is. unrefused unbroken net (net_said (text_of net)) refusal (said_so read input net holds) sound is))
  where
    same : (other : PlainNetlist) (text : List ℕ) → IsReported (text_of net) other text → other ≡ net
    same other text reported = let both : net_said (text_of net) ≡ Ok net = said_so read input net holds in let one = reported.checked.said in cc

    go : (outcome ≡ outcomes.NoMemory) ⊎ ((text : List ℕ) × Writes Report (text_of net) text outcome × Wrote output text)
        → (outcome ≡ outcomes.NoMemory) ⊎ ((outcome ≡ outcomes.Done) × (text : List ℕ) × IsReported (text_of net) net text × Wrote output text)
    go (inl none) = inl none
    go (inr (text, (other, reported, d), wrote)) =
        inr (d, text, subst (λ (n : PlainNetlist). IsReported (text_of net) n text) (same other text reported) reported, wrote)

pub unsound_is_not_reported : TextsAreRead → RefusedLaw → UnsoundIsNotReported
unsound_is_not_reported read refused input output outcome net unsound holds answers first =
    refused Report input output outcome (outcomes.Unsound unsound) (text_of net) refl holds.text holds.calm answers
    (subst (λ (said : Result PlainNetlist Outcome). IsCheckBy said (Err (outcomes.Unsound unsound))) (sym (said_so read input net holds)) (unsound, first, refl))
