-- What it means that a netlist was reported on.
use Rattle.std.specs.Prelude.{◌≡◌, ℕ, List}
use Rattle.cell_netlist.specs.Netlists.{PlainNetlist}
use Rattle.junction_report.specs.declared.reports.Report.{Report}
use Rattle.junction_report.specs.Reports.{IsReport}
use Rattle.junction_report.specs.Texts.{report_text}
use Rattle.xsfq_cli.specs.Checked.{IsChecked}

-- The text is that of the report on the netlist: its rails, its cells of each kind, their junctions, its two depths and
-- its path.
pub record IsReportText (net : PlainNetlist) (text : List ℕ) : Type 0 where
  pub report : Report
  pub reports : IsReport net report
  pub says : text ≡ report_text report

-- The headline of `report`. These bytes are one netlist's text, with nothing after it, and the netlist is sound; and the
-- other text is that of the report on it.
pub record IsReported (bytes : List ℕ) (net : PlainNetlist) (text : List ℕ) : Type 0 where
  pub checked : IsChecked bytes net
  pub told : IsReportText net text
