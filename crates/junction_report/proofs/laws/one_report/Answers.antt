-- Each of its fields is one.
use Rattle.junction_report.proofs.OneReport.{same_reports}
use Rattle.junction_report.proofs.laws.one_report.Goals as goal

pub returns : goal.returns
returns c net sound one other h k = same_reports net sound one other h k
