use Rattle.junction_report.proofs.DepthsOfCells.{depth_exists, depth_unique}
use Rattle.junction_report.proofs.laws.depths_of_cells.Goals as goal

pub returns-clause-some : goal.returns-clause-some
returns-clause-some c net sound cell p = depth_exists net sound cell p

pub returns-clause-one : goal.returns-clause-one
returns-clause-one c net cell n m h k = depth_unique net cell n m h k
