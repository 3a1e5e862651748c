use Rattle.junction_report.proofs.PathLaws.{path_is_walk, one_path}
use Rattle.junction_report.proofs.laws.paths_are_walks.Goals as goal

pub returns-clause-walk : goal.returns-clause-walk
returns-clause-walk c net sound path h = path_is_walk net sound path h

pub returns-clause-one : goal.returns-clause-one
returns-clause-one c net sound path other h k = one_path net sound path other h k
