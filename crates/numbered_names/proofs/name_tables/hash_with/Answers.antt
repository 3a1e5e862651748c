-- One byte more.
use Rattle.std.proofs.Common.{rules}
use Rattle.numbered_names.specs.NameTables.{hash_with}
use Rattle.numbered_names.proofs.name_tables.hash_with.Goals as goal

pub returns : goal.returns
unfolding hash_with
returns c = search rules
