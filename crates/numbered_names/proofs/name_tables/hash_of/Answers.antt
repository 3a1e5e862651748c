-- All bytes.
use Rattle.std.proofs.Common.{rules}
use Rattle.numbered_names.specs.NameTables.{hash_of}
use Rattle.numbered_names.proofs.name_tables.hash_of.Goals as goal

pub returns : goal.returns
unfolding hash_of
returns c = search rules
