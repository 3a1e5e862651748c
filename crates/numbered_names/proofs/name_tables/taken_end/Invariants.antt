-- The slots before this one are taken.
use Rattle.numbered_names.specs.NameTables.{AreTaken}
use Rattle.numbered_names.proofs.name_tables.taken_end.Given as goal

abbrev pub invariant-loop-at : goal.invariant-loop-at
invariant-loop-at l = AreTaken l.slots l.start l.at
