-- The slots before this one have no number of the name.
use Rattle.numbered_names.proofs.NameTables.{IsNotBefore}
use Rattle.numbered_names.proofs.name_tables.found.Given as goal

abbrev pub invariant-loop-at : goal.invariant-loop-at
invariant-loop-at l = IsNotBefore l.texts l.slots l.start l.at l.name
