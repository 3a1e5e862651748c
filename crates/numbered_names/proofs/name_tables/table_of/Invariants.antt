-- The names before this place are kept.
use Rattle.std.proofs.Common.{◌≡◌, length}
use Rattle.numbered_names.proofs.NameTables.{AreKeptTo}
use Rattle.numbered_names.proofs.name_tables.table_of.Given as goal

abbrev pub invariant-loop-place : goal.invariant-loop-place
invariant-loop-place l = record {
  kept : AreKeptTo l.texts l.table.slots.items l.table.overflow l.place;
  count : length l.table.slots.items ≡ l.count;
}
