-- What is counted so far and what is left are all, and no more than one is counted a mark.
use Rattle.std.proofs.Common.{◌≡◌, ◌≤◌, ◌+◌, drop}
use Rattle.blif_reader.specs.Rows.{cares_in}
use Rattle.blif_reader.proofs.rows.cares_in.Given as goal

abbrev pub invariant-loop-mark : goal.invariant-loop-mark
invariant-loop-mark l = record {
  all : l.count + cares_in (drop l.mark-index l.marks) ≡ cares_in l.marks;
  few : l.count ≤ l.mark-index;
}
