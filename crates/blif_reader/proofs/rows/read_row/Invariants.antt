-- The literals so far and those of the marks that are left are all.
use Rattle.std.proofs.Common.{◌≡◌, ◌++◌, drop, map}
use Rattle.source_machine.specs.Machines.{literal_of}
use Rattle.blif_reader.specs.Rows.{literals_of}
use Rattle.blif_reader.proofs.rows.read_row.Given as goal

abbrev pub invariant-loop-place : goal.invariant-loop-place
invariant-loop-place l =
    map literal_of l.cube ++ literals_of (drop l.place (map (λ net. net.number) l.columns)) (drop l.place l.marks) ≡ literals_of (map (λ net. net.number) l.columns) l.marks
