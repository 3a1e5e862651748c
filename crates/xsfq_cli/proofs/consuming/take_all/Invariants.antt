-- The bytes so far were taken without a fault, the reader has them, and they show no refusal.
use Rattle.std.proofs.Common.{◌≡◌, ◌+◌, ◌-◌, ℕ, List, None, length}
use Rattle.std.specs.Io.KnownBytes.{Consumes}
use Rattle.xsfq_cli.proofs.consuming.take_all.Given as goal

abbrev pub invariant-loop-count : goal.invariant-loop-count
invariant-loop-count g l = record {
  calm : g.S.Source.faults l.input ≡ g.S.Source.faults l.fn.input;
  took : (bytes : List ℕ) × Consumes (g.S.Source.left l.fn.input) (g.S.Source.left l.input) bytes × g.C.Consumer.reads bytes l.reader
      × (g.C.Consumer.shows bytes ≡ None) × (length bytes ≡ l.taken);
}

abbrev pub decreases-loop-count : goal.decreases-loop-count
decreases-loop-count g l = g.C.Consumer.most + 1 - l.taken
