-- The present line after a part of a piece.
use Rattle.std.proofs.Common.{List, ℕ, ap, refl, subst}
use Rattle.word_scan.specs.Lines.{begun, TakesPart}
use Rattle.word_scan.proofs.CutLemmas.{joined_at}
use Rattle.word_scan.proofs.lines.Lines.take.Goals as goal

pub returns-clause-at : goal.returns-clause-at
returns-clause-at c =
    let line = c.take_part.new.line.items in
    let taken = c.in_ok-taken.taken in
    λ text at. joined_at c.args.self.now (record { line = line; whole = taken.whole; number = c.next_number-number.result }) c.args.piece.now taken
    (subst (λ (l : List ℕ). TakesPart l c.args.piece.now taken line) (ap begun c.self.view_is) c.in_ok-taken.ensures.taken) refl c.next_number-number.ensures text at
