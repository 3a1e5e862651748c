-- The first line of a piece.
use Rattle.std.proofs.Common.{sym}
use Rattle.word_scan.proofs.CutLemmas.{first_part, first_plain}
use Rattle.word_scan.proofs.lines.first_line.Goals as goal

pub returns-clause-part : goal.returns-clause-part
returns-clause-part c = first_part c.args.piece.now c.in_ok-end.end (sym c.in_ok-end.ensures)

pub returns-clause-plain : goal.returns-clause-plain
returns-clause-plain c = first_plain c.args.piece.now c.in_ok-end.end (sym c.in_ok-end.ensures)
