-- A line that lies whole in a piece.
use Rattle.std.proofs.Common.{◌≡◌, ◌+◌, ◌∙◌, ap, sym, subst, rules, false, List, [], ℕ}
use Rattle.word_scan.specs.Lines.{PlainLines, TakesPart, begun, next_number, whole_part}
use Rattle.word_scan.proofs.CutLemmas.{joined_next}
use Rattle.word_scan.proofs.lines.Lines.take_whole.Goals as goal

pub returns-clause-whole : goal.returns-clause-whole
returns-clause-whole c =
    let fresh : begun c.args.self.now ≡ [] = search rules in
    let state = c.self.view_is ∙ c.begin.ensures in
    record {
      first = fresh;
      part = subst (λ (l : List ℕ). TakesPart l c.args.piece.now (whole_part c.in_ok-line.line.now) c.in_ok-line.line.now) (sym fresh) c.in_ok-line.ensures.part;
      plain = c.in_ok-line.ensures.plain;
      next = ap (λ (s : PlainLines). record s { number = s.number + 1 }) state ∙ ap (λ (l : List ℕ). record { line = l; whole = false; number = next_number c.args.self.now + 1 }) fresh;
    }

pub returns-clause-at : goal.returns-clause-at
returns-clause-at c = joined_next c.args.self.now _ c.args.piece.now c.in_ok-line.line.now (returns-clause-whole c)
