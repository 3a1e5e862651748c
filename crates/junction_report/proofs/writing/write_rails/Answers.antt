-- The lines by their words and numbers.
use Rattle.std.proofs.Common.{◌≡◌, List, [], ◌∷◌, map, subst}
use Rattle.byte_ports.specs.Writing.{WritesText}
use Rattle.junction_report.specs.declared.writing.Line.{Line}
use Rattle.junction_report.specs.Texts.{parts_of, rails_of}
use Rattle.junction_report.proofs.ReportLines.{lines_are}
use Rattle.junction_report.proofs.writing.write_rails.Goals as goal

pub returns-clause-written : goal.returns-clause-written
returns-clause-written g c =
    let e1 = c.numbered.ensures in
    let e2 = c.numbered-2.ensures in
    let lines : List Line = c.numbered.result ∷ c.numbered-2.result ∷ [] in
    let parts : map parts_of lines ≡ rails_of c.args.report.now = cc in
    subst (λ l. WritesText (g.K.Sink.taken c.args.out.now) (g.K.Sink.taken c.write_lines.new.out) (g.K.Sink.faults c.args.out.now) (g.K.Sink.faults c.write_lines.new.out)
    c.write_lines.result l) (lines_are lines (rails_of c.args.report.now) parts) c.write_lines.ensures.written
