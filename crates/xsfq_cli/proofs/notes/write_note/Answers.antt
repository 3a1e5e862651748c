-- The note was written.
use Rattle.std.proofs.Common.{rules}
use Rattle.xsfq_cli.proofs.Noting.{noted_flushed}
use Rattle.xsfq_cli.proofs.notes.write_note.Goals as goal

pub returns-then-is_ok : goal.returns-then-is_ok
returns-then-is_ok g c =
    noted_flushed g.E.Sink.taken g.E.Sink.faults g.E.Sink.flushed c.args.notes.now c.write_outcome_line.new.notes c.flush.new.self c.args.outcome.now c.requires (search rules)
    c.write_outcome_line.result c.flush.result (search rules) c.write_outcome_line.ensures.written c.flush.ensures.bytes c.flush.ensures.cause (search rules)
