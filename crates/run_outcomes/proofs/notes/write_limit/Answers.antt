-- The number and the name of what is counted.
use Rattle.run_outcomes.proofs.NoteLines.{limit_text, same_text}
use Rattle.run_outcomes.proofs.notes.write_limit.Goals as goal

pub returns-clause-written : goal.returns-clause-written
returns-clause-written g c = same_text _ _ _ _ _ _ _ (limit_text c.greatest.ensures c.quantity_piece.ensures) c.write_pieces.ensures.written
