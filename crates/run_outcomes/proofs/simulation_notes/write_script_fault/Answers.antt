-- The pieces of the line.
use Rattle.text_pieces.specs.Pieces.{piece_text}
use Rattle.run_outcomes.proofs.NoteLines.{same_text, script_line_of}
use Rattle.run_outcomes.proofs.simulation_notes.write_script_fault.Goals as goal

pub returns-clause-written : goal.returns-clause-written
returns-clause-written g c =
    let its = c.fault_pieces.result in
    same_text _ _ _ _ _ _ _
    (script_line_of c.args.cycle c.args.phase c.args.fault (piece_text c.phase_piece.result) (piece_text its.0) (piece_text its.1) (piece_text its.2) (piece_text its.3)
    c.phase_piece.ensures c.fault_pieces.ensures)
    c.write_pieces.ensures.written
