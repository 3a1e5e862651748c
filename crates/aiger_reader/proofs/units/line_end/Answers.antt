-- The LF that completes a line.
use Rattle.std.proofs.Common.{sym}
use Rattle.aiger_reader.proofs.Ends.{line_end, no_line_end}
use Rattle.aiger_reader.proofs.units.line_end.Goals as goal

pub returns-in-Some-clause-found : goal.returns-in-Some-clause-found
returns-in-Some-clause-found c = line_end c.args.piece.now c.args.begun c.in-Some.end (sym c.in-Some.ensures)

pub returns-in-None-clause-none : goal.returns-in-None-clause-none
returns-in-None-clause-none c = no_line_end c.args.piece.now c.args.begun (sym c.in-None.ensures)
