-- The texts of netlists are read back, and no others.
use Rattle.netlist_reader.proofs.FoundTexts.{only_texts_are_read}
use Rattle.netlist_reader.proofs.WrittenTexts.{texts_are_read}
use Rattle.netlist_reader.proofs.laws.texts_are_read.Goals as goal

pub returns-clause-read : goal.returns-clause-read
returns-clause-read c = texts_are_read

pub returns-clause-only : goal.returns-clause-only
returns-clause-only c = only_texts_are_read
