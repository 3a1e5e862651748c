-- A feed answers for the reader's own value.
use Rattle.std.proofs.Common.{sym, subst}
use Rattle.netlist_reader.specs.declared.readings.Reading.{Reading}
use Rattle.netlist_reader.specs.Readings.{IsReading}
use Rattle.netlist_reader.proofs.readers.NetReader.feed.Goals as goal

pub returns-clause-early : goal.returns-clause-early
returns-clause-early c = λ text read. c.take_more.ensures.early text (subst (λ (r : Reading). IsReading text r) (sym c.self.view_is) read)
