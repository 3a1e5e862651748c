-- A piece that shows no refusal.
use Rattle.xsfq_cli.proofs.InputReading.{quiet_on, read_on}
use Rattle.xsfq_cli.proofs.simulation_inputs.InputReaderConsumer.feed.Goals as goal

pub returns-in-Ok-clause-read : goal.returns-in-Ok-clause-read
returns-in-Ok-clause-read g c = λ text taken.
    read_on g.F.VectorForm.scripted c.args.self.now.reader c.feed.new.self text c.args.piece.now c.in-Ok.ensures.read taken

pub returns-in-Ok-clause-early : goal.returns-in-Ok-clause-early
returns-in-Ok-clause-early g c = λ text taken. quiet_on g.F.VectorForm.scripted c.args.self.now.reader text c.args.piece.now c.in-Ok.ensures.early taken
