-- The reader refuses the input.
use Rattle.xsfq_cli.proofs.InputReading.{refused_whole}
use Rattle.xsfq_cli.proofs.simulation_inputs.InputReaderConsumer.finish.Goals as goal

pub returns-in-Err : goal.returns-in-Err
returns-in-Err g c = λ text taken none.
    refused_whole g.F.VectorForm.scripted c.args.self.reader text c.in-Err.refusal _ c.in-Err.ensures.verdict c.from.ensures taken
