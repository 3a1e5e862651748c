-- The reader refuses the text.
use Rattle.xsfq_cli.proofs.NetReading.{said_refusal}
use Rattle.xsfq_cli.proofs.netlists.NetTextReaderConsumer.finish.Goals as goal

pub returns-in-Err : goal.returns-in-Err
returns-in-Err c = λ text has none. said_refusal text c.in-Err.refusal _ (c.in-Err.ensures.err text has) c.from.ensures
