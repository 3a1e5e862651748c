-- A source's reader refuses.
use Rattle.std.proofs.Common.{rules}
use Rattle.xsfq_cli.proofs.SourceReading.{finish_refused}
use Rattle.xsfq_cli.proofs.BlifReading.{blif_finished}
use Rattle.xsfq_cli.proofs.sources.SourceReaderConsumer.finish.Goals as goal

pub returns : goal.returns
returns c = λ text has none. finish_refused text _ _ _ c.in-Err.refusal _ has (search rules) c.from.ensures c.in-Err.ensures.refusal

pub returns-then-not-begins_aiger : goal.returns-then-not-begins_aiger
returns-then-not-begins_aiger c = λ text has none.
    blif_finished text _ _ _ has (search rules) c.finish_blif.result c.blif_verdict.result c.finish_blif.ensures c.blif_verdict.ensures
