-- What the first bytes of a source show stands.
use Rattle.xsfq_cli.proofs.SourceReading.{source_is_early}
use Rattle.xsfq_cli.proofs.compiling.CompileCommand.prepare.Goals as goal

pub read_whole-requires-clause-early : goal.read_whole-requires-clause-early
read_whole-requires-clause-early g c = source_is_early c.early_refusals_stand.ensures c.early_refusals_stand-2.ensures
