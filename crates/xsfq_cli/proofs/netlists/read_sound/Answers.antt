-- The text first, and then the rules.
use Rattle.xsfq_cli.proofs.NetReading.{net_is_early}
use Rattle.xsfq_cli.proofs.SoundInputs.{checked_by_rules}
use Rattle.xsfq_cli.proofs.netlists.read_sound.Goals as goal

pub read_whole-requires-clause-early : goal.read_whole-requires-clause-early
read_whole-requires-clause-early g c = net_is_early c.early_refusals_stand.ensures

pub returns-in-Ok : goal.returns-in-Ok
returns-in-Ok g c = checked_by_rules _ c.in-Ok.net c.judged.result c.in-Ok.ensures c.judged.ensures
