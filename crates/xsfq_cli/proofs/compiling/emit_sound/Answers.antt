-- The text of the netlist that a sound one is.
use Rattle.xsfq_cli.proofs.WorkloadLaws.{net_written}
use Rattle.xsfq_cli.proofs.compiling.emit_sound.Goals as goal

pub returns-clause-written : goal.returns-clause-written
returns-clause-written g c = net_written _ _ _ _ _ _ _ c.net.ensures.net c.emit.ensures.written
