-- The last of rising ports decides.
use Rattle.std.proofs.Common.{sym}
use Rattle.netlist_reader.proofs.PortNames.{last_decides}
use Rattle.netlist_reader.proofs.places.is_above.Goals as goal

pub returns-in-Some : goal.returns-in-Some
returns-in-Some c = last_decides c.args.port c.args.names.now c.in-Some.named.now c.requires (sym c.in-Some.ensures.value)
