-- The last of rising latches decides.
use Rattle.std.proofs.Common.{sym}
use Rattle.netlist_reader.proofs.RisingLatches.{last_state_decides}
use Rattle.netlist_reader.proofs.places.is_above_states.Goals as goal

pub returns-in-Some : goal.returns-in-Some
returns-in-Some c = last_state_decides c.args.version c.args.latch c.args.lines.now c.in-Some.last.now c.requires (sym c.in-Some.ensures.value)
