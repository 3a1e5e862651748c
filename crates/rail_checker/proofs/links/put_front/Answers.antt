use Rattle.std.proofs.Common.{sym}
use Rattle.rail_checker.proofs.LinkTables.{link_out}
use Rattle.rail_checker.proofs.links.put_front.Goals as goal

pub set-requires : goal.set-requires
set-requires c = c.requires c.in-Some.link.number (link_out c.args.cell c.in-Some.link.number (sym c.in-Some.ensures))
