use Rattle.std.proofs.Common.{sym}
use Rattle.rail_checker.proofs.LinkTables.{feed_read}
use Rattle.rail_checker.proofs.links.put_back.Goals as goal

pub set-requires : goal.set-requires
set-requires c = c.requires c.in-Some.link.number (feed_read c.args.cell c.in-Some.link.number (sym c.in-Some.ensures))
