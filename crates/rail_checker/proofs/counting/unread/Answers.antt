use Rattle.std.proofs.Common.{Option, Some, None, refl, sym, subst}
use Rattle.pulse_ids.specs.Ids.{numbered}
use Rattle.cell_netlist.specs.declared.unsound.Unsound.{Unsound}
use Rattle.cell_netlist.specs.declared.unsound.Unsound.TheVariants.{WireUnread}
use Rattle.rail_checker.specs.Verdicts.{IsJudged}
use Rattle.rail_checker.proofs.WireCounts.{first_unread}
use Rattle.rail_checker.proofs.Refusing.{unread, judged_some, judged_none}
use Rattle.rail_checker.proofs.counting.unread.Goals as goal

pub returns-in_err-wire : goal.returns-in_err-wire
returns-in_err-wire c =
    let first = first_unread c.args.net.now c.args.counts.now c.requires.counts None c.in_err-wire.ensures in
    subst (λ (v : Option Unsound). IsJudged c.args.net.now 3 v) (sym c.from_residual.ensures)
    (judged_none c.args.net.now 2 3 (λ n. WireUnread (numbered n)) refl unread c.requires.clear first)

pub returns : goal.returns
returns c =
    let first = first_unread c.args.net.now c.args.counts.now c.requires.counts (Some c.in_ok-wire.wire) c.in_ok-wire.ensures in
    judged_some c.args.net.now 2 3 (λ n. WireUnread (numbered n)) refl unread c.requires.clear c.in_ok-wire.wire first (WireUnread c.new.result) refl c.new.ensures
