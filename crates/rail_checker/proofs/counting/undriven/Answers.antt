use Rattle.std.proofs.Common.{Option, Some, None, refl, sym, subst}
use Rattle.pulse_ids.specs.Ids.{numbered}
use Rattle.cell_netlist.specs.declared.unsound.Unsound.{Unsound}
use Rattle.cell_netlist.specs.declared.unsound.Unsound.TheVariants.{WireUndriven}
use Rattle.rail_checker.specs.Verdicts.{IsJudged}
use Rattle.rail_checker.proofs.WireCounts.{first_undriven}
use Rattle.rail_checker.proofs.Refusing.{undriven, judged_some, judged_none, none_clear}
use Rattle.rail_checker.proofs.counting.undriven.Goals as goal

pub returns-in_err-wire : goal.returns-in_err-wire
returns-in_err-wire c =
    let first = first_undriven c.args.net.now c.args.counts.now c.requires None c.in_err-wire.ensures in
    subst (λ (v : Option Unsound). IsJudged c.args.net.now 1 v) (sym c.from_residual.ensures)
    (judged_none c.args.net.now 0 1 (λ n. WireUndriven (numbered n)) refl undriven (none_clear c.args.net.now) first)

pub returns : goal.returns
returns c =
    let first = first_undriven c.args.net.now c.args.counts.now c.requires (Some c.in_ok-wire.wire) c.in_ok-wire.ensures in
    judged_some c.args.net.now 0 1 (λ n. WireUndriven (numbered n)) refl undriven (none_clear c.args.net.now) c.in_ok-wire.wire first (WireUndriven c.new.result) refl c.new.ensures
