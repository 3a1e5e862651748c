use Rattle.std.proofs.Common.{Option, Some, None, refl, sym, subst}
use Rattle.pulse_ids.specs.Ids.{numbered}
use Rattle.cell_netlist.specs.declared.unsound.RailLine.TheVariants.{Input}
use Rattle.cell_netlist.specs.declared.unsound.Unsound.{Unsound}
use Rattle.cell_netlist.specs.declared.unsound.Unsound.TheVariants.{PortRange}
use Rattle.rail_checker.specs.Verdicts.{IsJudged}
use Rattle.rail_checker.proofs.RailRules.{first_past_input}
use Rattle.rail_checker.proofs.Refusing.{input_range, judged_some, judged_none}
use Rattle.rail_checker.proofs.rails.input_range.Goals as goal

pub returns-in_err-rail : goal.returns-in_err-rail
returns-in_err-rail c =
    let first = first_past_input c.args.net.now c.inputs.result c.input_rails.result.now None c.in_err-rail.ensures c.inputs.ensures c.input_rails.ensures in
    subst (λ (v : Option Unsound). IsJudged c.args.net.now 5 v) (sym c.from_residual.ensures)
    (judged_none c.args.net.now 4 5 (λ n. PortRange (Input (numbered n))) refl input_range c.requires first)

pub returns : goal.returns
returns c =
    let first = first_past_input c.args.net.now c.inputs.result c.input_rails.result.now (Some c.in_ok-rail.rail) c.in_ok-rail.ensures c.inputs.ensures c.input_rails.ensures in
    judged_some c.args.net.now 4 5 (λ n. PortRange (Input (numbered n))) refl input_range c.requires c.in_ok-rail.rail first (PortRange (Input c.new.result)) refl c.new.ensures
