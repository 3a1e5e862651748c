use Rattle.std.proofs.Common.{Option, Some, None, refl, sym, subst}
use Rattle.pulse_ids.specs.Ids.{numbered}
use Rattle.cell_netlist.specs.declared.unsound.RailLine.TheVariants.{Output}
use Rattle.cell_netlist.specs.declared.unsound.Unsound.{Unsound}
use Rattle.cell_netlist.specs.declared.unsound.Unsound.TheVariants.{PortRange}
use Rattle.rail_checker.specs.Verdicts.{IsJudged}
use Rattle.rail_checker.proofs.RailRules.{first_past_output}
use Rattle.rail_checker.proofs.Refusing.{output_range, judged_some, judged_none}
use Rattle.rail_checker.proofs.rails.output_range.Goals as goal

pub returns-in_err-rail : goal.returns-in_err-rail
returns-in_err-rail c =
    let first = first_past_output c.args.net.now c.outputs.result c.output_rails.result.now None c.in_err-rail.ensures c.outputs.ensures c.output_rails.ensures in
    subst (λ (v : Option Unsound). IsJudged c.args.net.now 6 v) (sym c.from_residual.ensures)
    (judged_none c.args.net.now 5 6 (λ n. PortRange (Output (numbered n))) refl output_range c.requires first)

pub returns : goal.returns
returns c =
    let first = first_past_output c.args.net.now c.outputs.result c.output_rails.result.now (Some c.in_ok-rail.rail) c.in_ok-rail.ensures c.outputs.ensures c.output_rails.ensures in
    judged_some c.args.net.now 5 6 (λ n. PortRange (Output (numbered n))) refl output_range c.requires c.in_ok-rail.rail first (PortRange (Output c.new.result)) refl c.new.ensures
