use Rattle.std.proofs.Common.{ℕ, Option, Some, None, refl, sym, subst}
use Rattle.pulse_ids.specs.Ids.{numbered}
use Rattle.cell_netlist.specs.declared.unsound.Unsound.{Unsound}
use Rattle.cell_netlist.specs.declared.unsound.Unsound.TheVariants.{RailTwice}
use Rattle.cell_netlist.specs.Sound.{Breaks}
use Rattle.rail_checker.specs.Rails.{IsTwice}
use Rattle.rail_checker.specs.Verdicts.{IsFirst, IsJudged}
use Rattle.rail_checker.proofs.Refusing.{rail_twice, judged_some, judged_none}
use Rattle.rail_checker.proofs.rails.refusal_of.Goals as goal

pub returns-in_err-rail : goal.returns-in_err-rail
returns-in_err-rail c =
    let first : IsFirst (λ n. Breaks c.args.net.now (RailTwice (numbered n))) None =
    subst (λ (f : Option ℕ). IsFirst (IsTwice c.args.net.now.input_rails) f) c.in_err-rail.was c.requires.found in
    subst (λ (v : Option Unsound). IsJudged c.args.net.now 7 v) (sym c.from_residual.ensures)
    (judged_none c.args.net.now 6 7 (λ n. RailTwice (numbered n)) refl rail_twice c.requires.clear first)

pub returns : goal.returns
returns c =
    let first : IsFirst (λ n. Breaks c.args.net.now (RailTwice (numbered n))) (Some c.in_ok-rail.rail) =
    subst (λ (f : Option ℕ). IsFirst (IsTwice c.args.net.now.input_rails) f) c.in_ok-rail.was c.requires.found in
    judged_some c.args.net.now 6 7 (λ n. RailTwice (numbered n)) refl rail_twice c.requires.clear c.in_ok-rail.rail first (RailTwice c.new.result) refl c.new.ensures
