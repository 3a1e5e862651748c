use Rattle.std.proofs.Common.{List, Option, Some, None, refl, sym, subst, arith}
use Rattle.pulse_ids.specs.Ids.{numbered}
use Rattle.pulse_ids.specs.Lists.{IsIn}
use Rattle.cell_netlist.specs.declared.lines.Cell.{Cell}
use Rattle.cell_netlist.specs.declared.unsound.Unsound.{Unsound}
use Rattle.cell_netlist.specs.declared.unsound.Unsound.TheVariants.{WrongPreload}
use Rattle.cell_netlist.proofs.CallerLemmas.{named_below}
use Rattle.rail_checker.specs.Verdicts.{IsJudged}
use Rattle.rail_checker.proofs.RoleTests.{first_equal}
use Rattle.rail_checker.proofs.Refusing.{preload_at, judged_some, judged_none}
use Rattle.rail_checker.proofs.roles.wrong_preload.Goals as goal

pub first_equal-requires : goal.first_equal-requires
first_equal-requires c cell i wire o =
    omega (arith, c.requires.fronts.width, (named_below c.args.net.now).of_reads cell (subst (λ (l : List Cell). IsIn cell l) c.cells.ensures i) wire o)

pub returns-in_err-cell : goal.returns-in_err-cell
returns-in_err-cell c =
    let first = first_equal c.args.net.now c.args.fronts.now c.requires.fronts c.cells.result.now c.cells.ensures None c.in_err-cell.ensures in
    subst (λ (v : Option Unsound). IsJudged c.args.net.now 10 v) (sym c.from_residual.ensures)
    (judged_none c.args.net.now 9 10 (λ n. WrongPreload (numbered n)) refl preload_at c.requires.clear first)

pub returns : goal.returns
returns c =
    let first = first_equal c.args.net.now c.args.fronts.now c.requires.fronts c.cells.result.now c.cells.ensures (Some c.in_ok-cell.cell) c.in_ok-cell.ensures in
    judged_some c.args.net.now 9 10 (λ n. WrongPreload (numbered n)) refl preload_at c.requires.clear c.in_ok-cell.cell first (WrongPreload c.new.result) refl c.new.ensures
