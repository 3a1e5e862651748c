use Rattle.std.proofs.Common.{List, Option, Some, None, refl, sym, subst, arith}
use Rattle.pulse_ids.specs.Ids.{numbered}
use Rattle.pulse_ids.specs.Lists.{IsIn}
use Rattle.cell_netlist.specs.declared.lines.Cell.{Cell}
use Rattle.cell_netlist.specs.declared.unsound.Unsound.{Unsound}
use Rattle.cell_netlist.specs.declared.unsound.Unsound.TheVariants.{Loop}
use Rattle.cell_netlist.proofs.CallerLemmas.{named_below}
use Rattle.rail_checker.specs.Verdicts.{IsJudged}
use Rattle.rail_checker.proofs.LooseCells.{first_loop}
use Rattle.rail_checker.proofs.Refusing.{loop_at, judged_some, judged_none}
use Rattle.rail_checker.proofs.grounding.loop_at.Goals as goal

pub first_loose-requires : goal.first_loose-requires
first_loose-requires c cell i wire o =
    omega (arith, c.requires.order.width, (named_below c.args.net.now).of_outs cell (subst (λ (l : List Cell). IsIn cell l) c.cells.ensures i) wire o)

pub returns-in_err-cell : goal.returns-in_err-cell
returns-in_err-cell c =
    let first = first_loop c.args.net.now c.args.drivers.now c.requires.drivers c.args.order.now c.requires.order c.cells.result.now c.cells.ensures None c.in_err-cell.ensures in
    subst (λ (v : Option Unsound). IsJudged c.args.net.now 8 v) (sym c.from_residual.ensures)
    (judged_none c.args.net.now 7 8 (λ n. Loop (numbered n)) refl loop_at c.requires.clear first)

pub returns : goal.returns
returns c =
    let first = first_loop c.args.net.now c.args.drivers.now c.requires.drivers c.args.order.now c.requires.order c.cells.result.now c.cells.ensures (Some c.in_ok-cell.cell) c.in_ok-cell.ensures in
    judged_some c.args.net.now 7 8 (λ n. Loop (numbered n)) refl loop_at c.requires.clear c.in_ok-cell.cell first (Loop c.new.result) refl c.new.ensures
