use Rattle.std.proofs.Common.{◌≡◌, List, Option, Some, None, true, refl, sym, subst, arith}
use Rattle.pulse_ids.specs.Ids.{numbered}
use Rattle.pulse_ids.specs.Lists.{IsIn}
use Rattle.cell_netlist.specs.declared.lines.Cell.{Cell}
use Rattle.cell_netlist.specs.declared.unsound.Unsound.{Unsound}
use Rattle.cell_netlist.specs.declared.unsound.Unsound.TheVariants.{LooseDroc}
use Rattle.cell_netlist.specs.Netlists.{PlainNetlist}
use Rattle.cell_netlist.specs.Decisions.{DecisionsOfRulesAreRight, is_none_driven_twice}
use Rattle.cell_netlist.proofs.CallerLemmas.{named_below}
use Rattle.rail_checker.specs.Verdicts.{IsClear, IsJudged}
use Rattle.rail_checker.proofs.RoleTests.{first_misfit}
use Rattle.rail_checker.proofs.Refusing.{loose_at, judged_some, judged_none, wired}
use Rattle.rail_checker.proofs.roles.loose.Goals as goal

pub first_loose-requires-clause-outs : goal.first_loose-requires-clause-outs
first_loose-requires-clause-outs c cell i wire o =
    omega (arith, c.requires.backs.width, (named_below c.args.net.now).of_outs cell (subst (λ (l : List Cell). IsIn cell l) c.cells.ensures i) wire o)

pub first_loose-requires-clause-fronts : goal.first_loose-requires-clause-fronts
first_loose-requires-clause-fronts c cell i wire o =
    omega (arith, c.requires.fronts.width, (named_below c.args.net.now).of_reads cell (subst (λ (l : List Cell). IsIn cell l) c.cells.ensures i) wire o)

pub first_loose-requires-clause-roots : goal.first_loose-requires-clause-roots
first_loose-requires-clause-roots c cell i wire o =
    omega (arith, c.requires.roots.width, (named_below c.args.net.now).of_reads cell (subst (λ (l : List Cell). IsIn cell l) c.cells.ensures i) wire o)

driven_once : DecisionsOfRulesAreRight → (net : PlainNetlist) → IsClear net 8 → is_none_driven_twice net ≡ true
driven_once rules net clear = (rules net).none_driven_twice.1 (wired net 8 (omega arith) clear).none_driven_twice

pub returns-in_err-cell : goal.returns-in_err-cell
returns-in_err-cell c =
    let once = driven_once c.sound_decisions.ensures.rules c.args.net.now c.requires.clear in
    let first = first_misfit c.args.net.now 8 (omega arith) c.requires.clear once c.args.fronts.now c.requires.fronts c.args.backs.now c.requires.backs c.args.roots.now
    c.requires.roots c.cells.result.now c.cells.ensures None c.in_err-cell.ensures in
    subst (λ (v : Option Unsound). IsJudged c.args.net.now 9 v) (sym c.from_residual.ensures)
    (judged_none c.args.net.now 8 9 (λ n. LooseDroc (numbered n)) refl loose_at c.requires.clear first)

pub returns : goal.returns
returns c =
    let once = driven_once c.sound_decisions.ensures.rules c.args.net.now c.requires.clear in
    let first = first_misfit c.args.net.now 8 (omega arith) c.requires.clear once c.args.fronts.now c.requires.fronts c.args.backs.now c.requires.backs c.args.roots.now
    c.requires.roots c.cells.result.now c.cells.ensures (Some c.in_ok-cell.cell) c.in_ok-cell.ensures in
    judged_some c.args.net.now 8 9 (λ n. LooseDroc (numbered n)) refl loose_at c.requires.clear c.in_ok-cell.cell first (LooseDroc c.new.result) refl c.new.ensures
