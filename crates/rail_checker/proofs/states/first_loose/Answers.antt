use Rattle.std.proofs.Common.{◌≡◌, ◌+◌, Bool, true, false, List, length, sym, ap, subst, ◌∙◌, arith}
use Rattle.cell_netlist.specs.declared.lines.Cell.{Cell}
use Rattle.rail_checker.specs.States.{is_new_back}
use Rattle.rail_checker.proofs.StateMarks.{AreMarks, no_marks, more_marks, first_is, none_is}
use Rattle.rail_checker.proofs.states.first_loose.Goals as goal

pub loop-k-init : goal.loop-k-init
loop-k-init c = no_marks c.args.net.now c.args.named.now c.requires

pub mark-requires : goal.mark-requires
mark-requires c = c.loop-k.invariant.width ∙ ap length (sym c.cells.ensures)

pub returns-then-not-mark : goal.returns-then-not-mark
returns-then-not-mark c =
    let old = subst (λ (cells : List Cell). is_new_back cells c.loop-k.named c.state.result.cell.number ≡ false) c.cells.ensures (sym c.mark.ensures.value ∙ c.if-not-mark.true) in
    first_is c.args.net.now c.loop-k.k c.loop-k.named c.loop-k.invariant c.state.result c.state.ensures old

pub loop-k-preserved : goal.loop-k-preserved
loop-k-preserved c =
    let new = subst (λ (cells : List Cell). is_new_back cells c.loop-k.named c.state.result.cell.number ≡ true) c.cells.ensures (sym c.mark.ensures.value ∙ c.if-not-mark.false) in
    subst (λ (marks : List Bool). AreMarks c.args.net.now (c.loop-k.k + 1) marks) (sym (c.mark.ensures.marked c.if-not-mark.false))
    (more_marks c.args.net.now c.loop-k.k c.loop-k.named c.loop-k.invariant c.state.result c.state.ensures new)

pub returns : goal.returns
returns c = none_is c.args.net.now c.loop-k.k c.loop-k.named (omega arith) c.loop-k.invariant
