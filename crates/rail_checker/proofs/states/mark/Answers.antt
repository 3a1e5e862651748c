use Rattle.std.proofs.Common.{◌≡◌, sym, ◌∙◌, arith}
use Rattle.rail_checker.proofs.StateMarks.{back_within}
use Rattle.rail_checker.proofs.states.mark.Goals as goal

pub get-new-requires : goal.get-new-requires
get-new-requires c =
    let within = back_within c.args.cells.now c.args.cell.number (sym c.is_back_at.ensures ∙ c.if-not-is_back_at.false) in omega (arith, within, c.requires)

pub set-requires : goal.set-requires
set-requires c =
    let within = back_within c.args.cells.now c.args.cell.number (sym c.is_back_at.ensures ∙ c.if-not-is_back_at.false) in omega (arith, within, c.requires)
