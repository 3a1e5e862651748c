use Rattle.std.proofs.Common.{◌≡◌, Some, slice_get, not, sym, ap, subst, ◌∙◌, arith}
use Rattle.pulse_ids.proofs.CallerLemmas.{IsIn-place}
use Rattle.cell_netlist.specs.declared.lines.Cell.{Cell}
use Rattle.rail_checker.specs.Tables.{fits_by}
use Rattle.rail_checker.proofs.Refusing.{none_more, none_at_all, passes_first}
use Rattle.rail_checker.proofs.roles.first_loose.Goals as goal

pub loop-number-init : goal.loop-number-init
loop-number-init c = λ place lt. absurd (omega arith)

pub fits-requires-clause-outs : goal.fits-requires-clause-outs
fits-requires-clause-outs c =
    let at : slice_get c.args.cells.now c.loop-number.number ≡ Some c.get.result.now = subst (λ k. slice_get c.args.cells.now k ≡ Some c.get.result.now) c.new.ensures c.get.ensures in
    c.requires.outs c.get.result.now (IsIn-place c.get.result.now c.args.cells.now c.loop-number.number at)

pub fits-requires-clause-fronts : goal.fits-requires-clause-fronts
fits-requires-clause-fronts c =
    let at : slice_get c.args.cells.now c.loop-number.number ≡ Some c.get.result.now = subst (λ k. slice_get c.args.cells.now k ≡ Some c.get.result.now) c.new.ensures c.get.ensures in
    c.requires.fronts c.get.result.now (IsIn-place c.get.result.now c.args.cells.now c.loop-number.number at)

pub fits-requires-clause-roots : goal.fits-requires-clause-roots
fits-requires-clause-roots c =
    let at : slice_get c.args.cells.now c.loop-number.number ≡ Some c.get.result.now = subst (λ k. slice_get c.args.cells.now k ≡ Some c.get.result.now) c.new.ensures c.get.ensures in
    c.requires.roots c.get.result.now (IsIn-place c.get.result.now c.args.cells.now c.loop-number.number at)

pub returns-then-not-fits : goal.returns-then-not-fits
returns-then-not-fits c =
    let at : slice_get c.args.cells.now c.loop-number.number ≡ Some c.get.result.now = subst (λ k. slice_get c.args.cells.now k ≡ Some c.get.result.now) c.new.ensures c.get.ensures in
    passes_first (λ (cell : Cell). not (fits_by c.args.fronts.now c.args.backs.now c.args.roots.now cell)) c.args.cells.now c.loop-number.number c.get.result.now at
    (ap not (sym c.fits.ensures ∙ c.if-not-fits.true)) c.loop-number.invariant

pub loop-number-preserved : goal.loop-number-preserved
loop-number-preserved c =
    let at : slice_get c.args.cells.now c.loop-number.number ≡ Some c.get.result.now = subst (λ k. slice_get c.args.cells.now k ≡ Some c.get.result.now) c.new.ensures c.get.ensures in
    none_more (λ (cell : Cell). not (fits_by c.args.fronts.now c.args.backs.now c.args.roots.now cell)) c.args.cells.now c.loop-number.number c.get.result.now at
    (ap not (sym c.fits.ensures ∙ c.if-not-fits.false)) c.loop-number.invariant

pub returns : goal.returns
returns c = none_at_all (λ (cell : Cell). not (fits_by c.args.fronts.now c.args.backs.now c.args.roots.now cell)) c.args.cells.now c.loop-number.number (omega arith) c.loop-number.invariant
