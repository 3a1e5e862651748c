use Rattle.std.proofs.Common.{◌≡◌, Some, slice_get, sym, subst, ◌∙◌, arith}
use Rattle.pulse_ids.proofs.CallerLemmas.{IsIn-place}
use Rattle.rail_checker.specs.Needs.{is_loose_in}
use Rattle.rail_checker.proofs.Refusing.{none_more, none_at_all, passes_first}
use Rattle.rail_checker.proofs.grounding.first_loose.Goals as goal

pub loop-number-init : goal.loop-number-init
loop-number-init c = λ place lt. absurd (omega arith)

pub is_loose-requires : goal.is_loose-requires
is_loose-requires c =
    let at : slice_get c.args.cells.now c.loop-number.number ≡ Some c.get.result.now = subst (λ k. slice_get c.args.cells.now k ≡ Some c.get.result.now) c.new.ensures c.get.ensures in
    c.requires c.get.result.now (IsIn-place c.get.result.now c.args.cells.now c.loop-number.number at)

pub returns-then-is_loose : goal.returns-then-is_loose
returns-then-is_loose c =
    let at : slice_get c.args.cells.now c.loop-number.number ≡ Some c.get.result.now = subst (λ k. slice_get c.args.cells.now k ≡ Some c.get.result.now) c.new.ensures c.get.ensures in
    passes_first (is_loose_in c.args.order.now.known) c.args.cells.now c.loop-number.number c.get.result.now at (sym c.is_loose.ensures ∙ c.if-is_loose.true) c.loop-number.invariant

pub loop-number-preserved : goal.loop-number-preserved
loop-number-preserved c =
    let at : slice_get c.args.cells.now c.loop-number.number ≡ Some c.get.result.now = subst (λ k. slice_get c.args.cells.now k ≡ Some c.get.result.now) c.new.ensures c.get.ensures in
    none_more (is_loose_in c.args.order.now.known) c.args.cells.now c.loop-number.number c.get.result.now at (sym c.is_loose.ensures ∙ c.if-is_loose.false) c.loop-number.invariant

pub returns : goal.returns
returns c = none_at_all (is_loose_in c.args.order.now.known) c.args.cells.now c.loop-number.number (omega arith) c.loop-number.invariant
