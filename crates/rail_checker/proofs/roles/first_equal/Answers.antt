use Rattle.std.proofs.Common.{◌≡◌, Some, slice_get, sym, subst, ◌∙◌, arith}
use Rattle.pulse_ids.proofs.CallerLemmas.{IsIn-place}
use Rattle.rail_checker.specs.Tables.{has_equal_preload}
use Rattle.rail_checker.proofs.Refusing.{none_more, none_at_all, passes_first}
use Rattle.rail_checker.proofs.roles.first_equal.Goals as goal

pub loop-number-init : goal.loop-number-init
loop-number-init c = λ place lt. absurd (omega arith)

pub has_equal_preload-requires : goal.has_equal_preload-requires
has_equal_preload-requires c =
    let at : slice_get c.args.cells.now c.loop-number.number ≡ Some c.get.result.now = subst (λ k. slice_get c.args.cells.now k ≡ Some c.get.result.now) c.new.ensures c.get.ensures in
    c.requires c.get.result.now (IsIn-place c.get.result.now c.args.cells.now c.loop-number.number at)

pub returns-then-has_equal_preload : goal.returns-then-has_equal_preload
returns-then-has_equal_preload c =
    let at : slice_get c.args.cells.now c.loop-number.number ≡ Some c.get.result.now = subst (λ k. slice_get c.args.cells.now k ≡ Some c.get.result.now) c.new.ensures c.get.ensures in
    passes_first (has_equal_preload c.args.fronts.now) c.args.cells.now c.loop-number.number c.get.result.now at
    (sym c.has_equal_preload.ensures ∙ c.if-has_equal_preload.true) c.loop-number.invariant

pub loop-number-preserved : goal.loop-number-preserved
loop-number-preserved c =
    let at : slice_get c.args.cells.now c.loop-number.number ≡ Some c.get.result.now = subst (λ k. slice_get c.args.cells.now k ≡ Some c.get.result.now) c.new.ensures c.get.ensures in
    none_more (has_equal_preload c.args.fronts.now) c.args.cells.now c.loop-number.number c.get.result.now at
    (sym c.has_equal_preload.ensures ∙ c.if-has_equal_preload.false) c.loop-number.invariant

pub returns : goal.returns
returns c = none_at_all (has_equal_preload c.args.fronts.now) c.args.cells.now c.loop-number.number (omega arith) c.loop-number.invariant
