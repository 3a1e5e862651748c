use Rattle.std.proofs.Common.{◌≡◌, ◌∙◌, ◌<◌, ℕ, Some, length, slice_get, ap, sym, subst, arith}
use Rattle.cell_netlist.specs.declared.lines.Cell.{Cell}
use Rattle.pulse_world.specs.PackedStates.{PlainStates, nothing_kept}
use Rattle.pulse_world.proofs.PreloadedStates.{preloaded-none, preloaded-next, preloaded-step, preloaded-all}
use Rattle.pulse_world.proofs.states.preload_all.Goals as goal

pub loop-number-init : goal.loop-number-init
loop-number-init c = ap (λ states. record c.args.kept.now { states = states }) (c.requires ∙ sym (preloaded-none c.args.kept.now.cells))

pub preload_at-requires : goal.preload_at-requires
preload_at-requires c =
    let inside : c.loop-number.number < length c.args.kept.now.cells = let low = c.loop-number-test.true in let all = c.len-number-end.ensures.cells in omega arith in
    let next = preloaded-next c.args.kept.now.cells c.loop-number.number inside in
    subst (λ (k : ℕ). (cell : Cell) × (slice_get c.loop-number.kept.cells k ≡ Some cell) × (slice_get c.loop-number.kept.states k ≡ Some (nothing_kept cell))) (sym c.new.ensures)
    (subst (λ (kept : PlainStates). (cell : Cell) × (slice_get kept.cells c.loop-number.number ≡ Some cell) × (slice_get kept.states c.loop-number.number ≡ Some (nothing_kept cell)))
    (sym c.loop-number.invariant) next)

pub loop-number-preserved : goal.loop-number-preserved
loop-number-preserved c =
    preloaded-step c.args.kept.now c.loop-number.kept c.preload_at.new.kept c.loop-number.number c.new.result.number c.loop-number.invariant c.new.ensures c.preload_at.ensures

pub returns : goal.returns
returns c =
    let low = c.loop-number-test.false in
    let high = c.loop-number.auto.number-end in
    let all = c.len-number-end.ensures.cells in
    c.loop-number.invariant ∙ ap (λ states. record c.args.kept.now { states = states }) (preloaded-all c.args.kept.now.cells c.loop-number.number (omega arith))
