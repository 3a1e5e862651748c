use Rattle.std.proofs.Common.{◌≡◌, ◌∙◌, ◌+◌, ◌++◌, Some, drop, slice_get, ap, sym, subst}
use Rattle.pulse_world.specs.PackedStates.{drocs_from, numbers_in}
use Rattle.pulse_world.proofs.ClockedCells.{droc-found, droc-passed, numbers-last}
use Rattle.pulse_world.proofs.drocs.drocs_of.Goals.{then-is_droc+in_ok-push, else-is_droc}
use Rattle.pulse_world.proofs.drocs.drocs_of.Goals as goal

pub loop-number-preserved : goal.loop-number-preserved
loop-number-preserved c =
    let at = subst (λ k. slice_get c.args.cells.now k ≡ Some c.get.result.now) c.new-id.ensures c.get.ensures in
    elim c.if-is_droc.branch [
      | then-is_droc+in_ok-push w ↦
          let droc = sym c.is_droc.ensures ∙ w.if-is_droc.true in
          let found = droc-found c.args.cells.now c.loop-number.number c.get.result.now at droc in
          subst (λ items. numbers_in items ++ drocs_from (c.loop-number.number + 1) (drop (c.loop-number.number + 1) c.args.cells.now) ≡ drocs_from 0 c.args.cells.now)
          (sym (ap (λ v. v.items) w.drocs-is ∙ w.in_ok-push.ensures.items))
          (numbers-last c.loop-number.drocs.items c.new-id.result c.loop-number.number _ _ c.new-id.ensures
          (ap (λ ns. numbers_in c.loop-number.drocs.items ++ ns) (sym found) ∙ c.loop-number.invariant))
      | else-is_droc w ↦
          let plain = sym c.is_droc.ensures ∙ w.if-is_droc.false in
          let passed = droc-passed c.args.cells.now c.loop-number.number c.get.result.now at plain in
          subst (λ items. numbers_in items ++ drocs_from (c.loop-number.number + 1) (drop (c.loop-number.number + 1) c.args.cells.now) ≡ drocs_from 0 c.args.cells.now)
          (sym (ap (λ v. v.items) w.drocs-is))
          (ap (λ ns. numbers_in c.loop-number.drocs.items ++ ns) (sym passed) ∙ c.loop-number.invariant)
    ]
