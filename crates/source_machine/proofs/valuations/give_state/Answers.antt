use Rattle.std.proofs.Common.{◌<◌, length, sym, refl, ◌∙◌, subst, arith}
use Rattle.std.proofs.lemmas.List.{length-map}
use Rattle.source_machine.specs.declared.machines.Latch.{Latch}
use Rattle.source_machine.proofs.Evaluating.{given_more, key_at, key_fits}
use Rattle.source_machine.proofs.valuations.give_state.Goals as goal

pub bounds-bits-number : goal.bounds-bits-number
bounds-bits-number c =
    subst (λ n. n < length c.loop-place.bits) (sym c.number.ensures) (key_fits (λ (latch : Latch). latch.out.number) _ _ _ _ _ c.loop-place-test.true c.requires.fit c.loop-place.invariant.width)

pub loop-place-preserved : goal.loop-place-preserved
loop-place-preserved c =
    given_more _ _ _ c.loop-place.place c.number.result _ _ (omega (arith, c.loop-place-test.true, length-map c.args.latches.now (λ (latch : Latch). latch.out.number)))
    (c.number.ensures ∙ key_at (λ (latch : Latch). latch.out.number) _ _ _ c.loop-place-test.true) refl
    (subst (λ n. n < length c.loop-place.bits) (sym c.number.ensures)
    (key_fits (λ (latch : Latch). latch.out.number) _ _ _ _ _ c.loop-place-test.true c.requires.fit c.loop-place.invariant.width)) c.loop-place.invariant
