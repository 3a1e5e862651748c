use Rattle.std.proofs.Common.{◌≡◌, ◌+◌, List, Bool, true, Some, length, drop, slice_get, refl, ap, subst, ◌∙◌, arith}
use Rattle.std.proofs.Math.ListN.{drop_of_length-le}
use Rattle.pulse_ids.proofs.CallerLemmas.{IsIn-place}
use Rattle.cell_netlist.specs.declared.lines.Cell.{Cell}
use Rattle.rail_checker.specs.Tables.{through, with_back, back_feed}
use Rattle.rail_checker.proofs.TableSteps.{through_next, at_width}
use Rattle.rail_checker.proofs.links.put_backs.Goals as goal

pub loop-number-init : goal.loop-number-init
loop-number-init c = (refl, refl)

pub put_back-requires : goal.put_back-requires
put_back-requires c wire i =
    let at : slice_get c.args.cells.now c.loop-number.number ≡ Some c.get.result.now = subst (λ k. slice_get c.args.cells.now k ≡ Some c.get.result.now) c.new.ensures c.get.ensures in
    omega (arith, c.loop-number.invariant.1, c.requires c.get.result.now (IsIn-place c.get.result.now c.args.cells.now c.loop-number.number at) wire i)

pub loop-number-preserved : goal.loop-number-preserved
loop-number-preserved c =
    let at : slice_get c.args.cells.now c.loop-number.number ≡ Some c.get.result.now = subst (λ k. slice_get c.args.cells.now k ≡ Some c.get.result.now) c.new.ensures c.get.ensures in (
      ap (λ (t : List (Bool)). through with_back t (drop (c.loop-number.number + 1) c.args.cells.now)) c.put_back.ensures
          ∙ through_next with_back c.args.cells.now c.loop-number.number c.get.result.now c.loop-number.backs at ∙ c.loop-number.invariant.0,
      ap (λ (t : List (Bool)). length t) c.put_back.ensures ∙ at_width c.loop-number.backs (back_feed c.get.result.now) true ∙ c.loop-number.invariant.1,
    )

pub returns : goal.returns
returns c =
    subst (λ (l : List Cell). through with_back c.loop-number.backs l ≡ through with_back c.args.backs.now c.args.cells.now)
    (drop_of_length-le c.args.cells.now (omega arith)) c.loop-number.invariant.0
