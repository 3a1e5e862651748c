use Rattle.std.proofs.Common.{◌≡◌, ◌+◌, List, Bool, Option, Some, length, drop, slice_get, refl, ap, subst, ◌∙◌, arith}
use Rattle.std.proofs.Math.ListN.{drop_of_length-le}
use Rattle.pulse_ids.proofs.CallerLemmas.{IsIn-place}
use Rattle.cell_netlist.specs.declared.lines.Cell.{Cell}
use Rattle.cell_netlist.specs.RailEquations.{preload_of}
use Rattle.cell_netlist.specs.Decisions.{link_of}
use Rattle.rail_checker.specs.Tables.{through, with_front}
use Rattle.rail_checker.proofs.TableSteps.{through_next, at_width}
use Rattle.rail_checker.proofs.links.put_fronts.Goals as goal

pub loop-number-init : goal.loop-number-init
loop-number-init c = (refl, refl)

pub put_front-requires : goal.put_front-requires
put_front-requires c wire i =
    let at : slice_get c.args.cells.now c.loop-number.number ≡ Some c.get.result.now = subst (λ k. slice_get c.args.cells.now k ≡ Some c.get.result.now) c.new.ensures c.get.ensures in
    omega (arith, c.loop-number.invariant.1, c.requires c.get.result.now (IsIn-place c.get.result.now c.args.cells.now c.loop-number.number at) wire i)

pub loop-number-preserved : goal.loop-number-preserved
loop-number-preserved c =
    let at : slice_get c.args.cells.now c.loop-number.number ≡ Some c.get.result.now = subst (λ k. slice_get c.args.cells.now k ≡ Some c.get.result.now) c.new.ensures c.get.ensures in (
      ap (λ (t : List (Option Bool)). through with_front t (drop (c.loop-number.number + 1) c.args.cells.now)) c.put_front.ensures
          ∙ through_next with_front c.args.cells.now c.loop-number.number c.get.result.now c.loop-number.fronts at ∙ c.loop-number.invariant.0,
      ap (λ (t : List (Option Bool)). length t) c.put_front.ensures ∙ at_width c.loop-number.fronts (link_of c.get.result.now) (Some (preload_of c.get.result.now)) ∙ c.loop-number.invariant.1,
    )

pub returns : goal.returns
returns c =
    subst (λ (l : List Cell). through with_front c.loop-number.fronts l ≡ through with_front c.args.fronts.now c.args.cells.now)
    (drop_of_length-le c.args.cells.now (omega arith)) c.loop-number.invariant.0
