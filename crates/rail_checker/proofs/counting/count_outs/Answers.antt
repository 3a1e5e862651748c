use Rattle.std.proofs.Common.{◌≡◌, ◌+◌, ℕ, List, Some, length, drop, slice_get, refl, ap, subst, ◌∙◌, arith}
use Rattle.std.specs.List.{flat_map}
use Rattle.std.proofs.Math.ListN.{drop_of_length-le}
use Rattle.cell_netlist.specs.declared.lines.Cell.{Cell}
use Rattle.cell_netlist.specs.Netlists.{outs}
use Rattle.rail_checker.specs.Counts.{with_wires}
use Rattle.rail_checker.proofs.WireCounts.{width, next_wires, bound_at}
use Rattle.rail_checker.proofs.counting.count_outs.Goals as goal

pub loop-number-init : goal.loop-number-init
loop-number-init c = (refl, c.requires)

pub count_outs_of-requires : goal.count_outs_of-requires
count_outs_of-requires c =
    let at : slice_get c.args.cells.now c.loop-number.number ≡ Some c.get.result.now = subst (λ k. slice_get c.args.cells.now k ≡ Some c.get.result.now) c.new.ensures c.get.ensures in
    omega (arith, bound_at outs c.args.cells.now c.loop-number.number c.get.result.now at, c.loop-number.invariant.1)

pub loop-number-preserved : goal.loop-number-preserved
loop-number-preserved c =
    let at : slice_get c.args.cells.now c.loop-number.number ≡ Some c.get.result.now = subst (λ k. slice_get c.args.cells.now k ≡ Some c.get.result.now) c.new.ensures c.get.ensures in (
      ap (λ (t : List ℕ). with_wires t (flat_map outs (drop (c.loop-number.number + 1) c.args.cells.now))) c.count_outs_of.ensures
          ∙ next_wires outs c.args.cells.now c.loop-number.number c.get.result.now c.loop-number.counts at ∙ c.loop-number.invariant.0,
      omega (arith, ap (λ (t : List ℕ). length t) c.count_outs_of.ensures, width c.loop-number.counts (outs c.get.result.now), c.loop-number.invariant.1),
    )

pub returns : goal.returns
returns c =
    subst (λ (l : List Cell). with_wires c.loop-number.counts (flat_map outs (l)) ≡ with_wires c.args.counts.now (flat_map outs (c.args.cells.now)))
    (drop_of_length-le c.args.cells.now (omega arith)) c.loop-number.invariant.0
