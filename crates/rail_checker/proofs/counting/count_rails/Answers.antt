use Rattle.std.proofs.Common.{◌≡◌, ◌+◌, ℕ, List, Some, length, map, drop, slice_get, refl, ap, subst, ◌∙◌, arith}
use Rattle.std.proofs.Math.ListN.{drop_of_length-le}
use Rattle.cell_netlist.specs.declared.lines.Rail.{Rail}
use Rattle.cell_netlist.specs.Netlists.{wire_of}
use Rattle.rail_checker.specs.Counts.{with_wires}
use Rattle.rail_checker.proofs.WireCounts.{width-one, next_wire, wire_at}
use Rattle.rail_checker.proofs.counting.count_rails.Goals as goal

pub loop-number-init : goal.loop-number-init
loop-number-init c = (refl, c.requires)

pub count-requires : goal.count-requires
count-requires c =
    let at : slice_get c.args.rails.now c.loop-number.number ≡ Some c.get.result.now = subst (λ k. slice_get c.args.rails.now k ≡ Some c.get.result.now) c.new.ensures c.get.ensures in
    omega (arith, wire_at wire_of c.args.rails.now c.loop-number.number c.get.result.now at, c.loop-number.invariant.1)

pub loop-number-preserved : goal.loop-number-preserved
loop-number-preserved c =
    let at : slice_get c.args.rails.now c.loop-number.number ≡ Some c.get.result.now = subst (λ k. slice_get c.args.rails.now k ≡ Some c.get.result.now) c.new.ensures c.get.ensures in (
      ap (λ (t : List ℕ). with_wires t (map wire_of (drop (c.loop-number.number + 1) c.args.rails.now))) c.count.ensures
          ∙ next_wire wire_of c.args.rails.now c.loop-number.number c.get.result.now c.loop-number.counts at ∙ c.loop-number.invariant.0,
      omega (arith, ap (λ (t : List ℕ). length t) c.count.ensures, width-one c.loop-number.counts (wire_of c.get.result.now), c.loop-number.invariant.1),
    )

pub returns : goal.returns
returns c =
    subst (λ (l : List Rail). with_wires c.loop-number.counts (map wire_of (l)) ≡ with_wires c.args.counts.now (map wire_of (c.args.rails.now)))
    (drop_of_length-le c.args.rails.now (omega arith)) c.loop-number.invariant.0
