use Rattle.std.proofs.Common.{◌≡◌, ◌+◌, ◌∙◌, Some, length, drop, slice_get, slice_set, ap, subst, arith}
use Rattle.pulse_ids.specs.Ids.{numbered}
use Rattle.cell_netlist.specs.declared.lines.Driver.TheVariants as drivers_of
use Rattle.cell_netlist.specs.Netlists.{wire_of}
use Rattle.cell_netlist.specs.Places.{rail_places}
use Rattle.cell_netlist.specs.PlaceTables.{written}
use Rattle.cell_netlist.proofs.CallerLemmasOnLists.{set-length}
use Rattle.cell_netlist.proofs.TableLemmas.{numbered-is, written_rail, rail_bound}
use Rattle.cell_netlist.proofs.sound_nets.drive_by_rails.Goals as goal

pub set-requires : goal.set-requires
set-requires c =
    let at = subst (λ k. slice_get c.args.rails.now k ≡ Some c.get.result.now) c.new-id.ensures c.get.ensures in
    let bound = rail_bound c.args.rails.now c.loop-number.number c.get.result.now at in
    let low = c.loop-number.invariant.1 in
    omega arith

pub loop-number-preserved : goal.loop-number-preserved
loop-number-preserved c =
    let at = subst (λ k. slice_get c.args.rails.now k ≡ Some c.get.result.now) c.new-id.ensures c.get.ensures in
    let bound = rail_bound c.args.rails.now c.loop-number.number c.get.result.now at in
    let low = c.loop-number.invariant.1 in
    let id = numbered-is c.new-id.result c.loop-number.number c.new-id.ensures in
    let long = ap length c.set.ensures ∙ set-length c.loop-number.table (wire_of c.get.result.now) (drivers_of.Input c.new-id.result) in
    let put = c.set.ensures ∙ ap (λ i. slice_set c.loop-number.table (wire_of c.get.result.now) (drivers_of.Input i)) id in (
      ap (λ t. written (rail_places (λ r. drivers_of.Input (numbered r)) (c.loop-number.number + 1) (drop (c.loop-number.number + 1) c.args.rails.now)) t) put
          ∙ (written_rail (λ r. drivers_of.Input (numbered r)) c.args.rails.now c.loop-number.number c.get.result.now c.loop-number.table at ∙ c.loop-number.invariant.0),
      omega arith,
    )
