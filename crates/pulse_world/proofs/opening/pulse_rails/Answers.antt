use Rattle.std.proofs.Common.{◌≡◌, ◌∙◌, ◌+◌, ◌++◌, Some, drop, slice_get, ap, sym, subst}
use Rattle.cell_netlist.specs.Netlists.{used}
use Rattle.cell_netlist.specs.World.{rail_pulses}
use Rattle.pulse_world.specs.PendingQueues.{PlainQueue, HasRoomFor}
use Rattle.cell_netlist.proofs.CallerLemmasOnLists.{drop-at}
use Rattle.pulse_world.proofs.QueueRoom.{room-split, queue-step}
use Rattle.pulse_world.proofs.opening.pulse_rails.Goals as goal

pub append_if_used-requires : goal.append_if_used-requires
append_if_used-requires c =
    let at = subst (λ k. slice_get c.args.rails.now k ≡ Some c.get-rail.result.now) c.new.ensures c.get-rail.ensures in
    let rest = rail_pulses c.args.phase c.args.vector.now (drop (c.loop-number.number + 1) c.args.rails.now) in
    let all = ap (rail_pulses c.args.phase c.args.vector.now) (drop-at c.args.rails.now c.loop-number.number c.get-rail.result.now at) ∙ ap (λ ws. ws ++ rest) (sym c.given.ensures) in
    (room-split c.loop-number.pending (used c.given.result) rest (subst (HasRoomFor c.loop-number.pending) all c.loop-number.invariant.0)).0

pub loop-number-preserved : goal.loop-number-preserved
loop-number-preserved c =
    let at = subst (λ k. slice_get c.args.rails.now k ≡ Some c.get-rail.result.now) c.new.ensures c.get-rail.ensures in
    let rest = rail_pulses c.args.phase c.args.vector.now (drop (c.loop-number.number + 1) c.args.rails.now) in
    let all = ap (rail_pulses c.args.phase c.args.vector.now) (drop-at c.args.rails.now c.loop-number.number c.get-rail.result.now at) ∙ ap (λ ws. ws ++ rest) (sym c.given.ensures) in
    let parts = room-split c.loop-number.pending (used c.given.result) rest (subst (HasRoomFor c.loop-number.pending) all c.loop-number.invariant.0) in (
      subst (λ queue. HasRoomFor queue rest) (sym c.append_if_used.ensures) parts.1,
      ap (λ (queue : PlainQueue). queue.bound) c.append_if_used.ensures ∙ c.loop-number.invariant.1,
      ap (λ (queue : PlainQueue). queue.wires ++ rest) c.append_if_used.ensures ∙ (queue-step c.loop-number.pending (used c.given.result) rest _ all ∙ c.loop-number.invariant.2),
    )
