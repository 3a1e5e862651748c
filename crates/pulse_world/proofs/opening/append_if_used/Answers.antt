use Rattle.std.proofs.Common.{subst}
use Rattle.cell_netlist.specs.Netlists.{used}
use Rattle.pulse_world.specs.PendingQueues.{HasRoomFor}
use Rattle.pulse_world.proofs.QueueRoom.{room-one}
use Rattle.pulse_world.proofs.opening.append_if_used.Goals as goal

pub append-requires-clause-below : goal.append-requires-clause-below
append-requires-clause-below c =
    (room-one c.args.pending.now c.in-Some.wire.number (subst (λ o. HasRoomFor c.args.pending.now (used o)) c.in-Some.is c.requires)).0

pub append-requires-clause-apart : goal.append-requires-clause-apart
append-requires-clause-apart c =
    (room-one c.args.pending.now c.in-Some.wire.number (subst (λ o. HasRoomFor c.args.pending.now (used o)) c.in-Some.is c.requires)).1
