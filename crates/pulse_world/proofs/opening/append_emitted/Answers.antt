use Rattle.std.proofs.Common.{sym, subst, [], ◌∷◌}
use Rattle.pulse_world.specs.PendingQueues.{HasRoomFor}
use Rattle.pulse_world.specs.Reacting.{wires_of}
use Rattle.pulse_world.proofs.QueueRoom.{room-one, room-split}
use Rattle.pulse_world.proofs.opening.append_emitted.Goals as goal

pub append-requires-clause-below : goal.append-requires-clause-below
append-requires-clause-below c =
    (room-one c.args.pending.now c.in-One.wire.number (subst (λ o. HasRoomFor c.args.pending.now (wires_of o)) c.in-One.is c.requires)).0

pub append-requires-clause-apart : goal.append-requires-clause-apart
append-requires-clause-apart c =
    (room-one c.args.pending.now c.in-One.wire.number (subst (λ o. HasRoomFor c.args.pending.now (wires_of o)) c.in-One.is c.requires)).1

pub append-requires-in-Two-clause-below : goal.append-requires-in-Two-clause-below
append-requires-in-Two-clause-below c =
    (room-one c.args.pending.now c.in-Two.first.number
    (room-split c.args.pending.now (c.in-Two.first.number ∷ []) (c.in-Two.later.number ∷ []) (subst (λ o. HasRoomFor c.args.pending.now (wires_of o)) c.in-Two.is c.requires)).0).0

pub append-requires-in-Two-clause-apart : goal.append-requires-in-Two-clause-apart
append-requires-in-Two-clause-apart c =
    (room-one c.args.pending.now c.in-Two.first.number
    (room-split c.args.pending.now (c.in-Two.first.number ∷ []) (c.in-Two.later.number ∷ []) (subst (λ o. HasRoomFor c.args.pending.now (wires_of o)) c.in-Two.is c.requires)).0).1

pub append-requires-in-Two-2-clause-below : goal.append-requires-in-Two-2-clause-below
append-requires-in-Two-2-clause-below c =
    (room-one c.append-in-Two.new.self c.in-Two.later.number
    (subst (λ queue. HasRoomFor queue (c.in-Two.later.number ∷ [])) (sym c.append-in-Two.ensures)
    (room-split c.args.pending.now (c.in-Two.first.number ∷ []) (c.in-Two.later.number ∷ []) (subst (λ o. HasRoomFor c.args.pending.now (wires_of o)) c.in-Two.is c.requires)).1)).0

pub append-requires-in-Two-2-clause-apart : goal.append-requires-in-Two-2-clause-apart
append-requires-in-Two-2-clause-apart c =
    (room-one c.append-in-Two.new.self c.in-Two.later.number
    (subst (λ queue. HasRoomFor queue (c.in-Two.later.number ∷ [])) (sym c.append-in-Two.ensures)
    (room-split c.args.pending.now (c.in-Two.first.number ∷ []) (c.in-Two.later.number ∷ []) (subst (λ o. HasRoomFor c.args.pending.now (wires_of o)) c.in-Two.is c.requires)).1)).1
