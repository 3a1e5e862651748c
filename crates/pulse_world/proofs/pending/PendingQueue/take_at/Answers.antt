use Rattle.std.proofs.Common.{◌≡◌, ◌<◌, ◌-◌, Some, length, map, slice_get, ap, sym, subst, ◌∙◌, arith}
use Rattle.std.specs.List.{swap_remove}
use Rattle.std.proofs.lemmas.List.{length-map}
use Rattle.std.proofs.lemmas.Option.{slice_get_within}
use Rattle.pulse_world.specs.PendingQueues.{PlainQueue, number_in}
use Rattle.cell_netlist.proofs.CallerLemmasOnLists.{set-length}
use Rattle.pulse_world.proofs.QueuePlaces.{number-there, removed-numbers}
use Rattle.pulse_world.proofs.QueueMarks.{queue-remove}
use Rattle.pulse_world.proofs.pending.PendingQueue.take_at.Goals as goal

pub swapped_out-requires : goal.swapped_out-requires
swapped_out-requires c =
    let count = length-map c.self.inside.wires.items number_in in
    let inside : c.args.place < length (map number_in c.self.inside.wires.items) = subst (λ (queue : PlainQueue). c.args.place < length queue.wires) (sym c.self.view_is) c.requires in
    omega arith

pub set-requires : goal.set-requires
set-requires c =
    let last = number-there c.self.inside.wires.items (length c.self.inside.wires.items - 1) c.swapped_out.result.1 c.swapped_out.ensures.last in
    slice_get_within c.self.inside.places c.swapped_out.result.1.number (length c.self.inside.wires.items - 1) (c.self.invariant.placed _ c.swapped_out.result.1.number last)

pub unmark-requires : goal.unmark-requires
unmark-requires c =
    let here = number-there c.self.inside.wires.items c.args.place c.swapped_out.result.0 c.swapped_out.ensures.wire in
    let low = slice_get_within c.self.inside.places c.swapped_out.result.0.number c.args.place (c.self.invariant.placed c.args.place c.swapped_out.result.0.number here) in
    let one = c.self.invariant.one_mark in omega arith

pub invariant_of-self : goal.invariant_of-self
invariant_of-self c =
    let count = length-map c.self.inside.wires.items number_in in
    let inside : c.args.place < length (map number_in c.self.inside.wires.items) = subst (λ (queue : PlainQueue). c.args.place < length queue.wires) (sym c.self.view_is) c.requires in
    let last = number-there c.self.inside.wires.items (length c.self.inside.wires.items - 1) c.swapped_out.result.1 c.swapped_out.ensures.last in
    let here = number-there c.self.inside.wires.items c.args.place c.swapped_out.result.0 c.swapped_out.ensures.wire in
    rw (c.set.ensures, c.unmark.ensures, c.swapped_out.ensures.rest, c.swapped_out.ensures.room)
    (queue-remove c.self.inside.wires.items c.self.inside.places c.self.inside.pending _ c.args.place c.swapped_out.result.0 c.swapped_out.result.1 _
    c.self.invariant (omega arith) here last)

pub returns-clause-wire : goal.returns-clause-wire
returns-clause-wire c =
    subst (λ (queue : PlainQueue). slice_get queue.wires c.args.place ≡ Some c.swapped_out.result.0.number) c.self.view_is
    (number-there c.self.inside.wires.items c.args.place c.swapped_out.result.0 c.swapped_out.ensures.wire)

pub returns-clause-rest : goal.returns-clause-rest
returns-clause-rest c =
    let count = length-map c.self.inside.wires.items number_in in
    let inside : c.args.place < length (map number_in c.self.inside.wires.items) = subst (λ (queue : PlainQueue). c.args.place < length queue.wires) (sym c.self.view_is) c.requires in
    let numbers = ap (map number_in) c.swapped_out.ensures.rest ∙ removed-numbers c.self.inside.wires.items c.args.place _ (omega arith) in
    let long = ap length c.set.ensures ∙ set-length c.self.inside.places c.swapped_out.result.1.number c.args.place in
    rw (numbers, long) (ap (λ (queue : PlainQueue). record queue { wires = swap_remove queue.wires c.args.place 0 }) c.self.view_is)
