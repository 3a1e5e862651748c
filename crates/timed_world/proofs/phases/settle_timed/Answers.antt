use Rattle.std.proofs.Common.{◌++◌, ◌∷◌, ◌∙◌, [], length, ap, sym, subst, arith}
use Rattle.std.proofs.lemmas.List.{length-append}
use Rattle.pulse_ids.proofs.CallerLemmasOnCounts.{IsIn-occurrences}
use Rattle.cell_netlist.specs.Netlists.{PlainNetlist, number_of_wires}
use Rattle.pulse_world.specs.Worlds.{state_of}
use Rattle.schedule_replay.specs.Logs.{PlainLog}
use Rattle.timed_world.specs.Delays.{lag}
use Rattle.timed_world.specs.Phases.{AreTied}
use Rattle.timed_world.specs.Times.{PlainTimes}
use Rattle.timed_world.specs.TimedPhases.{IsTimedFrom}
use Rattle.timed_world.proofs.Underway.{Underway, begun, tied_at_start, done, step, taken_in, taken_due}
use Rattle.timed_world.proofs.phases.settle_timed.Goals as goal

pub loop-time-init : goal.loop-time-init
loop-time-init c =
    let tied : AreTied (lag c.args.delays.now c.args.world.now.net) c.args.world.now.queue c.insert_from.new.times.turns =
    subst (λ (n : PlainNetlist). AreTied (lag c.args.delays.now n) c.args.world.now.queue c.insert_from.new.times.turns) (sym c.requires.world)
    (tied_at_start c.args.delays.now c.args.net.now c.args.world.now.queue c.clear-2.new.self.turns c.insert_from.new.times.turns (ap (λ (t : PlainTimes). t.turns) c.clear-2.ensures)
    c.insert_from.ensures.more) in
    let limit = c.pending_len.ensures.limit in
    record {
      way = subst (λ (l : PlainLog). Underway c.args.delays.now c.args.world.now l.wires 0 c.args.world.now c.insert_from.new.times.turns) (sym c.clear.ensures)
          (begun c.args.delays.now c.range.ensures c.args.world.now c.insert_from.new.times.turns tied);
      once = c.phase.ensures.once;
      small = λ wire i. let below = c.phase.ensures.below wire i in omega (arith, below, limit);
      log = ap (λ (l : PlainLog). l.room) c.clear.ensures;
      times = c.insert_from.ensures.room ∙ ap (λ (t : PlainTimes). t.room) c.clear-2.ensures;
    }

pub deliver_next-requires-clause-pending : goal.deliver_next-requires-clause-pending
deliver_next-requires-clause-pending c =
    let v = c.loop-time.invariant in
    let there = taken_in v.way.due c.loop-time.world c.loop-time.times.turns c.take.new.self.turns v.way.tied v.small c.in-Some.time c.in-Some.wire.number c.in-Some.ensures.taken in
    let some = IsIn-occurrences c.in-Some.wire.number c.loop-time.world.queue there in
    let once = v.once c.in-Some.wire.number in omega (arith, some, once)

pub deliver_next-requires-clause-time : goal.deliver_next-requires-clause-time
deliver_next-requires-clause-time c =
    let v = c.loop-time.invariant in
    let is = taken_due v.way.due c.loop-time.world c.loop-time.times.turns c.take.new.self.turns v.way.tied v.small c.in-Some.time c.in-Some.wire.number c.in-Some.ensures.taken in
    let early = v.way.early c.in-Some.wire.number in
    let few = c.deliveries_in_turn.ensures.few c.loop-time.log.wires c.args.world.now c.loop-time.world c.phase.ensures.world v.way.made in
    let limit = c.pending_len.ensures.limit in omega (arith, is, early, few, limit)

pub append-requires : goal.append-requires
append-requires c =
    let v = c.loop-time.invariant in
    let next = step c.pulses_on_wires.ensures.queue c.args.delays.now c.range.ensures c.args.world.now c.loop-time.log.wires c.loop-time.now c.loop-time.world c.loop-time.times.turns v.way
    v.small c.in-Some.time c.in-Some.wire.number c.take.new.self.turns c.in-Some.ensures.taken c.deliver_next.new.world c.deliver_next.new.times.turns c.deliver_next.ensures.one
    c.phase-in-Some.ensures.once in
    let few = c.deliveries_in_turn.ensures.few (c.loop-time.log.wires ++ c.in-Some.wire.number ∷ []) c.args.world.now c.deliver_next.new.world c.phase.ensures.world next.made in
    let longer = length-append c.loop-time.log.wires (c.in-Some.wire.number ∷ []) in
    let net = ap number_of_wires c.requires.world in
    let room = c.requires.room in
    let same = v.log in omega (arith, few, longer, net, room, same)

pub loop-time-smaller : goal.loop-time-smaller
loop-time-smaller c =
    let v = c.loop-time.invariant in
    let next = step c.pulses_on_wires.ensures.queue c.args.delays.now c.range.ensures c.args.world.now c.loop-time.log.wires c.loop-time.now c.loop-time.world c.loop-time.times.turns v.way
    v.small c.in-Some.time c.in-Some.wire.number c.take.new.self.turns c.in-Some.ensures.taken c.deliver_next.new.world c.deliver_next.new.times.turns c.deliver_next.ensures.one
    c.phase-in-Some.ensures.once in
    let few = c.deliveries_in_turn.ensures.few (c.loop-time.log.wires ++ c.in-Some.wire.number ∷ []) c.args.world.now c.deliver_next.new.world c.phase.ensures.world next.made in
    let longer = length-append c.loop-time.log.wires (c.in-Some.wire.number ∷ []) in
    let is = ap (λ (l : PlainLog). length l.wires) c.append.ensures in omega (arith, few, longer, is)

pub loop-time-preserved : goal.loop-time-preserved
loop-time-preserved c =
    let v = c.loop-time.invariant in
    let next = step c.pulses_on_wires.ensures.queue c.args.delays.now c.range.ensures c.args.world.now c.loop-time.log.wires c.loop-time.now c.loop-time.world c.loop-time.times.turns v.way
    v.small c.in-Some.time c.in-Some.wire.number c.take.new.self.turns c.in-Some.ensures.taken c.deliver_next.new.world c.deliver_next.new.times.turns c.deliver_next.ensures.one
    c.phase-in-Some.ensures.once in
    let limit = c.pending_len.ensures.limit in
    let net = ap number_of_wires next.net in
    record {
      way = subst (λ (l : PlainLog). Underway c.args.delays.now c.args.world.now l.wires c.in-Some.time c.deliver_next.new.world c.deliver_next.new.times.turns) (sym c.append.ensures) next;
      once = c.phase-in-Some.ensures.once;
      small = λ wire i. let below = c.phase-in-Some.ensures.below wire i in omega (arith, below, limit, net);
      log = ap (λ (l : PlainLog). l.room) c.append.ensures ∙ v.log;
      times = c.deliver_next.ensures.room ∙ (c.take.ensures.room ∙ v.times);
    }

pub returns-clause-timed : goal.returns-clause-timed
returns-clause-timed c =
    let v = c.loop-time.invariant in
    subst (λ (n : PlainNetlist). IsTimedFrom c.args.delays.now n (lag c.args.delays.now n) 0 (state_of c.args.world.now) c.loop-time.log.wires c.loop-time.now
    (state_of c.loop-time.world)) c.requires.world
    (done c.args.delays.now c.args.world.now c.loop-time.log.wires c.loop-time.now c.loop-time.world c.loop-time.times.turns v.way c.in_default.ensures.taken.0)

pub returns-clause-small : goal.returns-clause-small
returns-clause-small c =
    let v = c.loop-time.invariant in
    let early = v.way.early_now in
    let few = c.deliveries_in_turn.ensures.few c.loop-time.log.wires c.args.world.now c.loop-time.world c.phase.ensures.world v.way.made in
    let limit = c.pending_len.ensures.limit in omega (arith, early, few, limit)
