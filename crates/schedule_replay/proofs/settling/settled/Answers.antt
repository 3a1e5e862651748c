use Rattle.std.proofs.Common.{◌∙◌, ◌∷◌, ◌++◌, [], length, ap, sym, subst, arith}
use Rattle.std.proofs.lemmas.List.{length-append}
use Rattle.schedule_replay.specs.Logs.{PlainLog}
use Rattle.schedule_replay.specs.Settling.{DeliversInTurn}
use Rattle.schedule_replay.proofs.Turns.{next-more, at-any-place}
use Rattle.schedule_replay.proofs.settling.settled.Goals as goal

pub append-requires : goal.append-requires
append-requires g c =
    let names = g.F.Choose.names c.args.chooser.now in
    let wires = c.loop-world.log.wires in
    let wire = c.deliver_next-wire.result.number in
    let more = next-more names c.args.start c.len.result wires c.args.world c.loop-world.world c.deliver_next-wire.new.world wire c.len.ensures
    c.loop-world.invariant.delivers c.deliver_next-wire.ensures in
    let few = c.deliveries_in_turn.ensures.few (wires ++ wire ∷ []) c.args.world c.deliver_next-wire.new.world c.loop-world.invariant.world
    (at-any-place names c.args.start 0 (wires ++ wire ∷ []) c.args.world c.deliver_next-wire.new.world more) in
    let longer = length-append wires (wire ∷ []) in
    let room = c.loop-world.invariant.room in
    let enough = c.requires.room in
    omega arith

pub loop-world-smaller : goal.loop-world-smaller
loop-world-smaller g c =
    let names = g.F.Choose.names c.args.chooser.now in
    let wires = c.loop-world.log.wires in
    let wire = c.deliver_next-wire.result.number in
    let more = next-more names c.args.start c.len.result wires c.args.world c.loop-world.world c.deliver_next-wire.new.world wire c.len.ensures
    c.loop-world.invariant.delivers c.deliver_next-wire.ensures in
    let few = c.deliveries_in_turn.ensures.few (wires ++ wire ∷ []) c.args.world c.deliver_next-wire.new.world c.loop-world.invariant.world
    (at-any-place names c.args.start 0 (wires ++ wire ∷ []) c.args.world c.deliver_next-wire.new.world more) in
    let longer = length-append wires (wire ∷ []) in
    let is = ap (λ (l : PlainLog). length l.wires) c.append.ensures in
    omega arith

pub loop-world-preserved : goal.loop-world-preserved
loop-world-preserved g c =
    let names = g.F.Choose.names c.args.chooser.now in
    let wires = c.loop-world.log.wires in
    let wire = c.deliver_next-wire.result.number in
    let more = next-more names c.args.start c.len.result wires c.args.world c.loop-world.world c.deliver_next-wire.new.world wire c.len.ensures
    c.loop-world.invariant.delivers c.deliver_next-wire.ensures in
    record {
      world = c.loop-world.invariant.world;
      delivers = subst (λ (l : PlainLog). DeliversInTurn names c.args.start c.args.world l.wires c.deliver_next-wire.new.world) (sym c.append.ensures) more;
      room = ap (λ (l : PlainLog). l.room) c.append.ensures ∙ c.loop-world.invariant.room;
    }

pub returns-clause-few : goal.returns-clause-few
returns-clause-few g c =
    let few = c.deliveries_in_turn.ensures.few c.loop-world.log.wires c.args.world c.loop-world.world c.loop-world.invariant.world
    (at-any-place (g.F.Choose.names c.args.chooser.now) c.args.start 0 c.loop-world.log.wires c.args.world c.loop-world.world c.loop-world.invariant.delivers) in
    omega arith

pub returns-clause-keeps : goal.returns-clause-keeps
returns-clause-keeps g c =
    c.deliveries_in_turn.ensures.keep c.loop-world.log.wires c.args.world c.loop-world.world c.loop-world.invariant.world
    (at-any-place (g.F.Choose.names c.args.chooser.now) c.args.start 0 c.loop-world.log.wires c.args.world c.loop-world.world c.loop-world.invariant.delivers)

pub returns-clause-narrow : goal.returns-clause-narrow
returns-clause-narrow g c =
    let few = c.deliveries_in_turn.ensures.few c.loop-world.log.wires c.args.world c.loop-world.world c.loop-world.invariant.world
    (at-any-place (g.F.Choose.names c.args.chooser.now) c.args.start 0 c.loop-world.log.wires c.args.world c.loop-world.world c.loop-world.invariant.delivers) in
    let limit = c.loop-world.invariant.world.few in
    omega arith
