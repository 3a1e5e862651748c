use Rattle.std.proofs.Common.{◌∷◌, [], ◌∙◌, length, ap, subst, arith}
use Rattle.std.proofs.lemmas.List.{length-append, take_all}
use Rattle.pulse_ids.proofs.CallerLemmas.{IsIn-place}
use Rattle.cell_netlist.specs.World.{start}
use Rattle.pulse_world.specs.Worlds.{state_of}
use Rattle.timed_texts.specs.TimedCycles.{TimesCycles}
use Rattle.timed_texts.proofs.CycleLists.{cycles_next}
use Rattle.timed_texts.proofs.cycles.time_cycles.Goals as goal

pub time_cycle-requires-clause-width : goal.time_cycle-requires-clause-width
time_cycle-requires-clause-width g c =
    c.requires c.vector-vector.result.now (IsIn-place c.vector-vector.result.now c.args.vectors.now.vectors c.loop-number.number c.vector-vector.ensures)

pub loop-number-preserved : goal.loop-number-preserved
loop-number-preserved g c =
    let net = c.args.net.now in
    let vectors = c.args.vectors.now.vectors in
    let number = c.loop-number.number in
    let so = c.loop-number.invariant in
    let long = length-append c.loop-number.cycles.items (c.in_ok-phases.phases ∷ []) in
    let is = ap (λ l. length l) c.push_reserved.ensures.items in
    let count = so.count in
    let capacity = c.push_reserved.ensures.capacity in
    let space = so.space in
    let log = c.time_cycle.ensures.log in
    let room = so.room in
    record {
      timed = λ delays given.
          cycles_next delays net vectors number c.vector-vector.result.now c.loop-number.cycles.items c.push_reserved.new.self.items c.in_ok-phases.phases (start net)
          (state_of c.loop-number.world) (state_of c.time_cycle.new.world) c.vector-vector.ensures c.push_reserved.ensures.items (so.timed delays given)
          (c.in_ok-phases.ensures.timed delays given);
      count = omega (arith, long, is, count);
      space = omega (arith, capacity, space);
      world = c.time_cycle.ensures.world;
      between = c.in_ok-phases.ensures.between;
      times = c.time_cycle.ensures.times ∙ so.times;
      room = omega (arith, log, room);
    }

pub returns : goal.returns
returns g c =
    let net = c.args.net.now in
    let vectors = c.args.vectors.now.vectors in
    let most = c.len-number-end.ensures.count in (
      state_of c.loop-number.world,
      λ delays given. subst (λ vs. TimesCycles delays net (start net) vs c.loop-number.cycles.items (state_of c.loop-number.world)) (take_all c.loop-number.number vectors (omega arith))
          (c.loop-number.invariant.timed delays given),
    )
