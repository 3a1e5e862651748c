-- The cycles of one vector, one after the other.
use Rattle.std.proofs.Common.{◌∙◌, sym, subst, arith, rules, replicate}
use Rattle.std.proofs.lemmas.List.{length-replicate}
use Rattle.cell_netlist.specs.Netlists.{PlainNetlist}
use Rattle.pulse_traces.specs.Rooms.{HasRooms, ShowsCycle, cycle_in}
use Rattle.pulse_traces.proofs.CycleLists.{step-deliveries}
use Rattle.pulse_traces.proofs.Lists.{take-all, replicate-at}
use Rattle.pulse_traces.proofs.OrderCycles.{cycle-as, counted-none, counted-one-more}
use Rattle.pulse_traces.proofs.pulse_counts.count_cycles.Goals as goal

pub loop-number-init : goal.loop-number-init
loop-number-init g c = record {
  so = counted-none c.args.order c.args.world.now (replicate c.args.cycles c.args.vector.now);
  between = c.requires.between;
  net = search rules;
  room = c.requires.room;
  few_deliveries = omega arith;
  few_ones = omega arith;
}

pub loop-number-preserved : goal.loop-number-preserved
loop-number-preserved g c =
    let world = c.args.world.now in
    let vector = c.args.vector.now in
    let number = c.loop-number._number in
    let step = c.loop-number.deliveries in
    let mid = c.loop-number.world in
    let after = c.make_cycle-deliveries.new.world in
    let room = c.make_cycle-deliveries.new.room in
    let cycle = cycle_in vector room in
    let within = c.loop-number-test.true in
    let made = cycle-as (g.F.Choose.names c.args.chooser.now) c.args.order c.requires.order step mid cycle after c.make_cycle-deliveries.ensures.made in
    let shows = subst (λ (n : PlainNetlist). ShowsCycle n.output_rails room) c.loop-number.invariant.net c.make_cycle-deliveries.ensures.shows in
    let so = c.loop-number.invariant.so in
    record {
      so = counted-one-more c.args.order world (replicate c.args.cycles vector) number step mid after cycle so.so_far (replicate-at c.args.cycles number vector (omega arith)) made
          c.make_cycle-deliveries.result c.loop-number.ones c.excite_pulses.result c.make_cycle-deliveries.ensures.next so.ones_are
          (c.excite_pulses.ensures world.net.output_rails shows);
      between = c.make_cycle-deliveries.ensures.between;
      net = c.make_cycle-deliveries.ensures.net ∙ c.loop-number.invariant.net;
      room = subst (λ n. HasRooms n room) (sym c.make_cycle-deliveries.ensures.net) c.make_cycle-deliveries.ensures.room;
      few_deliveries = let a = c.make_cycle-deliveries.ensures.few in let b = c.loop-number.invariant.few_deliveries in omega arith;
      few_ones = let b = c.loop-number.invariant.few_ones in omega arith;
    }

pub returns : goal.returns
returns g c =
    let so = c.loop-number.invariant.so in
    let all = replicate c.args.cycles c.args.vector.now in
    let many = length-replicate c.args.cycles c.args.vector.now in
    let past = c.loop-number-test.false in
    record {
      cycles = so.so_far.cycles;
      after = c.loop-number.world;
      of_vectors = so.so_far.of_vectors ∙ take-all all c.loop-number._number (omega arith);
      made = so.so_far.made;
      counted = record { deliveries = so.so_far.step_is ∙ step-deliveries so.so_far.cycles; ones = so.ones_are };
    }
