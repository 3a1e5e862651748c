-- The cycles in an order, one after the other.
use Rattle.std.proofs.Common.{rules, ◌∙◌, ap, sym, subst, arith}
use Rattle.std.specs.Io.KnownBytes.{Appends}
use Rattle.byte_ports.specs.Prefixes.{TookPrefix}
use Rattle.byte_ports.proofs.CallerLemmas.{ok_so, err_so}
use Rattle.pulse_ids.proofs.CallerLemmas.{IsIn-place}
use Rattle.cell_netlist.specs.Netlists.{PlainNetlist}
use Rattle.pulse_traces.specs.Rooms.{HasRooms, ShowsCycle, cycle_in}
use Rattle.pulse_traces.proofs.Lists.{take-all}
use Rattle.pulse_traces.proofs.OrderCycles.{cycle-as, written-none, written-more, written-failed}
use Rattle.pulse_traces.proofs.Writing.{whole-grown, failed-prefix, failed-text, text-shown}
use Rattle.pulse_traces.proofs.cycles.write_cycles.Goals as goal

pub make_cycle-next-requires-clause-width : goal.make_cycle-next-requires-clause-width
make_cycle-next-requires-clause-width g c =
    c.requires.width c.vector.result.now (IsIn-place c.vector.result.now c.args.vectors.now.vectors c.loop-number.number c.vector.ensures)
    ∙ ap (λ (n : PlainNetlist). n.inputs) (sym c.loop-number.invariant.net)

pub make_cycle-next-requires-clause-step : goal.make_cycle-next-requires-clause-step
make_cycle-next-requires-clause-step g c = let small = c.loop-number.invariant.small in let most = c.len-number-end.ensures.most in let count = c.len-number-end.ensures.count in omega arith

pub returns-in_err-write_room : goal.returns-in_err-write_room
returns-in_err-write_room g c =
    let world = c.args.world.now in
    let rails = world.net.output_rails in
    let number = c.loop-number.number in
    let after = c.make_cycle-next.new.world in
    let room = c.make_cycle-next.new.room in
    let old = g.K.Sink.taken c.args.out.now in
    let now = g.K.Sink.taken c.loop-number.out in
    let new = g.K.Sink.taken c.write_room.new.out in
    let cycle = cycle_in c.vector.result.now room in
    let made = cycle-as (g.F.Choose.names c.args.chooser.now) c.args.order c.requires.order c.loop-number.step c.loop-number.world cycle after c.make_cycle-next.ensures.made in
    let shows = subst (λ (n : PlainNetlist). ShowsCycle n.output_rails room) c.loop-number.invariant.net c.make_cycle-next.ensures.shows in
    let text = text-shown rails c.args.trace number c.vector.result.now room shows in
    let took = subst (λ t. TookPrefix now new t) text (failed-prefix now new _ _ _ _ (err_so c.in_err-write_room.was) c.write_room.ensures) in
    let net = c.make_cycle-next.ensures.net ∙ c.loop-number.invariant.net in
    let so = c.loop-number.invariant.so in
    let all = written-failed c.args.order world c.args.vectors.now.vectors number c.loop-number.step c.loop-number.world after cycle so.so_far c.vector.ensures made c.args.trace old now new so.grown
    c.from_residual.result c.from_residual.ensures.0 c.cycles_of_orders.ensures.cycles c.make_cycle-next.ensures.between net c.requires.width took in
    record {
      cycles = all.0;
      after = all.1;
      of_vectors = all.2;
      made = all.3;
      wrote = failed-text old now new _ _ _ _ _ _ _ (err_so c.in_err-write_room.was) c.from_residual.ensures.0 c.loop-number.invariant.calm c.write_room.ensures all.4;
    }

pub loop-number-init : goal.loop-number-init
loop-number-init g c = record {
  so = written-none c.args.order c.args.trace c.args.world.now c.args.vectors.now.vectors (g.K.Sink.taken c.args.out.now);
  calm = search rules;
  between = c.requires.between;
  net = search rules;
  room = c.requires.room;
  small = omega arith;
}

pub loop-number-preserved : goal.loop-number-preserved
loop-number-preserved g c =
    let world = c.args.world.now in
    let rails = world.net.output_rails in
    let number = c.loop-number.number in
    let after = c.make_cycle-next.new.world in
    let room = c.make_cycle-next.new.room in
    let old = g.K.Sink.taken c.args.out.now in
    let now = g.K.Sink.taken c.loop-number.out in
    let new = g.K.Sink.taken c.write_room.new.out in
    let cycle = cycle_in c.vector.result.now room in
    let made = cycle-as (g.F.Choose.names c.args.chooser.now) c.args.order c.requires.order c.loop-number.step c.loop-number.world cycle after c.make_cycle-next.ensures.made in
    let shows = subst (λ (n : PlainNetlist). ShowsCycle n.output_rails room) c.loop-number.invariant.net c.make_cycle-next.ensures.shows in
    let text = text-shown rails c.args.trace number c.vector.result.now room shows in
    let grown = subst (λ t. Appends now new t) text (whole-grown now new _ _ _ _ (ok_so c.in_ok-write_room.was) c.write_room.ensures) in
    let so = c.loop-number.invariant.so in
    record {
      so = written-more c.args.order world c.args.vectors.now.vectors number c.loop-number.step c.loop-number.world after cycle so.so_far c.vector.ensures made c.args.trace old now new so.grown
          c.make_cycle-next.result c.make_cycle-next.ensures.next grown;
      calm = search rules;
      between = c.make_cycle-next.ensures.between;
      net = c.make_cycle-next.ensures.net ∙ c.loop-number.invariant.net;
      room = subst (λ n. HasRooms n room) (sym c.make_cycle-next.ensures.net) c.make_cycle-next.ensures.room;
      small = let a = c.make_cycle-next.ensures.few in let b = c.loop-number.invariant.small in omega arith;
    }

pub returns : goal.returns
returns g c =
    let so = c.loop-number.invariant.so.so_far in
    let most = c.len-number-end.ensures.count in
    record {
      cycles = so.cycles;
      after = c.loop-number.world;
      of_vectors = so.of_vectors ∙ take-all c.args.vectors.now.vectors c.loop-number.number (omega arith);
      made = so.made;
      wrote = record {
        whole = c.loop-number.invariant.so.grown;
        prefix = tt;
        cause = record { later = let l = c.loop-number.invariant.calm in omega arith; failed = tt; kept = c.loop-number.invariant.calm };
      };
    }
