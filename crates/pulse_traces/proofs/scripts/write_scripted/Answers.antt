-- The cycles by their scripts, one after the other.
use Rattle.std.specs.Io.KnownBytes.{Appends}
use Rattle.byte_ports.specs.Prefixes.{TookPrefix}
use Rattle.std.proofs.Common.{rules, ◌+◌, ◌*◌, ◌∙◌, Some, None, ap, sym, subst, map, take, arith, refl}
use Rattle.byte_ports.proofs.CallerLemmas.{ok_so, err_so}
use Rattle.pulse_ids.proofs.CallerLemmas.{IsIn-place}
use Rattle.cell_netlist.specs.Netlists.{PlainNetlist}
use Rattle.schedule_replay.specs.Logs.{wire_number}
use Rattle.schedule_replay.specs.Orders.{Cycle}
use Rattle.pulse_traces.specs.declared.scripts.AskedCycle.{AskedCycle}
use Rattle.pulse_traces.specs.Rooms.{HasRooms, ShowsScript}
use Rattle.pulse_traces.specs.Scripts.{scripted}
use Rattle.pulse_traces.proofs.ScriptCycles.{asked-is, asked-length, asked-vector, short-at, scripts-more, scripts-failed, scripts-stop, scripts-all, tells-failed, failed-without}
use Rattle.pulse_traces.proofs.Writing.{whole-grown, failed-prefix, failed-text, text-asked}
use Rattle.pulse_traces.proofs.scripts.write_scripted.Goals as goal

pub replay_cycle-requires-clause-width : goal.replay_cycle-requires-clause-width
replay_cycle-requires-clause-width g c =
    c.requires.width c.vector.result.now (IsIn-place c.vector.result.now c.args.vectors.now.vectors c.loop-number.number c.vector.ensures)
    ∙ ap (λ (n : PlainNetlist). n.inputs) (sym c.loop-number.invariant.net)

pub replay_cycle-requires-clause-short : goal.replay_cycle-requires-clause-short
replay_cycle-requires-clause-short g c = short-at c.args.vectors.now.scripts (2 * c.loop-number.number) c.excite.result.now c.requires.short c.excite.ensures

pub replay_cycle-requires-clause-also_short : goal.replay_cycle-requires-clause-also_short
replay_cycle-requires-clause-also_short g c = short-at c.args.vectors.now.scripts (2 * c.loop-number.number + 1) c.relax.result.now c.requires.short c.relax.ensures

pub returns-in_err-write_asked-in-Ok : goal.returns-in_err-write_asked-in-Ok
returns-in_err-write_asked-in-Ok g c =
    let asked = scripted c.args.vectors.now in
    let world = c.args.world.now in
    let rails = world.net.output_rails in
    let number = c.loop-number.number in
    let after = c.replay_cycle.new.world in
    let old = g.K.Sink.taken c.args.out.now in
    let now = g.K.Sink.taken c.loop-number.out in
    let new = g.K.Sink.taken c.write_asked.new.out in
    let cycle : Cycle = record { vector = c.vector.result.now; excite = map wire_number c.excite.result.now; relax = map wire_number c.relax.result.now } in
    let at = asked-is c.args.vectors.now number c.vector.result.now c.excite.result.now c.relax.result.now c.vector.ensures c.excite.ensures c.relax.ensures in
    let parts : AskedCycle = record { vector = c.vector.result; excite = c.excite.result; relax = c.relax.result } in
    let shows = subst (λ (n : PlainNetlist). ShowsScript n.output_rails parts c.replay_cycle.new.room) c.loop-number.invariant.net c.in-Ok.ensures.shows in
    let text = text-asked rails c.args.trace number parts c.replay_cycle.new.room shows in
    let net = c.replay_cycle.ensures.net ∙ c.loop-number.invariant.net in
    let took = subst (λ t. TookPrefix now new t) text (failed-prefix now new _ _ _ _ (err_so c.in_err-write_asked-in-Ok.was) c.write_asked.ensures) in
    let all = scripts-failed c.args.trace world asked old number c.loop-number.world cycle now c.loop-number.invariant.so at after new c.in-Ok.ensures.made
    c.moments_of_worlds.ensures.excite c.moments_of_worlds.ensures.relax c.deliveries_in_turn.ensures.keep c.scripts_end.ensures c.in-Ok.ensures.between
    (λ one i. c.requires.width one.vector (asked-vector 0 c.args.vectors.now.vectors c.args.vectors.now.scripts one i) ∙ ap (λ (n : PlainNetlist). n.inputs) (sym net)) took in
    record {
      made = all.0;
      fault = all.1;
      up_to = all.2;
      tells = tells-failed all.1 _ c.from_residual.ensures.0;
      wrote = failed-text old now new _ _ _ _ _ _ _ (err_so c.in_err-write_asked-in-Ok.was) (failed-without _ c.from_residual.ensures.0) c.loop-number.invariant.calm c.write_asked.ensures all.3;
    }

pub returns-in-Err : goal.returns-in-Err
returns-in-Err g c =
    let at = asked-is c.args.vectors.now c.loop-number.number c.vector.result.now c.excite.result.now c.relax.result.now c.vector.ensures c.excite.ensures c.relax.ensures in
    record {
      made = take c.loop-number.number (scripted c.args.vectors.now);
      fault = Some (record { cycle = c.loop-number.number; phase = c.in-Err.phase; fault = c.in-Err.fault });
      up_to = scripts-stop c.args.trace c.args.world.now (scripted c.args.vectors.now) (g.K.Sink.taken c.args.out.now) c.loop-number.number c.loop-number.world _ (g.K.Sink.taken c.loop-number.out)
          c.loop-number.invariant.so at _ refl c.in-Err.ensures.fails;
      tells = refl;
      wrote = record {
        whole = c.loop-number.invariant.so.grown;
        prefix = tt;
        cause = record { later = let l = c.loop-number.invariant.calm in omega arith; failed = tt; kept = c.loop-number.invariant.calm };
      };
    }

pub loop-number-preserved : goal.loop-number-preserved
loop-number-preserved g c =
    let asked = scripted c.args.vectors.now in
    let world = c.args.world.now in
    let rails = world.net.output_rails in
    let number = c.loop-number.number in
    let after = c.replay_cycle.new.world in
    let old = g.K.Sink.taken c.args.out.now in
    let now = g.K.Sink.taken c.loop-number.out in
    let new = g.K.Sink.taken c.write_asked.new.out in
    let cycle : Cycle = record { vector = c.vector.result.now; excite = map wire_number c.excite.result.now; relax = map wire_number c.relax.result.now } in
    let at = asked-is c.args.vectors.now number c.vector.result.now c.excite.result.now c.relax.result.now c.vector.ensures c.excite.ensures c.relax.ensures in
    let parts : AskedCycle = record { vector = c.vector.result; excite = c.excite.result; relax = c.relax.result } in
    let shows = subst (λ (n : PlainNetlist). ShowsScript n.output_rails parts c.replay_cycle.new.room) c.loop-number.invariant.net c.in-Ok.ensures.shows in
    let text = text-asked rails c.args.trace number parts c.replay_cycle.new.room shows in
    let net = c.replay_cycle.ensures.net ∙ c.loop-number.invariant.net in
    let grown = subst (λ t. Appends now new t) text (whole-grown now new _ _ _ _ (ok_so c.in_ok-write_asked-in-Ok.was) c.write_asked.ensures) in
    record {
      so = scripts-more c.args.trace world asked old number c.loop-number.world cycle now c.loop-number.invariant.so at after new c.in-Ok.ensures.made grown;
      calm = search rules;
      between = c.in-Ok.ensures.between;
      net = net;
      room = subst (λ n. HasRooms n c.replay_cycle.new.room) (sym c.replay_cycle.ensures.net) c.replay_cycle.ensures.room;
    }

pub returns : goal.returns
returns g c =
    let asked = scripted c.args.vectors.now in
    let size = asked-length 0 c.args.vectors.now.vectors c.args.vectors.now.scripts in
    record {
      made = take c.loop-number.number asked;
      fault = None;
      up_to = scripts-all c.args.trace c.args.world.now asked (g.K.Sink.taken c.args.out.now)
          c.loop-number.number c.loop-number.world (g.K.Sink.taken c.loop-number.out) c.loop-number.invariant.so (omega arith);
      tells = refl;
      wrote = record {
        whole = c.loop-number.invariant.so.grown;
        prefix = tt;
        cause = record { later = let l = c.loop-number.invariant.calm in omega arith; failed = tt; kept = c.loop-number.invariant.calm };
      };
    }
