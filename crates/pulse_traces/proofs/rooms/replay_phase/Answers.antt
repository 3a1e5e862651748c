-- The counts are those of the script.
use Rattle.std.proofs.Common.{◌∙◌, [], ap, sym, length, map, subst}
use Rattle.schedule_replay.specs.Logs.{wire_number}
use Rattle.schedule_replay.specs.Replaying.{Replays}
use Rattle.schedule_replay.specs.Settling.{Anywhere}
use Rattle.std.proofs.lemmas.List.{length-map}
use Rattle.pulse_traces.specs.SimulationTexts.{digit_of}
use Rattle.pulse_traces.proofs.Counting.{counts-on, counts-length}
use Rattle.pulse_traces.proofs.rooms.replay_phase.Goals as goal

pub note_pulses-room-requires-clause-counts : goal.note_pulses-room-requires-clause-counts
note_pulses-room-requires-clause-counts c =
    let done = subst (Replays c.args.world.now (map wire_number c.args.script.now) c.replay.new.world) c.in_ok-replay.was c.replay.ensures.replays in
    let counts = counts-on Anywhere 0 (map wire_number c.args.script.now) [] c.args.world.now c.replay.new.world done.0 c.requires.fresh in
    counts-length c.args.world.now.net.output_rails (map wire_number c.args.script.now) _ counts ∙ sym c.requires.room.digits.rails_are

pub returns-clause-digits : goal.returns-clause-digits
returns-clause-digits c =
    let done = subst (Replays c.args.world.now (map wire_number c.args.script.now) c.replay.new.world) c.in_ok-replay.was c.replay.ensures.replays in
    let counts = counts-on Anywhere 0 (map wire_number c.args.script.now) [] c.args.world.now c.replay.new.world done.0 c.requires.fresh in
    c.note_pulses-room.ensures.digits ∙ ap (map digit_of) counts

pub returns-clause-room : goal.returns-clause-room
returns-clause-room c =
    let done = subst (Replays c.args.world.now (map wire_number c.args.script.now) c.replay.new.world) c.in_ok-replay.was c.replay.ensures.replays in
    let counts = counts-on Anywhere 0 (map wire_number c.args.script.now) [] c.args.world.now c.replay.new.world done.0 c.requires.fresh in
    record {
      wires = c.requires.room.wires;
      digits = record {
        rails_are = c.requires.room.digits.rails_are;
        each_rail = ap (λ l. length l) c.note_pulses-room.ensures.digits ∙ (length-map c.replay.new.world.counted digit_of
            ∙ (counts-length c.args.world.now.net.output_rails (map wire_number c.args.script.now) c.replay.new.world.counted counts ∙ sym c.requires.room.digits.rails_are));
      };
    }
