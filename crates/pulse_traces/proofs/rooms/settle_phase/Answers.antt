-- The counts are those of the wires in the log.
use Rattle.std.proofs.Common.{◌∙◌, [], ap, sym, arith, length, map, sum}
use Rattle.std.proofs.lemmas.List.{length-map}
use Rattle.pulse_traces.specs.SimulationTexts.{digit_of}
use Rattle.pulse_traces.proofs.Counting.{counts-on, counts-length}
use Rattle.pulse_traces.proofs.rooms.settle_phase.Goals as goal

pub note_pulses-room-requires-clause-counts : goal.note_pulses-room-requires-clause-counts
note_pulses-room-requires-clause-counts g c =
    let counts = counts-on (g.F.Choose.names c.args.chooser.now) c.args.step c.settle-made.new.log.wires [] c.args.world.now c.settle-made.new.world
    c.settle-made.ensures.delivers c.requires.fresh in
    counts-length c.args.world.now.net.output_rails c.settle-made.new.log.wires _ counts ∙ sym c.requires.room.digits.rails_are

pub returns-clause-digits : goal.returns-clause-digits
returns-clause-digits g c =
    let counts = counts-on (g.F.Choose.names c.args.chooser.now) c.args.step c.settle-made.new.log.wires [] c.args.world.now c.settle-made.new.world
    c.settle-made.ensures.delivers c.requires.fresh in
    c.note_pulses-room.ensures.digits ∙ ap (map digit_of) counts

pub returns-clause-pulses : goal.returns-clause-pulses
returns-clause-pulses g c =
    let counts = counts-on (g.F.Choose.names c.args.chooser.now) c.args.step c.settle-made.new.log.wires [] c.args.world.now c.settle-made.new.world
    c.settle-made.ensures.delivers c.requires.fresh in
    c.note_pulses-room.ensures.count ∙ ap (λ l. sum l) counts

pub returns-clause-room : goal.returns-clause-room
returns-clause-room g c =
    let rails = c.args.world.now.net.output_rails in
    let counts = counts-on (g.F.Choose.names c.args.chooser.now) c.args.step c.settle-made.new.log.wires [] c.args.world.now c.settle-made.new.world
    c.settle-made.ensures.delivers c.requires.fresh in
    let width = counts-length rails c.settle-made.new.log.wires c.settle-made.new.world.counted counts ∙ sym c.requires.room.digits.rails_are in
    record {
      wires = let r = c.requires.room.wires in let s = c.settle-made.ensures.room in omega arith;
      digits = record {
        rails_are = c.requires.room.digits.rails_are;
        each_rail = ap (λ l. length l) c.note_pulses-room.ensures.digits ∙ (length-map c.settle-made.new.world.counted digit_of ∙ width);
      };
    }
