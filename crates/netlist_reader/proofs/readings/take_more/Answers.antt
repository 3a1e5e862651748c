-- A reader that has stopped reads no more, and one that goes on tells whether the text has ended.
use Rattle.std.proofs.Common.{◌≡◌, ◌-◌, ◌++◌, length, take, Option, subst, sym, ◌∙◌, arith}
use Rattle.std.proofs.lemmas.List.{length-append, length-take}
use Rattle.netlist_reader.specs.declared.refusals.NetRefusal.{NetRefusal}
use Rattle.netlist_reader.specs.Verdicts.{limit}
use Rattle.netlist_reader.specs.Readings.{HasStopped}
use Rattle.netlist_reader.proofs.Memory.{or_memory_then}
use Rattle.netlist_reader.proofs.Texts.{shown_stays, none_shown}
use Rattle.netlist_reader.proofs.Growing.{stops_stays}
use Rattle.netlist_reader.proofs.Ends.{ended_is, nothing_after}
use Rattle.netlist_reader.proofs.readings.take_more.Goals as goal

pub returns-in-Some-clause-err : goal.returns-in-Some-clause-err
returns-in-Some-clause-err c =
    let r = c.args.reading.now in
    λ text read. subst (λ (s : Option NetRefusal). HasStopped s (text ++ c.args.piece.now) r.lines r.built r.taken) (sym c.in-Some.is)
    (let stood = subst (λ (s : Option NetRefusal). HasStopped s text r.lines r.built r.taken) c.in-Some.is read in
    (or_memory_then c.in-Some.refusal _ _ (shown_stays text c.args.piece.now c.in-Some.refusal) stood.0, stops_stays text c.args.piece.now r.built.lines r.built.inputs c.in-Some.refusal stood.1))

pub returns-in-Some-clause-early : goal.returns-in-Some-clause-early
returns-in-Some-clause-early c =
    let r = c.args.reading.now in
    λ text read. or_memory_then c.in-Some.refusal _ _ (shown_stays text c.args.piece.now c.in-Some.refusal)
    (subst (λ (s : Option NetRefusal). HasStopped s text r.lines r.built r.taken) c.in-Some.is read).0

pub returns-in-Err-clause-err : goal.returns-in-Err-clause-err
returns-in-Err-clause-err c =
    let r = c.args.reading.now in
    λ text read.
    let stands = subst (λ (s : Option NetRefusal). HasStopped s text r.lines r.built r.taken) c.in-None.is read in
    let e : length text ≡ limit - c.room_after-room.result = omega (arith, c.room_after-room.ensures, stands.0, c.requires.within) in
    (c.in-Err.ensures.err text e stands.1, c.in-Err.ensures.stops text e stands.1)

pub returns-in-Ok-clause-early : goal.returns-in-Ok-clause-early
returns-in-Ok-clause-early c =
    let r = c.args.reading.now in
    let piece = c.args.piece.now in
    λ text read.
    let stands = subst (λ (s : Option NetRefusal). HasStopped s text r.lines r.built r.taken) c.in-None.is read in
    none_shown text piece c.in-Ok.used c.read_on.new.lines c.read_on.new.built
    (omega (
      arith,
      c.room_after-room.ensures,
      stands.0,
      c.requires.within,
      c.in-Ok.ensures.used.0,
      c.in-Ok.ensures.used.1,
      length-append text
          (take c.in-Ok.used piece),
      length-take c.in-Ok.used piece,
    ))
    (c.in-Ok.ensures.ok text stands.1) c.in-Ok.ensures.all

pub returns-in-Ok-clause-ended : goal.returns-in-Ok-clause-ended
returns-in-Ok-clause-ended c =
    let r = c.args.reading.now in
    let piece = c.args.piece.now in
    λ text read.
    let stands = subst (λ (s : Option NetRefusal). HasStopped s text r.lines r.built r.taken) c.in-None.is read in
    c.has_ended.ensures ∙ ended_is (text ++ take c.in-Ok.used piece) c.read_on.new.lines c.read_on.new.built
    (omega (
      arith,
      c.room_after-room.ensures,
      stands.0,
      c.requires.within,
      c.in-Ok.ensures.used.0,
      c.in-Ok.ensures.used.1,
      length-append text
          (take c.in-Ok.used piece),
      length-take c.in-Ok.used piece,
    ))
    (c.in-Ok.ensures.ok text stands.1)

pub returns-in-Ok-clause-nothing_after : goal.returns-in-Ok-clause-nothing_after
returns-in-Ok-clause-nothing_after c =
    let r = c.args.reading.now in
    let piece = c.args.piece.now in
    λ text read.
    let stands = subst (λ (s : Option NetRefusal). HasStopped s text r.lines r.built r.taken) c.in-None.is read in
    nothing_after (text ++ take c.in-Ok.used piece) c.read_on.new.lines c.read_on.new.built
    (omega (
      arith,
      c.room_after-room.ensures,
      stands.0,
      c.requires.within,
      c.in-Ok.ensures.used.0,
      c.in-Ok.ensures.used.1,
      length-append text
          (take c.in-Ok.used piece),
      length-take c.in-Ok.used piece,
    ))
    (c.in-Ok.ensures.ok text stands.1) c.in-Ok.ensures.fine
