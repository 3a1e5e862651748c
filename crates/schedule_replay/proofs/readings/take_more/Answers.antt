-- A reader that is refused reads no more.
use Rattle.std.proofs.Common.{◌++◌, sym, subst, arith, Option}
use Rattle.std.proofs.lemmas.List.{length-append}
use Rattle.schedule_replay.specs.declared.refusals.VectorRefusal.{VectorRefusal}
use Rattle.schedule_replay.specs.Readings.{HasStopped}
use Rattle.schedule_replay.proofs.Stopping.{refused_stays}
use Rattle.schedule_replay.proofs.readings.take_more.Goals as goal

pub returns-in-Some-clause-read : goal.returns-in-Some-clause-read
returns-in-Some-clause-read c =
    let old = c.args.reading.now in
    let refusal = c.in-Some.field-0 in
    let piece = c.args.piece.now in
    λ form text read. record {
      form_is = read.form_is;
      taken = omega (arith, c.min.ensures, read.taken, length-append text piece);
      stopped = subst (λ (r : Option VectorRefusal). HasStopped form (text ++ piece) r old.lines old.table) (sym c.in-Some.is)
          (refused_stays form text old read piece refusal old.lines old.table c.in-Some.is);
    }
