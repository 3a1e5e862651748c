-- A reader that has stopped reads no more.
use Rattle.std.proofs.Common.{◌+◌, refl, arith}
use Rattle.blif_reader.proofs.Limits.{reads_not}
use Rattle.blif_reader.proofs.readings.take_more.Goals as goal

pub returns-in-Some-clause-read : goal.returns-in-Some-clause-read
returns-in-Some-clause-read c =
    let old = c.args.reading.now in
    λ unset text read. reads_not unset text c.args.piece.now old (record old { taken = old.taken + c.min.result }) c.in-Some.field-0 c.in-Some.is read (omega (arith, c.min.ensures)) refl refl
