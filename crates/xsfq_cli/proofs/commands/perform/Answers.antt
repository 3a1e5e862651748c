-- Where the first half ends in an outcome, the output is as it was.
use Rattle.std.proofs.Common.{inl, refl}
use Rattle.xsfq_cli.proofs.commands.perform.Goals as goal

pub returns-in-Err : goal.returns-in-Err
returns-in-Err g c = inl (c.in-Err.ensures, record { taken = refl; faults = refl; flushed = refl })
