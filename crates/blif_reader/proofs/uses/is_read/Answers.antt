-- The raw machine's lists are the plain one's.
use Rattle.std.proofs.Common.{◌∙◌}
use Rattle.blif_reader.proofs.UseLemmas.{read_is}
use Rattle.blif_reader.proofs.uses.is_read.Goals as goal

pub returns : goal.returns
returns c = (rw (c.as_slice.ensures.value, c.as_slice-2.ensures.value, c.as_slice-3.ensures.value) at c.stands_in.ensures) ∙ read_is c.args.net c.args.machine.now
