-- The raw machine's lists are the plain one's.
use Rattle.std.proofs.Common.{◌∙◌}
use Rattle.blif_reader.proofs.UseLemmas.{made_is}
use Rattle.blif_reader.proofs.uses.is_made.Goals as goal

pub returns : goal.returns
returns c = (rw (c.as_slice.ensures.value, c.as_slice-2.ensures.value) at c.is_driven.ensures) ∙ made_is c.args.net c.args.machine.now
