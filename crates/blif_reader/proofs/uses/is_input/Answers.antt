-- The raw machine's lists are the plain one's.
use Rattle.std.proofs.Common.{◌∙◌}
use Rattle.blif_reader.proofs.UseLemmas.{input_is}
use Rattle.blif_reader.proofs.uses.is_input.Goals as goal

pub returns : goal.returns
returns c = (rw (c.as_slice.ensures.value) at c.nets_have.ensures) ∙ input_is c.args.net c.args.machine.now
