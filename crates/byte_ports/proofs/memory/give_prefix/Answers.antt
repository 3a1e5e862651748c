-- What was copied is the prefix of the rest.
use Rattle.byte_ports.proofs.Pieces.{rest_splits}
use Rattle.byte_ports.proofs.memory.give_prefix.Goals as goal

pub returns-clause-consumed : goal.returns-clause-consumed
returns-clause-consumed c = rest_splits _ _ _ _ c.copy_prefix.ensures.prefix
