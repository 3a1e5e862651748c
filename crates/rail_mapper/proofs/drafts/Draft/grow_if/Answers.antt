use Rattle.std.proofs.Common.{◌+◌, arith}
use Rattle.rail_mapper.proofs.Rooms.{less_room}
use Rattle.rail_mapper.proofs.Results.{on_ok}
use Rattle.rail_mapper.proofs.drafts.Draft.grow_if.Goals as goal

pub returns-clause-room : goal.returns-clause-room
returns-clause-room c = on_ok c.grow.result _ _ (λ grown more room. less_room c.grow.new.self more (more + 2) (omega arith) (grown more room)) c.grow.ensures.room
