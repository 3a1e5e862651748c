use Rattle.std.proofs.Common.{◌+◌, ◌^◌, arith}
use Rattle.rail_mapper.proofs.Rooms.{less_room}
use Rattle.rail_mapper.proofs.drafts.Draft.grow_input.Goals as goal

pub returns-clause-room : goal.returns-clause-room
returns-clause-room c = less_room c.grow.new.self (2 ^ 16) (2 ^ 16 + 2) (omega arith) (c.in_ok-grow.ensures.room (2 ^ 16) c.requires.room)
