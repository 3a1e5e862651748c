use Rattle.std.proofs.Common.{◌+◌}
use Rattle.rail_mapper.proofs.Results.{on_ok}
use Rattle.rail_mapper.proofs.drafts.Draft.add_gate.Goals as goal

pub returns-clause-room : goal.returns-clause-room
returns-clause-room c =
    on_ok c.grow.result _ _ (λ grown more room. grown more (c.in_ok-out.ensures.room more (c.take_both.ensures.room (more + 1) room))) c.grow.ensures.room
