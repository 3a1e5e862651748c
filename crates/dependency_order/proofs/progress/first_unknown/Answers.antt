use Rattle.dependency_order.proofs.progress.first_unknown.Goals as goal

pub bounds-known-needs : goal.bounds-known-needs
bounds-known-needs c = c.requires.fit c.loop-at.at 0 c.loop-at-test.true
