use Rattle.wire_ledgers.proofs.CallerLemmasOnEnds.{closed_wired, all_grounded, closed_sound}
use Rattle.wire_ledgers.proofs.laws.ledger_ends.Goals as goal

pub returns-clause-wired : goal.returns-clause-wired
returns-clause-wired c = closed_wired

pub returns-clause-grounded : goal.returns-clause-grounded
returns-clause-grounded c = all_grounded

pub returns-clause-sound : goal.returns-clause-sound
returns-clause-sound c = closed_sound
