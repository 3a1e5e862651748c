use Rattle.pulse_world.proofs.WorldMoments.{start_is_beginning, excite_is_opened, relax_is_opened, place_is_delivered}
use Rattle.pulse_world.proofs.moments.moments_of_worlds.Goals as goal

pub returns-clause-start : goal.returns-clause-start
returns-clause-start c = start_is_beginning

pub returns-clause-excite : goal.returns-clause-excite
returns-clause-excite c = excite_is_opened

pub returns-clause-relax : goal.returns-clause-relax
returns-clause-relax c = relax_is_opened

pub returns-clause-delivery : goal.returns-clause-delivery
returns-clause-delivery c = place_is_delivered
