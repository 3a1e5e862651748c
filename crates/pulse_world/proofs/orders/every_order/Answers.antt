use Rattle.pulse_world.proofs.MomentInvariant.{order_law}
use Rattle.pulse_world.proofs.PortBits.{bit_law}
use Rattle.pulse_world.proofs.DueWires.{follow_law}
use Rattle.pulse_world.proofs.WholeCycles.{rail_law}
use Rattle.pulse_world.proofs.orders.every_order.Goals as goal

pub returns-clause-delivers : goal.returns-clause-delivers
returns-clause-delivers c = order_law

pub returns-clause-bits : goal.returns-clause-bits
returns-clause-bits c = bit_law

pub returns-clause-follows : goal.returns-clause-follows
returns-clause-follows c = follow_law

pub returns-clause-rails : goal.returns-clause-rails
returns-clause-rails c = rail_law
