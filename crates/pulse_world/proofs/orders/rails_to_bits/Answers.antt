use Rattle.pulse_world.proofs.PortBits as bridge
use Rattle.pulse_world.proofs.orders.rails_to_bits.Goals as goal

pub returns : goal.returns
returns c = record { bits = bridge.rails_to_bits }
