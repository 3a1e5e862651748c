use Rattle.pulse_world.proofs.SoundExamples.{half_adder_delivers, constant_delivers, toggle_delivers, inverter_delivers}
use Rattle.pulse_world.proofs.TwofoldExample.{twofold_delivers}
use Rattle.pulse_world.proofs.UnsoundExamples.{rules_are_needed}
use Rattle.pulse_world.proofs.examples.examples_deliver.Goals as goal

pub returns-clause-half_adder : goal.returns-clause-half_adder
returns-clause-half_adder c = half_adder_delivers

pub returns-clause-constant : goal.returns-clause-constant
returns-clause-constant c = constant_delivers

pub returns-clause-toggle : goal.returns-clause-toggle
returns-clause-toggle c = toggle_delivers

pub returns-clause-inverter : goal.returns-clause-inverter
returns-clause-inverter c = inverter_delivers

pub returns-clause-twofold : goal.returns-clause-twofold
returns-clause-twofold c = twofold_delivers

pub returns-clause-rules : goal.returns-clause-rules
returns-clause-rules c = rules_are_needed
