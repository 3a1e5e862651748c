use Rattle.cell_netlist.proofs.ExampleBits.{toggle_bits, texts_are_these}
use Rattle.cell_netlist.proofs.ExampleLeanness.{leanness_is_seen}
use Rattle.cell_netlist.proofs.ExampleRefusals.{rules_are_refused, first_is_refused}
use Rattle.cell_netlist.proofs.ExampleRuns.{toggle_is_sound, toggle_runs, half_adder_is_sound, half_adder_is_lean, half_adder_runs, half_adder_places, half_adder_asks, constant_runs, upsets_are_seen}
use Rattle.cell_netlist.proofs.examples.examples_hold.Goals as goal

pub returns-clause-toggle_is_sound : goal.returns-clause-toggle_is_sound
returns-clause-toggle_is_sound c = toggle_is_sound

pub returns-clause-toggle_runs : goal.returns-clause-toggle_runs
returns-clause-toggle_runs c = toggle_runs

pub returns-clause-toggle_bits : goal.returns-clause-toggle_bits
returns-clause-toggle_bits c = toggle_bits

pub returns-clause-half_adder_is_sound : goal.returns-clause-half_adder_is_sound
returns-clause-half_adder_is_sound c = half_adder_is_sound

pub returns-clause-half_adder_is_lean : goal.returns-clause-half_adder_is_lean
returns-clause-half_adder_is_lean c = half_adder_is_lean

pub returns-clause-half_adder_runs : goal.returns-clause-half_adder_runs
returns-clause-half_adder_runs c = half_adder_runs

pub returns-clause-half_adder_places : goal.returns-clause-half_adder_places
returns-clause-half_adder_places c = half_adder_places

pub returns-clause-half_adder_asks : goal.returns-clause-half_adder_asks
returns-clause-half_adder_asks c = half_adder_asks

pub returns-clause-constant_runs : goal.returns-clause-constant_runs
returns-clause-constant_runs c = constant_runs

pub returns-clause-upsets_are_seen : goal.returns-clause-upsets_are_seen
returns-clause-upsets_are_seen c = upsets_are_seen

pub returns-clause-rules_are_refused : goal.returns-clause-rules_are_refused
returns-clause-rules_are_refused c = rules_are_refused

pub returns-clause-first_is_refused : goal.returns-clause-first_is_refused
returns-clause-first_is_refused c = first_is_refused

pub returns-clause-leanness_is_seen : goal.returns-clause-leanness_is_seen
returns-clause-leanness_is_seen c = leanness_is_seen

pub returns-clause-texts_are_these : goal.returns-clause-texts_are_these
returns-clause-texts_are_these c = texts_are_these
