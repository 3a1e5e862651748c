use Rattle.source_machine.proofs.ExampleMachines.{toggles_thrice, adds_two_bits, half_adder_is_accepted, names_are_judged, off_set_is_or, no_cube_is_off, empty_cube_is_on, ring_is_refused, clash_is_refused, loose_is_refused, spare_is_accepted}
use Rattle.source_machine.proofs.laws.examples.Goals as goal

pub returns : goal.returns
returns c = record {
  toggle = toggles_thrice;
  half_adder = adds_two_bits;
  half_adder_accepted = half_adder_is_accepted;
  names = names_are_judged;
  off_set = off_set_is_or;
  no_cube = no_cube_is_off;
  empty_cube = empty_cube_is_on;
  ring = ring_is_refused;
  clash = clash_is_refused;
  loose = loose_is_refused;
  spare = spare_is_accepted;
}
