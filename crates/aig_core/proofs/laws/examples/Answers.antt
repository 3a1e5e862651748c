use Rattle.aig_core.proofs.HalfAdder.{adds_two_bits, tidy_is_judged, folds_are_judged}
use Rattle.aig_core.proofs.laws.examples.Goals as goal

pub returns : goal.returns
returns c = record {
  half_adder = adds_two_bits;
  tidy = tidy_is_judged;
  folds = folds_are_judged;
}
