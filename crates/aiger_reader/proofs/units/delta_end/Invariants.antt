-- No byte so far completes the delta.
use Rattle.std.proofs.Common.{◌≡◌, ℕ, ◌<◌, ◌+◌, false, slice_index}
use Rattle.aiger_reader.specs.declared.units.UnitKind.TheVariants.{Delta}
use Rattle.aiger_reader.specs.Units.{ends_with}
use Rattle.aiger_reader.proofs.units.delta_end.Given as goal

abbrev pub invariant-loop-place : goal.invariant-loop-place
invariant-loop-place l = (k : ℕ) → k < l.place → ends_with Delta (l.begun + k) (slice_index l.piece k) ≡ false
