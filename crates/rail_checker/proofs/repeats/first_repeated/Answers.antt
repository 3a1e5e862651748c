use Rattle.std.proofs.Common.{length, arith}
use Rattle.rail_checker.specs.Rails.{IsRepeated}
use Rattle.rail_checker.proofs.RailKeys.{repeated_more}
use Rattle.rail_checker.proofs.Refusing.{first_same}
use Rattle.rail_checker.proofs.repeats.first_repeated.Goals as goal

pub loop-place-init : goal.loop-place-init
loop-place-init c = (λ n h. absurd (omega (arith, h.1)), omega arith)

pub loop-place-preserved : goal.loop-place-preserved
loop-place-preserved c = (
  repeated_more c.args.keys.now c.loop-place.found c.loop-place.place c.loop-place.auto.place c.loop-place.invariant.0 c.with_key-found.result c.with_key-found.ensures,
  omega (arith, c.loop-place-test.true),
)

pub returns : goal.returns
returns c =
    first_same (IsRepeated c.args.keys.now c.loop-place.place) (IsRepeated c.args.keys.now (length c.args.keys.now))
    (λ n h. (h.0, omega (arith, h.1, c.loop-place.invariant.1, c.loop-place-test.false), h.2, h.3)) (λ n h. (h.0, omega (arith, h.1, c.loop-place-test.false), h.2, h.3)) c.loop-place.found
    c.loop-place.invariant.0
