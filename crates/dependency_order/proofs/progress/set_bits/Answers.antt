use Rattle.std.proofs.Common.{arith}
use Rattle.dependency_order.proofs.Bits.{MarksAll-more}
use Rattle.dependency_order.proofs.progress.set_bits.Goals as goal

pub index_mut-requires : goal.index_mut-requires
index_mut-requires c =
    omega (arith, c.loop-number.invariant.width, c.requires c.loop-number.number-index 0 c.loop-number-test.true)

pub loop-number-preserved : goal.loop-number-preserved
loop-number-preserved c =
    MarksAll-more c.args.bits.now.items c.args.numbers.now c.loop-number.number-index c.loop-number.bits.items c.loop-number-test.true
    (omega (arith, c.loop-number.invariant.width, c.requires c.loop-number.number-index 0 c.loop-number-test.true)) c.loop-number.invariant
