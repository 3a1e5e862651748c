use Rattle.std.proofs.Common.{arith}
use Rattle.pulse_ids.proofs.CallerLemmas.{IsIn-at}
use Rattle.source_machine.proofs.LowestNets.{MarksAll-more}
use Rattle.source_machine.proofs.lowest_nets.set_bits.Goals as goal

pub index_mut-requires : goal.index_mut-requires
index_mut-requires c =
    omega (arith, c.loop-net.invariant.width, c.requires _ (IsIn-at c.args.nets.now c.loop-net.net-index 0 c.loop-net-test.true))

pub loop-net-preserved : goal.loop-net-preserved
loop-net-preserved c =
    MarksAll-more c.args.bits.now.items c.args.nets.now c.loop-net.net-index c.args.value c.loop-net.bits.items c.loop-net-test.true
    (omega (arith, c.loop-net.invariant.width, c.requires _ (IsIn-at c.args.nets.now c.loop-net.net-index 0 c.loop-net-test.true))) c.loop-net.invariant
