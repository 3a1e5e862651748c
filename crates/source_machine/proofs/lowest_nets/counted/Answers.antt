use Rattle.std.proofs.Common.{◌≡◌, ◌<◌, ◌+◌, min, get_or, ap, ◌∙◌, arith}
use Rattle.std.proofs.lemmas.List.{get_or_default}
use Rattle.pulse_ids.proofs.CallerLemmas.{IsIn-at}
use Rattle.source_machine.proofs.LowestNets.{Counts-more}
use Rattle.source_machine.proofs.lowest_nets.counted.Goals as goal

pub index-requires : goal.index-requires
index-requires c =
    omega (arith, c.requires _ (IsIn-at c.args.nets.now c.loop-net.net-index 0 c.loop-net-test.true), c.loop-net.invariant.width)

pub index_mut-requires : goal.index_mut-requires
index_mut-requires c =
    omega (arith, c.requires _ (IsIn-at c.args.nets.now c.loop-net.net-index 0 c.loop-net-test.true), c.loop-net.invariant.width)

pub loop-net-preserved : goal.loop-net-preserved
loop-net-preserved c =
    let fits : get_or c.args.nets.now c.loop-net.net-index 0 < c.args.count = c.requires _ (IsIn-at c.args.nets.now c.loop-net.net-index 0 c.loop-net-test.true) in
    let seen : c.index.result.now ≡ get_or c.loop-net.counts.items (get_or c.args.nets.now c.loop-net.net-index 0) 0 =
    c.index.ensures ∙ get_or_default c.loop-net.counts.items _ c.index.result.now 0 (omega (arith, c.loop-net.invariant.width)) in
    Counts-more c.args.count c.args.nets.now c.loop-net.net-index c.loop-net.counts.items c.saturating_add.result c.loop-net-test.true fits
    (c.saturating_add.ensures ∙ ap (λ n. min (n + 1) 255) seen) c.loop-net.invariant
