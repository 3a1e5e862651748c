-- The ways out of the loop.
use Rattle.std.proofs.Common.{◌≤◌, arith, length-take}
use Rattle.std.proofs.lemmas.Grind.{common_steps}
use Rattle.xsfq_cli.proofs.Taking.{failed_after, refused_after}
use Rattle.xsfq_cli.proofs.consuming.take_all.Goals as goal

pub returns-in-Err : goal.returns-in-Err
returns-in-Err g c =
    let took = c.loop-count.invariant.took in
    failed_after g.C.Consumer.shows g.C.Consumer.judges _ _ _ _ _ _ took.0 c.requires.early took.1 c.loop-count.invariant.calm took.3 c.in-Err.ensures.bytes c.in-Err.ensures.cause.failed

pub returns-in-Err-feed : goal.returns-in-Err-feed
returns-in-Err-feed g c =
    let took = c.loop-count.invariant.took in
    let most : c.in-Ok.count ≤ 4096 = grind (arith, common_steps, c.in-Ok.ensures.bound) in
    refused_after g.C.Consumer.shows g.C.Consumer.judges _ _ _ _ _ _ took.0 _ c.in-Err-feed.outcome c.requires.early took.1 c.loop-count.invariant.calm took.3
    c.in-Ok.ensures.bytes.0 c.in-Ok.ensures.cause.kept
    (omega (arith, length-take c.in-Ok.count c.read.new.into, most)) (c.in-Err-feed.ensures.early took.0 took.2)
