use Rattle.std.proofs.Common.{arith, ◌<◌, List, ℕ, [], length, sym, subst}
use Rattle.dependency_order.specs.Dependencies.{AreBelow}
use Rattle.dependency_order.proofs.Links.{AllLinked-more, room_left}
use Rattle.dependency_order.proofs.readers.Readers.of.Goals as goal

pub add_all-requires-clause-fit : goal.add_all-requires-clause-fit
add_all-requires-clause-fit c =
    let lt : c.loop-item.item < length c.args.dependencies.now.needs = omega (arith, c.loop-item-test.true, c.len-count.ensures) in
    let below : AreBelow c.args.dependencies.now.count c.needs.result.now = subst (λ (l : List ℕ). AreBelow c.args.dependencies.now.count l) (sym c.needs.ensures)
    (c.requires.needs_fit c.loop-item.item [] lt) in
    subst (λ (n : ℕ). AreBelow n c.needs.result.now) (sym c.loop-item.invariant.width) below

pub add_all-requires-clause-few : goal.add_all-requires-clause-few
add_all-requires-clause-few c =
    let lt : c.loop-item.item < length c.args.dependencies.now.needs = omega (arith, c.loop-item-test.true, c.len-count.ensures) in
    room_left c.args.dependencies.now.needs c.loop-item.item c.args.dependencies.now.count c.needs.result.now c.loop-item.readers lt c.needs.ensures c.requires.few_needs c.loop-item.invariant

pub loop-item-preserved : goal.loop-item-preserved
loop-item-preserved c =
    AllLinked-more c.args.dependencies.now.needs c.loop-item.item c.args.dependencies.now.count c.needs.result.now c.loop-item.readers c.add_all.new.self
    (omega (arith, c.loop-item-test.true, c.len-count.ensures)) c.needs.ensures c.loop-item.invariant c.in_ok-add_all.ensures
