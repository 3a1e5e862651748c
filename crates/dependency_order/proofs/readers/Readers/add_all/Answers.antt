use Rattle.std.proofs.Common.{arith}
use Rattle.std.proofs.lemmas.List.{length-take-le}
use Rattle.dependency_order.proofs.Links.{LinksAdded-more}
use Rattle.dependency_order.proofs.readers.Readers.add_all.Goals as goal

pub add-requires-clause-number : goal.add-requires-clause-number
add-requires-clause-number c =
    omega (arith, c.loop-number.invariant.width, c.requires.fit c.loop-number.number-index 0 c.loop-number-test.true)

pub add-requires-clause-few : goal.add-requires-clause-few
add-requires-clause-few c =
    omega (
      arith,
      c.loop-number.invariant.longer,
      length-take-le c.loop-number.number-index c.args.numbers.now
          (omega (arith, c.loop-number-test.true)),
      c.loop-number-test.true,
      c.requires.few,
    )

pub loop-number-preserved : goal.loop-number-preserved
loop-number-preserved c =
    LinksAdded-more c.args.self.now c.loop-number.self c.add.new.self c.args.numbers.now c.loop-number.number-index c.args.item c.loop-number-test.true
    (c.requires.fit c.loop-number.number-index 0 c.loop-number-test.true) c.loop-number.invariant c.in_ok-add.ensures
