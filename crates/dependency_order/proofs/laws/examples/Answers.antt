use Rattle.dependency_order.proofs.SmallCase.{three_in_order, three_other_way, three_circle}
use Rattle.dependency_order.proofs.laws.examples.Goals as goal

pub returns : goal.returns
returns c = record { order = three_in_order; other_way = three_other_way; circle = three_circle }
