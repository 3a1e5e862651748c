use Rattle.std.proofs.Common.{arith}
use Rattle.dependency_order.proofs.Cuts.{lists_count}
use Rattle.dependency_order.proofs.lists.Lists.len.Goals as goal

pub returns : goal.returns
returns c =
    omega (arith, c.len.ensures, c.args.self.now.ends.ok.0, lists_count 0 c.args.self.now.ends.items c.args.self.now.values.items)
