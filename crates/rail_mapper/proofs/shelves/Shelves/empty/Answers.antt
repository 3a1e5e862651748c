use Rattle.std.proofs.Common.{length}
use Rattle.rail_mapper.proofs.ShelfLemmas.{bare_in_table, bare_leaves}
use Rattle.rail_mapper.proofs.shelves.Shelves.empty.Goals as goal

pub invariant_of-result : goal.invariant_of-result
invariant_of-result c = bare_in_table (length c.new.result.items) c.args.rails c.in_ok-bare_shelves.field-0.items c.in_ok-bare_shelves.ensures

pub returns : goal.returns
returns c = bare_leaves _ c.args.rails c.in_ok-bare_shelves.field-0.items c.in_ok-bare_shelves.ensures
