use Rattle.std.proofs.Common.{ap, ◌∙◌, arith}
use Rattle.junction_report.specs.Depths.{most}
use Rattle.junction_report.proofs.Lowest.{last_is}
use Rattle.junction_report.proofs.paths.deepest.Goals as goal

pub returns : goal.returns
returns c = last_is c.args.depths.now c.greatest-greatest.result (c.greatest-greatest.ensures ∙ ap most c.items.ensures) (omega arith) c.lowest_of.result c.lowest_of.ensures
