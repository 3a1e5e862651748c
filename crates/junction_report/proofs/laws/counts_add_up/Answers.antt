use Rattle.std.proofs.Common.{arith}
use Rattle.junction_report.proofs.Counting.{all_counted}
use Rattle.junction_report.proofs.laws.counts_add_up.Goals as goal

pub returns : goal.returns
returns c net report h =
    let all = all_counted net.cells in
    let la = h.la in
    let fa = h.fa in
    let split = h.split in
    let droc0 = h.droc0 in
    let droc1 = h.droc1 in omega arith
