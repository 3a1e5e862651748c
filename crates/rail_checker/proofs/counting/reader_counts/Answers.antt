use Rattle.std.proofs.Common.{◌≡◌, ℕ, List, length, map, replicate, sym, ap, subst, ◌∙◌, arith}
use Rattle.std.specs.List.{flat_map}
use Rattle.std.proofs.lemmas.List.{length-replicate}
use Rattle.cell_netlist.specs.Netlists.{wire_of, reads, read, number_of_wires}
use Rattle.cell_netlist.proofs.CallerLemmas.{number_of_wires-parts}
use Rattle.rail_checker.specs.Counts.{Counts}
use Rattle.rail_checker.proofs.WireCounts.{width, with_wires-append, all_counted}
use Rattle.rail_checker.proofs.counting.reader_counts.Goals as goal

pub count_reads-requires : goal.count_reads-requires
count_reads-requires c =
    let long : length c.in_ok-counts.counts ≡ c.wires.result = ap (λ (l : List ℕ). length l) c.in_ok-counts.ensures ∙ length-replicate {A = ℕ} c.wires.result 0 in
    rw c.cells.ensures (omega (arith, long, c.wires.ensures.value, number_of_wires-parts c.args.net.now))

pub count_rails-requires : goal.count_rails-requires
count_rails-requires c =
    let long : length c.in_ok-counts.counts ≡ c.wires.result = ap (λ (l : List ℕ). length l) c.in_ok-counts.ensures ∙ length-replicate {A = ℕ} c.wires.result 0 in
    let same : length c.count_reads.new.counts ≡ length c.in_ok-counts.counts =
    ap (λ (l : List ℕ). length l) c.count_reads.ensures ∙ width c.in_ok-counts.counts (flat_map reads c.cells.result.now) in
    rw c.output_rails.ensures (omega (arith, long, same, c.wires.ensures.value, number_of_wires-parts c.args.net.now))

pub returns : goal.returns
returns c =
    let begun : c.in_ok-counts.counts ≡ replicate (number_of_wires c.args.net.now) 0 = c.in_ok-counts.ensures ∙ ap (λ (n : ℕ). replicate n 0) c.wires.ensures.value in
    subst (λ t. Counts (number_of_wires c.args.net.now) (read c.args.net.now) t)
    (sym (rw (c.count_rails.ensures, c.output_rails.ensures, c.count_reads.ensures, c.cells.ensures, begun)
    (sym (with_wires-append (replicate (number_of_wires c.args.net.now) 0) (flat_map reads c.args.net.now.cells) (map wire_of c.args.net.now.output_rails)))))
    (all_counted (number_of_wires c.args.net.now) (read c.args.net.now))
