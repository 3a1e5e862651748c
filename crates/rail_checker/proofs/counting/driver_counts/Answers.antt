use Rattle.std.proofs.Common.{◌≡◌, ℕ, List, length, map, replicate, sym, ap, subst, ◌∙◌, arith}
use Rattle.std.specs.List.{flat_map}
use Rattle.std.proofs.lemmas.List.{length-replicate}
use Rattle.cell_netlist.specs.Netlists.{wire_of, outs, driven, number_of_wires}
use Rattle.cell_netlist.proofs.CallerLemmas.{number_of_wires-parts}
use Rattle.rail_checker.specs.Counts.{Counts}
use Rattle.rail_checker.proofs.WireCounts.{width, with_wires-append, all_counted}
use Rattle.rail_checker.proofs.counting.driver_counts.Goals as goal

pub count_rails-requires : goal.count_rails-requires
count_rails-requires c =
    let long : length c.in_ok-counts.counts ≡ c.wires.result = ap (λ (l : List ℕ). length l) c.in_ok-counts.ensures ∙ length-replicate {A = ℕ} c.wires.result 0 in
    rw c.input_rails.ensures (omega (arith, long, c.wires.ensures.value, number_of_wires-parts c.args.net.now))

pub count_outs-requires : goal.count_outs-requires
count_outs-requires c =
    let long : length c.in_ok-counts.counts ≡ c.wires.result = ap (λ (l : List ℕ). length l) c.in_ok-counts.ensures ∙ length-replicate {A = ℕ} c.wires.result 0 in
    let same : length c.count_rails.new.counts ≡ length c.in_ok-counts.counts =
    ap (λ (l : List ℕ). length l) c.count_rails.ensures ∙ width c.in_ok-counts.counts (map wire_of c.input_rails.result.now) in
    rw c.cells.ensures (omega (arith, long, same, c.wires.ensures.value, number_of_wires-parts c.args.net.now))

pub returns : goal.returns
returns c =
    let begun : c.in_ok-counts.counts ≡ replicate (number_of_wires c.args.net.now) 0 = c.in_ok-counts.ensures ∙ ap (λ (n : ℕ). replicate n 0) c.wires.ensures.value in
    subst (λ t. Counts (number_of_wires c.args.net.now) (driven c.args.net.now) t)
    (sym (rw (c.count_outs.ensures, c.cells.ensures, c.count_rails.ensures, c.input_rails.ensures, begun)
    (sym (with_wires-append (replicate (number_of_wires c.args.net.now) 0) (map wire_of c.args.net.now.input_rails) (flat_map outs c.args.net.now.cells)))))
    (all_counted (number_of_wires c.args.net.now) (driven c.args.net.now))
