use Rattle.std.proofs.Common.{◌≡◌, ◌≤◌, ℕ, List, length, sym, ap, subst, ◌∙◌, arith}
use Rattle.cell_netlist.specs.declared.lines.Rail.{Rail}
use Rattle.cell_netlist.specs.declared.lines.Cell.{Cell}
use Rattle.cell_netlist.specs.Netlists.{PlainNetlist, most_lines}
use Rattle.junction_report.specs.declared.counts.Counts.{Counts}
use Rattle.junction_report.specs.Walks.{IsWalk, IsGreatest, gates_on}
use Rattle.junction_report.specs.Depths.{most}
use Rattle.junction_report.specs.Counts.{counts_of, all_in, junctions_of}
use Rattle.junction_report.proofs.Counting.{all_counted, junctions_are}
use Rattle.junction_report.proofs.Sizes.{most_cells, most_gates}
use Rattle.junction_report.proofs.reporting.report.Goals as goal

pub junctions-requires : goal.junctions-requires
junctions-requires c =
    let cells : c.items.result.now ≡ c.args.net.now.cells = c.items.ensures ∙ c.cells.ensures ∙ ap (λ (n : PlainNetlist). n.cells) c.net-plain.ensures.net in
    let counts = c.count_cells-counts.ensures ∙ ap (λ (l : List Cell). counts_of l) cells in
    let few : length c.args.net.now.cells ≤ most_lines =
    subst (λ (n : PlainNetlist). length n.cells ≤ most_lines) c.net-plain.ensures.net c.wires-few.ensures.lines.cells in
    omega (arith, ap (λ (k : Counts). all_in k) counts, all_counted c.args.net.now.cells, few)

pub returns : goal.returns
returns c =
    let net = c.net-plain.ensures.net in
    let cells : c.items.result.now ≡ c.args.net.now.cells = c.items.ensures ∙ c.cells.ensures ∙ ap (λ (n : PlainNetlist). n.cells) net in
    let counts = c.count_cells-counts.ensures ∙ ap (λ (l : List Cell). counts_of l) cells in
    record {
      input_rails = c.len.ensures ∙ ap (λ (l : List Rail). length l) (c.input_rails.ensures ∙ ap (λ (n : PlainNetlist). n.input_rails) net);
      output_rails = c.len-2.ensures ∙ ap (λ (l : List Rail). length l) (c.output_rails.ensures ∙ ap (λ (n : PlainNetlist). n.output_rails) net);
      la = ap (λ (k : Counts). k.la) counts;
      fa = ap (λ (k : Counts). k.fa) counts;
      split = ap (λ (k : Counts). k.split) counts;
      droc0 = ap (λ (k : Counts). k.droc0) counts;
      droc1 = ap (λ (k : Counts). k.droc1) counts;
      junctions = c.junctions.ensures ∙ ap (λ (k : Counts). junctions_of k) counts ∙ junctions_are c.args.net.now.cells;
      logic = subst (λ n. IsGreatest (IsWalk c.args.net.now) (gates_on c.args.net.now) n) (sym (c.greatest.ensures ∙ ap (λ (l : List ℕ). most l) c.items-2.ensures))
          (most_gates c.args.net.now c.in_ok-gates.gates c.in_ok-gates.ensures);
      cells = subst (λ n. IsGreatest (IsWalk c.args.net.now) length n) (sym (c.greatest-2.ensures ∙ ap (λ (l : List ℕ). most l) c.items-3.ensures))
          (most_cells c.args.net.now c.in_ok-cells.cells c.in_ok-cells.ensures);
      path = c.in_ok-path.ensures;
    }
