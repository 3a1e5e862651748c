use Rattle.std.proofs.Common.{◌≡◌, ℕ, List, Bool, Option, None, length, replicate, sym, ap, subst, ◌∙◌, arith}
use Rattle.std.proofs.lemmas.List.{length-replicate}
use Rattle.pulse_ids.specs.Lists.{IsIn}
use Rattle.cell_netlist.specs.declared.lines.Cell.{Cell}
use Rattle.cell_netlist.specs.Netlists.{number_of_wires}
use Rattle.cell_netlist.proofs.CallerLemmas.{named_below}
use Rattle.rail_checker.specs.Tables.{through, with_front, AreFronts}
use Rattle.rail_checker.proofs.Refusing.{wired}
use Rattle.rail_checker.proofs.LinkTables.{fronts_are}
use Rattle.rail_checker.proofs.links.front_table.Goals as goal

pub put_fronts-requires : goal.put_fronts-requires
put_fronts-requires c cell i wire o =
    let long : length c.in_ok-fronts.fronts ≡ c.wires.result = ap (λ (l : List (Option Bool)). length l) c.in_ok-fronts.ensures ∙ length-replicate {A = Option Bool} c.wires.result None in
    omega (arith, long, c.wires.ensures.value, (named_below c.args.net.now).of_outs cell (subst (λ (l : List Cell). IsIn cell l) c.cells.ensures i) wire o)

pub returns : goal.returns
returns c =
    let begun : c.in_ok-fronts.fronts ≡ replicate (number_of_wires c.args.net.now) None = c.in_ok-fronts.ensures ∙ ap (λ (n : ℕ). replicate {A = Option Bool} n None) c.wires.ensures.value in
    subst (λ (t : List (Option Bool)). AreFronts c.args.net.now t)
    (sym (c.put_fronts.ensures ∙ ap (λ (t : List (Option Bool)). through with_front t c.cells.result.now) begun
    ∙ ap (λ (l : List Cell). through with_front (replicate {A = Option Bool} (number_of_wires c.args.net.now) None) l) c.cells.ensures))
    (fronts_are c.args.net.now (wired c.args.net.now 4 (omega arith) c.requires))
