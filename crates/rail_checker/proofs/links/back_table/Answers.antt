use Rattle.std.proofs.Common.{◌≡◌, ℕ, List, Bool, false, length, replicate, sym, ap, subst, ◌∙◌, arith}
use Rattle.std.proofs.lemmas.List.{length-replicate}
use Rattle.pulse_ids.specs.Lists.{IsIn}
use Rattle.cell_netlist.specs.declared.lines.Cell.{Cell}
use Rattle.cell_netlist.specs.Netlists.{number_of_wires}
use Rattle.cell_netlist.proofs.CallerLemmas.{named_below}
use Rattle.rail_checker.specs.Tables.{through, with_back, AreBacks}
use Rattle.rail_checker.proofs.LinkTables.{backs_are}
use Rattle.rail_checker.proofs.links.back_table.Goals as goal

pub put_backs-requires : goal.put_backs-requires
put_backs-requires c cell i wire o =
    let long : length c.in_ok-backs.backs ≡ c.wires.result = ap (λ (l : List (Bool)). length l) c.in_ok-backs.ensures ∙ length-replicate {A = Bool} c.wires.result false in
    omega (arith, long, c.wires.ensures.value, (named_below c.args.net.now).of_reads cell (subst (λ (l : List Cell). IsIn cell l) c.cells.ensures i) wire o)

pub returns : goal.returns
returns c =
    let begun : c.in_ok-backs.backs ≡ replicate (number_of_wires c.args.net.now) false = c.in_ok-backs.ensures ∙ ap (λ (n : ℕ). replicate {A = Bool} n false) c.wires.ensures.value in
    subst (λ (t : List (Bool)). AreBacks c.args.net.now t)
    (sym (c.put_backs.ensures ∙ ap (λ (t : List (Bool)). through with_back t c.cells.result.now) begun
    ∙ ap (λ (l : List Cell). through with_back (replicate {A = Bool} (number_of_wires c.args.net.now) false) l) c.cells.ensures))
    (backs_are c.args.net.now)
