use Rattle.std.proofs.Common.{◌≡◌, ◌<◌, ◌++◌, ◌∷◌, [], max, length, sym, subst}
use Rattle.cell_netlist.specs.Netlists.{PlainNetlist, number_of_wires, cell_bound, most_lines}
use Rattle.cell_netlist.proofs.NetlistLemmas.{IsKept-cell}
use Rattle.cell_netlist.proofs.WireBounds.{number_of_wires-cell}
use Rattle.cell_netlist.proofs.netlists.Netlist.add_cell.Goals as goal

pub invariant_of-self-2 : goal.invariant_of-self-2
invariant_of-self-2 c =
    let room = subst (λ (net : PlainNetlist). length net.cells < most_lines) (sym c.self.view_is) c.requires.room in
    rw (c.max-self-inside.ensures, c.bound_of.ensures, c.in_ok-id.ensures.added)
    (IsKept-cell _ _ c.args.cell c.self.invariant room c.requires.wires)

pub returns-clause-wires : goal.returns-clause-wires
returns-clause-wires c = rw c.in_ok-id.ensures.added (
    subst (λ (net : PlainNetlist). number_of_wires (record net { cells = net.cells ++ c.args.cell ∷ [] }) ≡ max (number_of_wires c.args.self.now) (cell_bound c.args.cell))
    (sym c.self.view_is) (number_of_wires-cell c.args.self.now c.args.cell)
    )
