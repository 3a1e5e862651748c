use Rattle.std.proofs.Common.{◌≡◌, ◌<◌, ◌+◌, ◌++◌, ◌∷◌, [], max, length, sym, subst, arith}
use Rattle.cell_netlist.specs.Netlists.{PlainNetlist, number_of_wires, wire_of, most_lines}
use Rattle.cell_netlist.proofs.NetlistLemmas.{IsKept-input}
use Rattle.cell_netlist.proofs.WireBounds.{number_of_wires-input}
use Rattle.cell_netlist.proofs.netlists.Netlist.add_input.Goals as goal

pub invariant_of-self-2 : goal.invariant_of-self-2
invariant_of-self-2 c =
    let room = subst (λ (net : PlainNetlist). length net.input_rails < most_lines) (sym c.self.view_is) c.requires.room in
    rw (c.max-self-inside.ensures, c.number.ensures, c.in_ok-id.ensures.added)
    (IsKept-input _ _ c.args.rail c.self.invariant room (omega arith) c.requires.wire)

pub returns-clause-wires : goal.returns-clause-wires
returns-clause-wires c = rw c.in_ok-id.ensures.added (
    subst (λ (net : PlainNetlist). number_of_wires (record net { input_rails = net.input_rails ++ c.args.rail ∷ [] }) ≡ max (number_of_wires c.args.self.now) (wire_of c.args.rail + 1))
    (sym c.self.view_is) (number_of_wires-input c.args.self.now c.args.rail)
    )
