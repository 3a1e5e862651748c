-- Which output rails are asked for.
use Rattle.std.specs.Prelude.{◌≡◌, ℕ, List, [], ◌∷◌, map}
use Rattle.std.specs.List.{flat_map}
use Rattle.pulse_ids.specs.declared.literals.Sign.{Sign}
use Rattle.pulse_ids.specs.declared.literals.Sign.TheVariants as signs
use Rattle.cell_netlist.specs.declared.kinds.Ask.{Ask}
use Rattle.cell_netlist.specs.declared.kinds.Ask.TheVariants.{Pos, Neg, Both}
use Rattle.cell_netlist.specs.declared.lines.Rail.{Rail}
use Rattle.pulse_ids.specs.Lists.{upto}
use Rattle.cell_netlist.specs.Netlists.{PlainNetlist}

-- the signs that are asked for at each port, in order
abbrev pub signs_of : Ask → List Sign
signs_of Pos = signs.Pos ∷ []
signs_of Neg = signs.Neg ∷ []
signs_of Both = signs.Pos ∷ signs.Neg ∷ []

-- the port and sign of a rail
abbrev pub rail_of : Rail → ℕ × Sign
rail_of rail = (rail.port, rail.sign)

-- the rails of the ports below a number that are asked for, by rising ports
abbrev pub asked_rails : Ask → ℕ → List (ℕ × Sign)
asked_rails ask count = flat_map (λ port. map (λ sign. (port, sign)) (signs_of ask)) (upto count)

-- the output rails of a netlist are exactly the asked ones
abbrev pub Asks : Ask → ℕ → PlainNetlist → Type 0
Asks ask count net = map rail_of net.output_rails ≡ asked_rails ask count
