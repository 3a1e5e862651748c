-- The texts of three netlists.
use Rattle.std.specs.Prelude.{◌≡◌, true, false, [], ◌∷◌, ◌++◌, codes}
use Rattle.pulse_ids.specs.declared.literals.Sign.TheVariants.{Pos, Neg}
use Rattle.cell_netlist.specs.declared.kinds.Role.TheVariants.{Front, Back, Const}
use Rattle.cell_netlist.specs.declared.kinds.Version.TheVariants.{Two}
use Rattle.cell_netlist.specs.Netlists.{PlainNetlist, netlist_of, with_states}
use Rattle.cell_netlist.specs.Text.{text_of}
use Rattle.cell_netlist.specs.ExampleNetlists.{droc, fa, la, on, plain, rail, split, state, two_rails, unused}

-- an inverter: output 0 reads the negative rail of input 0
abbrev pub inverter : PlainNetlist
inverter = plain 1 1 (rail 0 Neg 0 ∷ []) [] (rail 0 Pos 0 ∷ [])

-- every kind of line, with names
abbrev pub every_line : PlainNetlist
every_line = netlist_of 2 3 two_rails
    (droc Back false 5 (on 4) unused ∷ split 4 6 7 ∷ la 0 1 2 ∷ fa 2 6 3 ∷ droc Front true 3 (on 5) unused ∷ droc Const true 8 unused (on 8) ∷ [])
    (rail 2 Neg 7 ∷ []) ((1, codes "a b") ∷ []) ((0, codes "x") ∷ (2, codes "y") ∷ [])

-- the same in version two, with a state line
abbrev pub every_line_of_two : PlainNetlist
every_line_of_two = with_states Two (state 7 0 ∷ []) every_line

-- their texts
abbrev pub TextsAreThese : Type 0
TextsAreThese =
    (text_of inverter ≡ codes "xsfq 1\nports 1 1\ninput 0 n 0\noutput 0 p 0\nend\n")
    × (text_of every_line ≡ codes "xsfq 1\nports 2 3\ninput 0 p 0\ninput 1 p 1\ndroc b 0 5 4 -\nsplit 4 6 7\nla 0 1 2\nfa 2 6 3\n"
    ++ codes "droc f 1 3 5 -\ndroc c 1 8 - 8\noutput 2 n 7\niname 1 a b\noname 0 x\noname 2 y\nend\n")
    × (text_of every_line_of_two ≡ codes "xsfq 2\nports 2 3\ninput 0 p 0\ninput 1 p 1\ndroc b 0 5 4 -\nsplit 4 6 7\nla 0 1 2\nfa 2 6 3\n"
    ++ codes "droc f 1 3 5 -\ndroc c 1 8 - 8\noutput 2 n 7\nstate 7 0\niname 1 a b\noname 0 x\noname 2 y\nend\n")
