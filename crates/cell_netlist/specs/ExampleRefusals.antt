-- Netlists that break one rule of soundness.
use Rattle.std.specs.Prelude.{◌≡◌, Bool, true, false, not, ◌==◌, List, [], ◌∷◌, ◌++◌, map}
use Rattle.pulse_ids.specs.Ids.{numbered}
use Rattle.pulse_ids.specs.declared.literals.Sign.TheVariants.{Pos, Neg}
use Rattle.cell_netlist.specs.declared.kinds.Role.TheVariants.{Front, Back, Const}
use Rattle.cell_netlist.specs.declared.kinds.Version.TheVariants.{Two}
use Rattle.cell_netlist.specs.declared.unsound.RailLine.TheVariants.{Input, Output}
use Rattle.cell_netlist.specs.declared.unsound.Unsound.{Unsound}
use Rattle.cell_netlist.specs.declared.unsound.Unsound.TheVariants.{WireUndriven, WireTwiceDriven, WireUnread, WireTwiceRead, PortRange, RailTwice, Loop, LooseDroc, WrongPreload, LooseState}
use Rattle.cell_netlist.specs.Netlists.{PlainNetlist, with_states}
use Rattle.cell_netlist.specs.Sound.{IsFirstUnsound, rule_of}
use Rattle.cell_netlist.specs.Decisions.{is_all_driven, is_none_driven_twice, is_all_read, is_none_read_twice, are_ports_below, is_no_rail_twice, is_all_grounded, is_all_fitting}
use Rattle.cell_netlist.specs.Decisions.{is_all_complement, are_states_right}
use Rattle.cell_netlist.specs.ExampleNetlists.{droc, la, looped, on, plain, rail, split, state, toggle, two_rails, unused}

-- the decisions in the order of the rules
abbrev pub results : PlainNetlist → List Bool
results net = is_all_driven net ∷ is_none_driven_twice net ∷ is_all_read net ∷ is_none_read_twice net
    ∷ are_ports_below net.inputs net.input_rails ∷ are_ports_below net.outputs net.output_rails ∷ is_no_rail_twice net
    ∷ is_all_grounded net ∷ is_all_fitting net ∷ is_all_complement net ∷ are_states_right net ∷ []

-- the netlist breaks one rule, there for the first time, and passes the decisions on the others
pub record BreaksAlone (net : PlainNetlist) (unsound : Unsound) : Type 0 where
  pub first : IsFirstUnsound net unsound
  pub others : results net ≡ map (λ rule. not (rule == rule_of unsound)) (1 ∷ 2 ∷ 3 ∷ 4 ∷ 5 ∷ 6 ∷ 7 ∷ 8 ∷ 9 ∷ 10 ∷ 11 ∷ [])

-- each rule is broken alone by some netlist, and refused at its number
abbrev pub RulesAreRefused : Type 0
RulesAreRefused =
    BreaksAlone (plain 0 1 [] [] (rail 0 Pos 0 ∷ [])) (WireUndriven (numbered 0))
    × BreaksAlone (plain 2 2 (rail 0 Pos 0 ∷ rail 0 Neg 1 ∷ rail 1 Pos 1 ∷ []) [] two_rails) (WireTwiceDriven (numbered 1))
    × BreaksAlone (plain 1 1 (rail 0 Pos 0 ∷ rail 0 Neg 1 ∷ []) [] (rail 0 Pos 0 ∷ [])) (WireUnread (numbered 1))
    × BreaksAlone (plain 1 2 (rail 0 Pos 0 ∷ rail 0 Neg 1 ∷ []) [] (rail 0 Pos 0 ∷ rail 0 Neg 1 ∷ rail 1 Pos 1 ∷ [])) (WireTwiceRead (numbered 1))
    × BreaksAlone (plain 1 2 two_rails [] two_rails) (PortRange (Input (numbered 1)))
    × BreaksAlone (plain 2 1 two_rails [] two_rails) (PortRange (Output (numbered 1)))
    × BreaksAlone (plain 1 2 (rail 0 Pos 0 ∷ rail 0 Pos 1 ∷ []) [] two_rails) (RailTwice (numbered 1))
    × BreaksAlone looped (Loop (numbered 1))
    × BreaksAlone (plain 0 0 [] (droc Back false 0 (on 0) unused ∷ []) []) (LooseDroc (numbered 0))
    × BreaksAlone (plain 1 1 (rail 0 Pos 0 ∷ []) (droc Front true 0 (on 1) unused ∷ []) (rail 0 Pos 1 ∷ [])) (LooseDroc (numbered 0))
    × BreaksAlone (plain 1 1 (rail 0 Pos 0 ∷ []) (droc Const true 0 (on 1) unused ∷ []) (rail 0 Pos 1 ∷ [])) (LooseDroc (numbered 0))
    × BreaksAlone (plain 0 2 [] (droc Back false 4 (on 0) (on 1) ∷ split 1 2 3 ∷ droc Front false 2 (on 4) unused ∷ []) (rail 0 Pos 0 ∷ rail 1 Pos 3 ∷ []))
    (WrongPreload (numbered 0))
    × BreaksAlone (with_states Two (state 0 0 ∷ state 3 2 ∷ []) toggle) (LooseState 1)
    × BreaksAlone (with_states Two (state 0 3 ∷ []) toggle) (LooseState 0)
    × BreaksAlone (with_states Two (state 0 0 ∷ state 1 0 ∷ []) toggle) (LooseState 1)

-- of several rules the first one is refused, at the lowest number
abbrev pub FirstIsRefused : Type 0
FirstIsRefused =
    IsFirstUnsound (plain 1 1 (rail 0 Pos 0 ∷ []) (la 0 2 1 ∷ []) (rail 0 Pos 1 ∷ [])) (WireUndriven (numbered 2))
    × IsFirstUnsound (plain 1 0 (rail 0 Pos 0 ∷ []) (la 0 1 1 ∷ []) []) (Loop (numbered 0))
    × IsFirstUnsound (plain 0 0 (two_rails ++ two_rails) [] []) (WireTwiceDriven (numbered 0))
