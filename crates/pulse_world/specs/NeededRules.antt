-- What goes wrong where a netlist breaks a rule of soundness.
use Rattle.std.specs.Prelude.{◌≡◌, ℕ, Bool, true, false, List, [], ◌∷◌}
use Rattle.pulse_ids.specs.Ids.{numbered}
use Rattle.pulse_ids.specs.declared.literals.Sign.TheVariants.{Pos}
use Rattle.cell_netlist.specs.declared.kinds.Role.TheVariants.{Front, Back, Const}
use Rattle.cell_netlist.specs.declared.unsound.Unsound.{Unsound}
use Rattle.cell_netlist.specs.declared.unsound.Unsound.TheVariants.{WireUndriven, WireTwiceDriven, WireTwiceRead, Loop, LooseDroc, WrongPreload}
use Rattle.cell_netlist.specs.Netlists.{PlainNetlist}
use Rattle.cell_netlist.specs.World.{Upset, deliver}
use Rattle.cell_netlist.specs.Runs.{Moment, IsMoment}
use Rattle.cell_netlist.specs.RailEquations.{IsNetRun}
use Rattle.pulse_world.specs.Delivery.{Delivers}
use Rattle.cell_netlist.specs.ExampleNetlists.{rail, la, fa, split, on, unused, droc, plain, looped}
use Rattle.cell_netlist.specs.ExampleRefusals.{BreaksAlone}

-- A netlist that breaks one rule of soundness and no other. On these vectors it has a run by its equations, but
-- it delivers no bits.
pub record NeedsRule (net : PlainNetlist) (vectors : List (List Bool)) (broken : Unsound) : Type 0 where
  pub breaks : BreaksAlone net broken
  pub run : List (List Bool)
  pub meets : IsNetRun net vectors run
  pub no_bits : (bit : ℕ → ℕ → Bool) → Delivers net vectors bit → ⊥

-- and some run of its pulses comes to an upset
pub record IsUpsetWithout (net : PlainNetlist) (vectors : List (List Bool)) (broken : Unsound) : Type 0 where
  pub needs : NeedsRule net vectors broken
  pub moment : Moment
  pub reached : IsMoment net vectors moment
  pub wire : ℕ
  pub upset : deliver net moment.state wire ≡ Upset

-- an output rail that never pulses
abbrev pub undriven : PlainNetlist
undriven = plain 0 1 [] [] (rail 0 Pos 0 ∷ [])

-- two rails on one wire of an LA
abbrev pub merged : PlainNetlist
merged = plain 3 1 (rail 0 Pos 0 ∷ rail 1 Pos 0 ∷ rail 2 Pos 1 ∷ []) (la 0 1 2 ∷ []) (rail 0 Pos 2 ∷ [])

-- a toggle whose link, which pulses twice in a cycle, is read by an FA too
abbrev pub tapped : PlainNetlist
tapped = plain 1 3 (rail 0 Pos 5 ∷ [])
    (droc Back false 4 (on 0) (on 1) ∷ split 1 2 3 ∷ droc Front true 2 (on 4) unused ∷ fa 4 5 6 ∷ [])
    (rail 0 Pos 0 ∷ rail 1 Pos 3 ∷ rail 2 Pos 6 ∷ [])

-- a constant that an input rail feeds in place of its own `n`, so that its `q` pulses in both phases
abbrev pub fed_by_rail : PlainNetlist
fed_by_rail = plain 2 1 (rail 0 Pos 0 ∷ rail 1 Pos 2 ∷ []) (droc Const true 0 (on 1) unused ∷ fa 1 2 3 ∷ []) (rail 0 Pos 3 ∷ [])

-- a toggle whose front and back both start with 0, so that its `n` pulses in both phases
abbrev pub both_clear : PlainNetlist
both_clear = plain 1 2 (rail 0 Pos 5 ∷ [])
    (droc Back false 4 (on 0) (on 1) ∷ split 1 2 3 ∷ droc Front false 2 (on 4) unused ∷ fa 3 5 6 ∷ [])
    (rail 0 Pos 0 ∷ rail 1 Pos 6 ∷ [])

-- The law needs these rules: a driver for each wire and only one, only one reader, grounded outputs, DROCs that
-- fit their roles, and preloads that are complements. But for the first, some gate gets a second pulse on a port
-- before one on its other port.
abbrev pub RulesAreNeeded : Type 0
RulesAreNeeded =
    NeedsRule undriven ([] ∷ []) (WireUndriven (numbered 0))
    × IsUpsetWithout merged ((true ∷ true ∷ true ∷ []) ∷ []) (WireTwiceDriven (numbered 0))
    × IsUpsetWithout tapped ((false ∷ []) ∷ []) (WireTwiceRead (numbered 4))
    × IsUpsetWithout looped ((true ∷ []) ∷ (true ∷ []) ∷ []) (Loop (numbered 1))
    × IsUpsetWithout fed_by_rail ((true ∷ false ∷ []) ∷ []) (LooseDroc (numbered 0))
    × IsUpsetWithout both_clear ((false ∷ []) ∷ []) (WrongPreload (numbered 0))
