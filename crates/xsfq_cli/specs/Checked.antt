-- What the check of a netlist's text is, and what it means that a text was checked.
use Rattle.std.specs.Prelude.{◌≡◌, ℕ, List, [], ◌∷◌, ◌++◌, Result, Ok, Err, codes, decimal}
use Rattle.cell_netlist.specs.declared.unsound.Unsound.{Unsound}
use Rattle.cell_netlist.specs.Netlists.{PlainNetlist, IsNetlist, number_of_wires}
use Rattle.cell_netlist.specs.Sound.{IsFirstUnsound, IsSound}
use Rattle.cell_netlist.specs.Text.{text_of}
use Rattle.pulse_world.specs.RailPulses.{PulsesAsItsRuns}
use Rattle.run_outcomes.specs.declared.outcomes.Outcome.{Outcome}
use Rattle.run_outcomes.specs.declared.outcomes.Outcome.TheVariants as outcomes
use Rattle.xsfq_cli.specs.NetTexts.{net_said}

-- the netlist is sound, or the outcome is the first rule that it breaks
abbrev pub IsSoundOr : PlainNetlist → Result PlainNetlist Outcome → Type 0
IsSoundOr net (Ok same) = (same ≡ net) × IsSound net
IsSoundOr net (Err outcome) = (unsound : Unsound) × IsFirstUnsound net unsound × (outcome ≡ outcomes.Unsound unsound)

-- a text that says a netlist is checked by the rules, and else it is refused
abbrev pub IsCheckBy : Result PlainNetlist Outcome → Result PlainNetlist Outcome → Type 0
IsCheckBy (Ok net) checked = IsSoundOr net checked
IsCheckBy (Err refusal) checked = checked ≡ Err refusal

-- the check of an input: its sound netlist, or the outcome that refuses it
abbrev pub HasCheck : List ℕ → Result PlainNetlist Outcome → Type 0
HasCheck bytes checked = IsCheckBy (net_said bytes) checked

-- These bytes are one netlist's text, with nothing after it, and the netlist is sound, so that the law of every order
-- holds of it: it pulses as its rail equations say.
pub record IsChecked (bytes : List ℕ) (net : PlainNetlist) : Type 0 where
  pub said : net_said bytes ≡ Ok net
  pub text : bytes ≡ text_of net
  pub netlist : IsNetlist net
  pub sound : IsSound net
  pub pulses : PulsesAsItsRuns net

-- the line of a sound netlist, which tells the number of its wires
abbrev pub sound_line : PlainNetlist → List ℕ
sound_line net = codes "sound " ++ (decimal (number_of_wires net) ++ 10 ∷ [])
