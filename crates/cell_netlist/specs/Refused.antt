-- What refusals tell: a sound netlist has none, and a netlist has at most one first one.
use Rattle.std.specs.Prelude.{◌≡◌, ◌⊎◌}
use Rattle.cell_netlist.specs.declared.unsound.Unsound.{Unsound}
use Rattle.cell_netlist.specs.Netlists.{PlainNetlist}
use Rattle.cell_netlist.specs.Sound.{IsSound, Breaks, IsFirstUnsound}

-- a sound netlist breaks no rule
abbrev pub SoundIsNotRefused : Type 0
SoundIsNotRefused = (net : PlainNetlist) → IsSound net → (unsound : Unsound) → Breaks net unsound → ⊥

-- two first refusals of a netlist are the same
abbrev pub FirstRefusalsAreEqual : Type 0
FirstRefusalsAreEqual = (net : PlainNetlist) (one other : Unsound) → IsFirstUnsound net one → IsFirstUnsound net other → one ≡ other

-- a netlist that breaks no rule is sound
abbrev pub UnbrokenIsSound : Type 0
UnbrokenIsSound = (net : PlainNetlist) → ((unsound : Unsound) → Breaks net unsound → ⊥) → IsSound net

-- every netlist is sound or has a first refusal
abbrev pub SoundOrRefused : Type 0
SoundOrRefused = (net : PlainNetlist) → IsSound net ⊎ ((unsound : Unsound) × IsFirstUnsound net unsound)
