-- Why a netlist is handed back.
use Rattle.std.specs.Prelude.{◌≡◌, ◌≤◌}
use Rattle.cell_netlist.specs.Netlists.{PlainNetlist}
use Rattle.cell_netlist.specs.Sound.{rule_of, IsFirstUnsound}
use Rattle.rail_checker.specs.declared.checking.Refused as declared
use Rattle.rail_checker.specs.declared.checking.Refused.TheVariants as refusals

-- the netlist is handed back, with its first refusal or for want of memory
abbrev pub IsRefused : PlainNetlist → declared.Refused → Type 0
IsRefused net (refusals.Unsound back unsound) = (back ≡ net) × IsFirstUnsound net unsound
IsRefused net (refusals.NoMemory back) = back ≡ net

-- the same where the first refusal is by one of the four rules of wiring
abbrev pub IsRefusedByWires : PlainNetlist → declared.Refused → Type 0
IsRefusedByWires net (refusals.Unsound back unsound) = (back ≡ net) × IsFirstUnsound net unsound × (rule_of unsound ≤ 4)
IsRefusedByWires net (refusals.NoMemory back) = back ≡ net
