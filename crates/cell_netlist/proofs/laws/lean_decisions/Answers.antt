use Rattle.cell_netlist.proofs.Roots.{root_unique, root_found, root_climbed}
use Rattle.cell_netlist.proofs.UsefulDecision.{useful_decided}
use Rattle.cell_netlist.proofs.LeanDecisions.{is_lean-at}
use Rattle.cell_netlist.proofs.LeanIsDecided.{lean_is_decided, sound_lean_is_decided}
use Rattle.cell_netlist.proofs.laws.lean_decisions.Goals as goal

pub returns-clause-unique : goal.returns-clause-unique
returns-clause-unique c = root_unique

pub returns-clause-climbed : goal.returns-clause-climbed
returns-clause-climbed c = root_found

pub returns-clause-ends : goal.returns-clause-ends
returns-clause-ends c = root_climbed

pub returns-clause-lean : goal.returns-clause-lean
returns-clause-lean c = is_lean-at

pub returns-clause-useful : goal.returns-clause-useful
returns-clause-useful c = useful_decided

pub returns-clause-decided : goal.returns-clause-decided
returns-clause-decided c = lean_is_decided

pub returns-clause-sound : goal.returns-clause-sound
returns-clause-sound c = sound_lean_is_decided
