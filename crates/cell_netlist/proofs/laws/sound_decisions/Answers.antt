use Rattle.cell_netlist.proofs.SoundDecisions.{is_sound-at}
use Rattle.cell_netlist.proofs.SoundIsDecided.{decisions_of_rules, is_sound-from}
use Rattle.cell_netlist.proofs.laws.sound_decisions.Goals as goal

pub returns-clause-rules : goal.returns-clause-rules
returns-clause-rules c = decisions_of_rules

pub returns-clause-sound : goal.returns-clause-sound
returns-clause-sound c = is_sound-at

pub returns-clause-decided : goal.returns-clause-decided
returns-clause-decided c = is_sound-from
