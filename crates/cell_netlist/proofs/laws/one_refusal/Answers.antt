use Rattle.cell_netlist.proofs.FirstRefusals.{sound_unbroken, first_refusals_equal}
use Rattle.cell_netlist.proofs.RefusalFound.{unbroken_sound, sound_or_refused}
use Rattle.cell_netlist.proofs.laws.one_refusal.Goals as goal

pub returns-clause-sound : goal.returns-clause-sound
returns-clause-sound c = sound_unbroken

pub returns-clause-at_most_one : goal.returns-clause-at_most_one
returns-clause-at_most_one c = first_refusals_equal

pub returns-clause-unbroken : goal.returns-clause-unbroken
returns-clause-unbroken c = unbroken_sound

pub returns-clause-refused : goal.returns-clause-refused
returns-clause-refused c = sound_or_refused
