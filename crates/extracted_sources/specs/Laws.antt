-- What is true of every text that is read back from a netlist.
use Rattle.std.specs.Prelude.{◌≡◌, ◌≤◌, None, Ok}
use Rattle.pulse_ids.specs.Quantities.{greatest_of}
use Rattle.pulse_ids.specs.declared.quantities.Quantity.TheVariants.{Inputs}
use Rattle.source_machine.specs.Fitting.{Fits}
use Rattle.source_machine.specs.Grounding.{IsWellFounded}
use Rattle.source_machine.specs.Machines.{PlainMachine}
use Rattle.source_machine.specs.declared.unset.Unset.{Unset}
use Rattle.aiger_reader.specs.Sources.{judgement}
use Rattle.cell_netlist.specs.Netlists.{PlainNetlist, IsNetlist}
use Rattle.cell_netlist.specs.Sound.{IsSound}
use Rattle.netlist_extract.specs.Limits.{limit_of}
use Rattle.netlist_extract.specs.Outlines.{outline_of}
use Rattle.netlist_extract.specs.Texts.{aiger_text}
use Rattle.extracted_machines.specs.Machines.{extracted}
use Rattle.extracted_machines.specs.Laws.{PulsesAsMachine}

-- a sound netlist that has a text of its own and passes no limit
pub record IsExtracted (net : PlainNetlist) : Type 0 where
  pub netlist : IsNetlist net
  pub sound : IsSound net
  pub inputs : net.inputs ≤ greatest_of Inputs
  pub within : limit_of net ≡ None

-- its text is judged to be its machine, whatever is chosen for latches without a first bit
abbrev pub ExtractsAreRead : Type 0
ExtractsAreRead = (net : PlainNetlist) → IsExtracted net → (unset : Unset) → judgement unset (aiger_text (outline_of net)) ≡ Ok (extracted net)

-- The text is that of a machine in range, which is well founded, and the netlist pulses as this machine's outputs say, in
-- every order:
pub record IsNetlistOf (net : PlainNetlist) (unset : Unset) (machine : PlainMachine) : Type 0 where
  pub judged : judgement unset (aiger_text (outline_of net)) ≡ Ok machine
  pub fits : Fits machine
  pub founded : IsWellFounded machine
  pub pulses : PulsesAsMachine net machine

abbrev pub ExtractsAreNetlists : Type 0
ExtractsAreNetlists = (net : PlainNetlist) → IsExtracted net → (unset : Unset) → (machine : PlainMachine) × IsNetlistOf net unset machine
