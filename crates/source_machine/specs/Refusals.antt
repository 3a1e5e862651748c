-- How a machine is refused.
use Rattle.std.specs.Prelude.{⊤}
use Rattle.source_machine.specs.declared.grounding.Grounding.{Grounding}
use Rattle.source_machine.specs.declared.grounding.Grounding.TheVariants.{DoubleDriver, Undriven, Cycle, NoMemory}
use Rattle.source_machine.specs.Machines.{PlainMachine}
use Rattle.source_machine.specs.Grounding.{IsFirstRefusal, driven_twice, undriven, ungrounded}

-- the machine's first refusal, or want of memory
abbrev pub IsRefusedFor : PlainMachine → Grounding → Type 0
IsRefusedFor machine (DoubleDriver net) = IsFirstRefusal machine (driven_twice net.number)
IsRefusedFor machine (Undriven net) = IsFirstRefusal machine (undriven net.number)
IsRefusedFor machine (Cycle net) = IsFirstRefusal machine (ungrounded net.number)
IsRefusedFor machine NoMemory = ⊤
