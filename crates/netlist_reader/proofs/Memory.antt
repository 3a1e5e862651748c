-- What holds, or memory was refused.
use Rattle.netlist_reader.specs.declared.refusals.NetRefusal.{NetRefusal}
use Rattle.netlist_reader.specs.declared.refusals.NetRefusal.TheVariants as refusals
use Rattle.netlist_reader.specs.Building.{OrMemory}

pub or_memory_then : (refusal : NetRefusal) (P Q : Type 0) → (P → Q) → OrMemory refusal P → OrMemory refusal Q
or_memory_then (refusals.BadLine number) P Q f h = f h
or_memory_then refusals.Truncated P Q f h = f h
or_memory_then (refusals.Limit quantity) P Q f h = f h
or_memory_then refusals.NoMemory P Q f h = tt
