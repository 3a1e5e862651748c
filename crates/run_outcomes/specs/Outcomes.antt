-- The exit code of each outcome, and the outcomes that refuse an input.
use Rattle.std.specs.Prelude.{ℕ, ⊤}
use Rattle.aiger_reader.specs.declared.refusals.AigerRefusal.{AigerRefusal}
use Rattle.aiger_reader.specs.declared.refusals.AigerRefusal.TheVariants as refusals
use Rattle.netlist_reader.specs.declared.refusals.NetRefusal.{NetRefusal}
use Rattle.netlist_reader.specs.declared.refusals.NetRefusal.TheVariants as net_refusals
use Rattle.blif_reader.specs.declared.refusals.BlifRefusal.{BlifRefusal}
use Rattle.blif_reader.specs.declared.refusals.BlifRefusal.TheVariants as blif_refusals
use Rattle.schedule_replay.specs.declared.refusals.VectorRefusal.{VectorRefusal}
use Rattle.schedule_replay.specs.declared.refusals.VectorRefusal.TheVariants as vector_refusals
use Rattle.simulation_reader.specs.declared.refusals.InputRefusal.{InputRefusal}
use Rattle.simulation_reader.specs.declared.refusals.InputRefusal.TheVariants as input_refusals
use Rattle.run_outcomes.specs.declared.outcomes.Outcome.{Outcome}
use Rattle.run_outcomes.specs.declared.outcomes.Outcome.TheVariants.{Done, Usage, Blif, Aiger, NetText, Vector, Limit, Unsound, Script, ReadFault, WriteFault, NoMemory}

abbrev pub code_of : Outcome → ℕ
code_of Done = 0
code_of Usage = 2
code_of (Blif fault) = 3
code_of (Aiger fault) = 3
code_of (NetText refusal) = 3
code_of (Vector refusal) = 3
code_of (Limit quantity) = 4
code_of (Unsound unsound) = 5
code_of (Script cycle phase fault) = 6
code_of ReadFault = 7
code_of WriteFault = 8
code_of NoMemory = 9

-- the outcome of an AIGER reader's refusal
abbrev pub aiger_outcome : AigerRefusal → Outcome
aiger_outcome (refusals.Fault fault) = Aiger fault
aiger_outcome (refusals.Limit quantity) = Limit quantity
aiger_outcome refusals.NoMemory = NoMemory

-- the outcome of a BLIF reader's refusal
abbrev pub blif_outcome : BlifRefusal → Outcome
blif_outcome (blif_refusals.Fault fault) = Blif fault
blif_outcome (blif_refusals.Limit quantity) = Limit quantity
blif_outcome blif_refusals.NoMemory = NoMemory

-- the outcome of a netlist reader's refusal
abbrev pub net_outcome : NetRefusal → Outcome
net_outcome (net_refusals.BadLine line) = NetText (net_refusals.BadLine line)
net_outcome net_refusals.Truncated = NetText net_refusals.Truncated
net_outcome (net_refusals.Limit quantity) = Limit quantity
net_outcome net_refusals.NoMemory = NoMemory

-- the outcome of a refusal of vectors
abbrev pub vector_outcome : VectorRefusal → Outcome
vector_outcome (vector_refusals.BadLine line) = Vector (vector_refusals.BadLine line)
vector_outcome vector_refusals.Truncated = Vector vector_refusals.Truncated
vector_outcome (vector_refusals.Limit quantity) = Limit quantity
vector_outcome vector_refusals.NoMemory = NoMemory

-- the outcome of a refusal of a netlist with vectors
abbrev pub input_outcome : InputRefusal → Outcome
input_outcome (input_refusals.Net refusal) = net_outcome refusal
input_outcome (input_refusals.Vectors refusal) = vector_outcome refusal

-- the outcome refuses an input for its bytes
abbrev pub IsRefusal : Outcome → Type 0
IsRefusal (Blif fault) = ⊤
IsRefusal (Aiger fault) = ⊤
IsRefusal (NetText (net_refusals.BadLine line)) = ⊤
IsRefusal (NetText net_refusals.Truncated) = ⊤
IsRefusal (Vector (vector_refusals.BadLine line)) = ⊤
IsRefusal (Vector vector_refusals.Truncated) = ⊤
IsRefusal (Limit quantity) = ⊤
IsRefusal (Unsound unsound) = ⊤
IsRefusal _ = ⊥

-- the outcome comes with a text that was written whole and flushed: the command's text, or that before a script's fault
abbrev pub IsEnding : Outcome → Type 0
IsEnding Done = ⊤
IsEnding (Script cycle phase fault) = ⊤
IsEnding _ = ⊥
