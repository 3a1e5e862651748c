-- The note of each outcome.
use Rattle.std.specs.Prelude.{ℕ, List, [], ◌∷◌, ◌++◌, codes, decimal}
use Rattle.pulse_ids.specs.declared.quantities.Quantity.{Quantity}
use Rattle.pulse_ids.specs.declared.quantities.Quantity.TheVariants as quantities
use Rattle.pulse_ids.specs.Quantities.{greatest_of}
use Rattle.cell_netlist.specs.declared.unsound.RailLine.TheVariants.{Input, Output}
use Rattle.cell_netlist.specs.declared.unsound.Unsound.{Unsound}
use Rattle.cell_netlist.specs.declared.unsound.Unsound.TheVariants as rules
use Rattle.netlist_reader.specs.declared.refusals.NetRefusal.{NetRefusal}
use Rattle.netlist_reader.specs.declared.refusals.NetRefusal.TheVariants as net_refusals
use Rattle.cell_netlist.specs.declared.kinds.Phase.{Phase}
use Rattle.cell_netlist.specs.declared.kinds.Phase.TheVariants.{Excite, Relax}
use Rattle.schedule_replay.specs.declared.refusals.VectorRefusal.{VectorRefusal}
use Rattle.schedule_replay.specs.declared.refusals.VectorRefusal.TheVariants as vector_refusals
use Rattle.schedule_replay.specs.declared.replaying.ScriptFault.{ScriptFault}
use Rattle.schedule_replay.specs.declared.replaying.ScriptFault.TheVariants.{NotPending, Short}
use Rattle.source_machine.specs.declared.places.Place.{Place}
use Rattle.source_machine.specs.declared.places.Place.TheVariants as places
use Rattle.aiger_reader.specs.declared.refusals.AigerFault.{AigerFault}
use Rattle.aiger_reader.specs.declared.refusals.AigerCause.{AigerCause}
use Rattle.aiger_reader.specs.declared.refusals.AigerCause.TheVariants as causes
use Rattle.blif_reader.specs.declared.refusals.BlifFault.{BlifFault}
use Rattle.blif_reader.specs.declared.refusals.BlifCause.{BlifCause}
use Rattle.blif_reader.specs.declared.refusals.BlifCause.TheVariants as blif_causes
use Rattle.run_outcomes.specs.declared.outcomes.Outcome.{Outcome}
use Rattle.run_outcomes.specs.declared.outcomes.Outcome.TheVariants as outcomes

-- where a fault is, before what it is
abbrev pub place_text : Place → List ℕ
place_text (places.Line number) = codes "line " ++ (decimal number ++ codes ": ")
place_text (places.Byte number) = codes "byte " ++ (decimal number ++ codes ": ")
place_text places.Whole = []

-- what is wrong with an AIGER source
abbrev pub aiger_text : AigerCause → List ℕ
aiger_text causes.BadHeader = codes "bad header"
aiger_text (causes.Property letter) = codes "property " ++ letter ∷ []
aiger_text causes.BadLine = codes "bad line"
aiger_text (causes.OutOfRange literal) = codes "literal out of range: " ++ decimal literal
aiger_text (causes.NoFixedInit latch) = codes "no fixed initial value: latch " ++ decimal latch
aiger_text causes.BadDelta = codes "bad delta"
aiger_text causes.SymbolRange = codes "symbol out of range"
aiger_text causes.Truncated = codes "truncated"
aiger_text (causes.DoubleDriver name) = codes "driven twice: " ++ name
aiger_text (causes.Undriven name) = codes "undriven: " ++ name
aiger_text (causes.Cycle name) = codes "combinational cycle through " ++ name

-- what is wrong with a BLIF source
abbrev pub blif_text : BlifCause → List ℕ
blif_text blif_causes.BadWord = codes "bad word"
blif_text blif_causes.NoModel = codes "no model"
blif_text blif_causes.SecondModel = codes "second model"
blif_text blif_causes.AfterEnd = codes "text after end"
blif_text (blif_causes.Unsupported word) = codes "unsupported: " ++ word
blif_text blif_causes.RowShape = codes "bad row"
blif_text blif_causes.MixedCover = codes "mixed cover"
blif_text blif_causes.StrayRow = codes "stray row"
blif_text blif_causes.LatchType = codes "latch type"
blif_text blif_causes.MixedClock = codes "mixed clock"
blif_text (blif_causes.NoFixedInit name) = codes "no fixed initial value: " ++ name
blif_text (blif_causes.ClockAsData name) = codes "clock read as data: " ++ name
blif_text (blif_causes.DerivedClock name) = codes "derived clock: " ++ name
blif_text (blif_causes.DoubleDriver name) = codes "driven twice: " ++ name
blif_text (blif_causes.Undriven name) = codes "undriven: " ++ name
blif_text (blif_causes.Cycle name) = codes "combinational cycle through " ++ name

-- the things that are counted
abbrev pub quantity_text : Quantity → List ℕ
quantity_text quantities.SourceBytes = codes "source bytes"
quantity_text quantities.NetBytes = codes "netlist bytes"
quantity_text quantities.TailBytes = codes "bytes after the netlist"
quantity_text quantities.Inputs = codes "inputs"
quantity_text quantities.Outputs = codes "outputs"
quantity_text quantities.Latches = codes "latches"
quantity_text quantities.Nets = codes "nets"
quantity_text quantities.Size = codes "size"
quantity_text quantities.NameBytes = codes "name bytes"
quantity_text quantities.Wires = codes "wires"
quantity_text quantities.Vectors = codes "vectors"

-- the line of a fault of an AIGER source, and that of a limit
abbrev pub fault_line : AigerFault → List ℕ
fault_line fault = codes "source: " ++ (place_text fault.place ++ (aiger_text fault.cause ++ 10 ∷ []))

-- the line of a fault of a BLIF source
abbrev pub blif_line : BlifFault → List ℕ
blif_line fault = codes "source: " ++ (place_text fault.place ++ (blif_text fault.cause ++ 10 ∷ []))

abbrev pub limit_line : Quantity → List ℕ
limit_line quantity = codes "limit: more than " ++ (decimal (greatest_of quantity) ++ (codes " of " ++ (quantity_text quantity ++ 10 ∷ [])))

-- the line of a refused netlist text, and that of an unsound netlist
abbrev pub net_line : NetRefusal → List ℕ
net_line (net_refusals.BadLine line) = codes "netlist: line " ++ (decimal line ++ codes ": bad line\n")
net_line net_refusals.Truncated = codes "netlist: truncated\n"
net_line (net_refusals.Limit quantity) = limit_line quantity
net_line net_refusals.NoMemory = codes "no memory\n"

-- the rule that is broken, and where
abbrev pub rule_text : Unsound → List ℕ
rule_text (rules.WireUndriven wire) = codes "wire " ++ (decimal wire.number ++ codes " undriven")
rule_text (rules.WireTwiceDriven wire) = codes "wire " ++ (decimal wire.number ++ codes " driven twice")
rule_text (rules.WireUnread wire) = codes "wire " ++ (decimal wire.number ++ codes " unread")
rule_text (rules.WireTwiceRead wire) = codes "wire " ++ (decimal wire.number ++ codes " read twice")
rule_text (rules.PortRange (Input rail)) = codes "port out of range at input " ++ decimal rail.number
rule_text (rules.PortRange (Output rail)) = codes "port out of range at output " ++ decimal rail.number
rule_text (rules.RailTwice rail) = codes "rail twice at input " ++ decimal rail.number
rule_text (rules.Loop cell) = codes "loop at cell " ++ decimal cell.number
rule_text (rules.LooseDroc cell) = codes "loose droc at cell " ++ decimal cell.number
rule_text (rules.WrongPreload cell) = codes "wrong preload at cell " ++ decimal cell.number
rule_text (rules.LooseState k) = codes "loose state at line " ++ decimal k

abbrev pub unsound_line : Unsound → List ℕ
unsound_line unsound = codes "unsound: " ++ (rule_text unsound ++ 10 ∷ [])

-- the line of a refused text of vectors
abbrev pub vector_line : VectorRefusal → List ℕ
vector_line (vector_refusals.BadLine line) = codes "vectors: line " ++ (decimal line ++ codes ": bad line\n")
vector_line vector_refusals.Truncated = codes "vectors: truncated\n"
vector_line (vector_refusals.Limit quantity) = limit_line quantity
vector_line vector_refusals.NoMemory = codes "no memory\n"

-- the line of a script's fault: its cycle and phase, and what is wrong
abbrev pub phase_text : Phase → List ℕ
phase_text Excite = codes " excite: "
phase_text Relax = codes " relax: "

abbrev pub script_text : ScriptFault → List ℕ
script_text (NotPending at wire) = codes "delivery " ++ (decimal at ++ (codes ": no pulse on wire " ++ decimal wire.number))
script_text (Short left) = decimal left ++ codes " pulses left"

abbrev pub script_line : ℕ → Phase → ScriptFault → List ℕ
script_line cycle phase fault = codes "script: cycle " ++ (decimal cycle ++ (phase_text phase ++ (script_text fault ++ 10 ∷ [])))

-- the line of an outcome with its line feed, and nothing after `Done`
abbrev pub note_of : Outcome → List ℕ
note_of outcomes.Done = []
note_of outcomes.Usage = codes "usage: compile, check, simulate, report or workload\n"
note_of (outcomes.Blif fault) = blif_line fault
note_of (outcomes.Aiger fault) = fault_line fault
note_of (outcomes.NetText refusal) = net_line refusal
note_of (outcomes.Vector refusal) = vector_line refusal
note_of (outcomes.Limit quantity) = limit_line quantity
note_of (outcomes.Unsound unsound) = unsound_line unsound
note_of (outcomes.Script cycle phase fault) = script_line cycle phase fault
note_of outcomes.ReadFault = codes "read failed\n"
note_of outcomes.WriteFault = codes "write failed\n"
note_of outcomes.NoMemory = codes "no memory\n"
