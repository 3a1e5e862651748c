-- The input of a simulation: what its first bytes show, and what all of them say.
use Rattle.std.specs.Prelude.{ℕ, Bool, List, Option, Result, Ok, Err, length, option_map}
use Rattle.cell_netlist.specs.Netlists.{PlainNetlist}
use Rattle.netlist_reader.specs.declared.refusals.NetRefusal.{NetRefusal}
use Rattle.netlist_reader.specs.Verdicts as nets
use Rattle.schedule_replay.specs.declared.refusals.VectorRefusal.{VectorRefusal}
use Rattle.schedule_replay.specs.declared.vector_lines.Form.{Form}
use Rattle.schedule_replay.specs.PlainVectors.{PlainVectors}
use Rattle.schedule_replay.specs.VectorTexts as vectors
use Rattle.simulation_reader.specs.declared.readers.SimulationInput.{SimulationInput}
use Rattle.simulation_reader.specs.declared.refusals.InputRefusal.{InputRefusal}
use Rattle.simulation_reader.specs.declared.refusals.InputRefusal.TheVariants.{Net, Vectors}

-- the form of the text of vectors after a netlist of so many lines
abbrev pub form_of : Bool → PlainNetlist → ℕ → Form
form_of scripted net lines = record { inputs = net.inputs; scripted = scripted; before = lines }

abbrev pub of_net : NetRefusal → InputRefusal
of_net refusal = Net refusal

abbrev pub of_vectors : VectorRefusal → InputRefusal
of_vectors refusal = Vectors refusal

-- what the bytes of a netlist show, or those after it
abbrev pub early_by : Bool → ℕ → Option NetRefusal → Result (PlainNetlist × List ℕ) NetRefusal → Option InputRefusal
early_by scripted lines shown (Ok (net, rest)) = option_map of_vectors (vectors.early (form_of scripted net lines) rest)
early_by scripted lines shown (Err refusal) = option_map of_net shown

-- the refusal that the first bytes of an input show, whatever follows them
abbrev pub early : Bool → List ℕ → Option InputRefusal
early scripted text = early_by scripted (length (nets.lines_in text)) (nets.early text) (nets.net_verdict text)

abbrev pub both_of : PlainNetlist → Result PlainVectors VectorRefusal → Result SimulationInput InputRefusal
both_of net (Ok read) = Ok (record { net = net; vectors = read })
both_of net (Err refusal) = Err (Vectors refusal)

abbrev pub judged_by : Bool → ℕ → Result (PlainNetlist × List ℕ) NetRefusal → Result SimulationInput InputRefusal
judged_by scripted lines (Ok (net, rest)) = both_of net (vectors.judgement (form_of scripted net lines) rest)
judged_by scripted lines (Err refusal) = Err (Net refusal)

-- the judgement of an input: its netlist and the vectors that stand after it, or the refusal of one of both
abbrev pub judgement : Bool → List ℕ → Result SimulationInput InputRefusal
judgement scripted text = judged_by scripted (length (nets.lines_in text)) (nets.net_verdict text)
