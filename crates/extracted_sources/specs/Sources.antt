-- The parts of which the text of an outline is made.
use Rattle.std.specs.Prelude.{ℕ, ◌++◌, List, Some, map}
use Rattle.source_machine.specs.Machines.{literal_of}
use Rattle.netlist_extract.specs.declared.outlines.LatchPart.{LatchPart}
use Rattle.netlist_extract.specs.declared.outlines.AndPart.{AndPart}
use Rattle.netlist_extract.specs.Outlines.{PlainOutline}
use Rattle.netlist_extract.specs.Texts.{variables_in}
use Rattle.extracted_machines.specs.Machines.{numbers_from}
use Rattle.source_texts.specs.Parts.{SourceLatch, SourceAnd, SourceParts}

abbrev pub source_latch : LatchPart → SourceLatch
source_latch latch = record { out = latch.variable.number; next = literal_of latch.next; reset = Some latch.first }

abbrev pub source_and : AndPart → SourceAnd
source_and and = record { net = and.variable.number; left = literal_of and.left; right = literal_of and.right }

-- a name of a side, by the side's letter
abbrev pub lettered : ℕ → ℕ × List ℕ → ℕ × ℕ × List ℕ
lettered letter named = (letter, named.0, named.1)

-- the inputs are the first variables; the symbols are those of the inputs (`i`, 105), and then those of the outputs (`o`, 111)
abbrev pub parts_of : PlainOutline → SourceParts
parts_of outline = record {
  variables = variables_in outline;
  inputs = numbers_from 1 outline.inputs;
  latches = map source_latch outline.latches;
  outputs = map literal_of outline.outputs;
  ands = map source_and outline.ands;
  symbols = map (lettered 105) outline.input_symbols ++ map (lettered 111) outline.output_symbols;
}
