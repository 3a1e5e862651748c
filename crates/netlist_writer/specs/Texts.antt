-- The parts of a netlist's text in the order in which they are written.
use Rattle.std.specs.Prelude.{◌∷◌, ◌++◌, [], codes, ℕ, List, decimal}
use Rattle.std.specs.List.{flat_map}
use Rattle.cell_netlist.specs.Text.{line_of, version_word, rail_words, cell_words, state_words, name_words}
use Rattle.cell_netlist.specs.declared.lines.Rail.{Rail}
use Rattle.cell_netlist.specs.declared.lines.Cell.{Cell}
use Rattle.cell_netlist.specs.declared.lines.StateLine.{StateLine}
use Rattle.cell_netlist.specs.Netlists.{PlainNetlist}
use Rattle.netlist_writer.specs.declared.words.Word.{Word}
use Rattle.netlist_writer.specs.declared.words.Word.TheVariants.{Text, Number}

-- the bytes of a word
abbrev pub word_text : Word → List ℕ
word_text (Text bytes) = bytes.now
word_text (Number number) = decimal number

-- a space and a word
abbrev pub spaced : Word → List ℕ
spaced word = 32 ∷ word_text word

-- the line of a rail, of a cell, of a latch, and of a name
abbrev pub rail_line : List ℕ → Rail → List ℕ
rail_line side rail = line_of (rail_words side rail)

abbrev pub cell_line : Cell → List ℕ
cell_line cell = line_of (cell_words cell)

abbrev pub state_line : StateLine → List ℕ
state_line state = line_of (state_words state)

abbrev pub name_line : List ℕ → ℕ × List ℕ → List ℕ
name_line side named = line_of (name_words side named)

-- the first two lines
abbrev pub head_text : PlainNetlist → List ℕ
head_text net = line_of (codes "xsfq" ∷ version_word net.version ∷ []) ++ line_of (codes "ports" ∷ decimal net.inputs ∷ decimal net.outputs ∷ [])

-- the lines of rails and cells
abbrev pub circuit_text : PlainNetlist → List ℕ
circuit_text net =
    flat_map (rail_line (codes "input")) net.input_rails
    ++ (flat_map cell_line net.cells ++ flat_map (rail_line (codes "output")) net.output_rails)

-- the lines of names
abbrev pub names_text : PlainNetlist → List ℕ
names_text net = flat_map (name_line (codes "iname")) net.input_names ++ flat_map (name_line (codes "oname")) net.output_names

-- the lines of latches and of names
abbrev pub later_text : PlainNetlist → List ℕ
later_text net = flat_map state_line net.states ++ names_text net
