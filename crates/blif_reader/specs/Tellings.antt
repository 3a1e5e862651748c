-- What the logical lines of a source tell, by the words that stand in them; a line is the list of its words.
use Rattle.std.specs.Prelude.{◌≡◌, ⊤, ℕ, ◌++◌, ◌==◌, Bool, true, false, not, List, [], ◌∷◌, Option, Some, None, length, map, filter, unwrap_or, codes, slice_index, if◌then◌else◌}
use Rattle.std.specs.List.{All, flat_map}
use Rattle.std.specs.Str.{bytes_eq}
use Rattle.numbered_names.specs.Names.{number_in}
use Rattle.word_scan.specs.Logical.{LogicalLine, dark_words}
use Rattle.source_machine.specs.declared.unset.Unset.{Unset}
use Rattle.source_machine.specs.Unset.{first_bit}
use Rattle.source_machine.specs.Machines.{PlainLiteral, PlainLatch, PlainEquation, PlainMachine}
use Rattle.blif_reader.specs.Rows.{literals_of, bit_of}
use Rattle.blif_reader.specs.Latches.{names_clock}
use Rattle.blif_reader.specs.Sources.{PlainSource}

-- the words after the first one, of a line that begins with this word
abbrev pub words_after : List ℕ → List (List ℕ) → List (List ℕ)
words_after keyword [] = []
words_after keyword (first ∷ words) = if bytes_eq first keyword then words else []

abbrev pub input_words : List (List ℕ) → List (List ℕ)
input_words line = words_after (codes ".inputs") line

abbrev pub output_words : List (List ℕ) → List (List ℕ)
output_words line = words_after (codes ".outputs") line

abbrev pub equation_words : List (List ℕ) → List (List ℕ)
equation_words line = words_after (codes ".names") line

abbrev pub latch_words : List (List ℕ) → List (List ℕ)
latch_words line = words_after (codes ".latch") line

abbrev pub clock_words : List (List ℕ) → List (List ℕ)
clock_words line = words_after (codes ".clock") line

-- the input and the output of a latch
abbrev pub ends_of : List (List ℕ) → List (List ℕ)
ends_of (input ∷ output ∷ words) = input ∷ output ∷ []
ends_of words = []

-- the names of nets in a line
abbrev pub names_in : List (List ℕ) → List (List ℕ)
names_in line = input_words line ++ (output_words line ++ (equation_words line ++ ends_of (latch_words line)))

-- each name once, in the order in which they first appear
abbrev pub firsts : List (List ℕ) → List (List ℕ)
firsts [] = []
firsts (name ∷ names) = name ∷ filter (λ other. not (bytes_eq other name)) (firsts names)

-- the names of the nets
abbrev pub nets_told : List (List (List ℕ)) → List (List ℕ)
nets_told lines = firsts (flat_map names_in lines)

-- the net of a name: its place among the nets, from 1
abbrev pub net_of : List (List ℕ) → List ℕ → ℕ
net_of nets name = unwrap_or (number_in nets name) 0

abbrev pub literal_told : List (List ℕ) → List ℕ → PlainLiteral
literal_told nets name = record { net = net_of nets name; negated = false }

-- the initial value of a latch, by the words after its ends: one alone, or the third of three; else `3`
abbrev pub value_in : List (List ℕ) → List ℕ
value_in (value ∷ []) = value
value_in (kind ∷ control ∷ value ∷ []) = value
value_in words = codes "3"

-- the first bit that an initial value gives: `0` and `1` their own, others the choice for latches without one
abbrev pub bit_given : Unset → List ℕ → Bool
bit_given unset value =
    if bytes_eq value (codes "0") then false else (if bytes_eq value (codes "1") then true else unwrap_or (first_bit unset) false)

-- the latch of the words of a `.latch` line
abbrev pub latch_told : Unset → List (List ℕ) → List (List ℕ) → List PlainLatch
latch_told unset nets (input ∷ output ∷ words) =
    record { out = net_of nets output; init = bit_given unset (value_in words); next = literal_told nets input } ∷ []
latch_told unset nets words = []

-- the last word of a row, and the first
abbrev pub last_or : {A : Type 0} → A → List A → A
last_or before [] = before
last_or before (next ∷ more) = last_or next more

abbrev pub first_word : List (List ℕ) → List ℕ
first_word [] = []
first_word (word ∷ words) = word

-- all but the last one
abbrev pub all_but_last : {A : Type 0} → A → List A → List A
all_but_last before [] = []
all_but_last before (next ∷ more) = before ∷ all_but_last next more

-- the rows that stand under a line, before the next line that begins with a dot; lines without words are passed over
abbrev pub rows_under : List (List (List ℕ)) → List (List (List ℕ))
rows_under [] = []
rows_under ([] ∷ lines) = rows_under lines
rows_under ((first ∷ words) ∷ lines) =
    if slice_index first 0 == 46 then [] else (first ∷ words) ∷ rows_under lines

-- the bit in which rows end, or the one that is given where there are none
abbrev pub bit_told : Bool → List (List (List ℕ)) → Bool
bit_told given [] = given
bit_told given (row ∷ rows) = bit_told (unwrap_or (bit_of (last_or [] row)) given) rows

-- the literals that a row's marks give the columns
abbrev pub cube_told : List ℕ → List (List ℕ) → List PlainLiteral
cube_told columns row = literals_of columns (first_word row)

-- the equation of the words of a `.names` line and the rows under it: its net is that of the last name, and the others
-- are its columns
abbrev pub equation_told : List (List ℕ) → List (List ℕ) → List (List (List ℕ)) → List PlainEquation
equation_told nets [] rows = []
equation_told nets (name ∷ names) rows = record {
  net = last_or (net_of nets name) (map (net_of nets) names);
  on = bit_told true rows;
  cubes = map (cube_told (all_but_last (net_of nets name) (map (net_of nets) names))) rows;
} ∷ []

abbrev pub equations_told : List (List ℕ) → List (List (List ℕ)) → List PlainEquation
equations_told nets [] = []
equations_told nets (line ∷ lines) = equation_told nets (equation_words line) (rows_under lines) ++ equations_told nets lines

-- all rows end in this bit
abbrev pub RowsEndIn : Bool → List (List (List ℕ)) → Type 0
RowsEndIn bit rows = All (λ row. bit_of (last_or [] row) ≡ Some bit) rows

-- the rows under the words of a `.names` line end in its equation's bit
abbrev pub RowsAgree : List (List ℕ) → List (List (List ℕ)) → Type 0
RowsAgree [] rows = ⊤
RowsAgree (name ∷ names) rows = RowsEndIn (bit_told true rows) rows

-- and so of all equations
abbrev pub AllRowsAgree : List (List (List ℕ)) → Type 0
AllRowsAgree [] = ⊤
AllRowsAgree (line ∷ lines) = RowsAgree (equation_words line) (rows_under lines) × AllRowsAgree lines

-- the control of a typed latch, other than `NIL`
abbrev pub control_in : List (List ℕ) → List (List ℕ)
control_in (input ∷ output ∷ kind ∷ control ∷ words) = if names_clock control then control ∷ [] else []
control_in words = []

-- the names of clocks in a line
abbrev pub clocks_in : List (List ℕ) → List (List ℕ)
clocks_in line = clock_words line ++ control_in (latch_words line)

abbrev pub first_of : List (List ℕ) → Option (List ℕ)
first_of [] = None
first_of (name ∷ names) = Some name

-- the clock's name is the first one
abbrev pub clock_told : List (List (List ℕ)) → Option (List ℕ)
clock_told lines = first_of (flat_map clocks_in lines)

abbrev pub has_words : List (List ℕ) → Bool
has_words [] = false
has_words (word ∷ words) = true

-- the machine that lines tell
abbrev pub machine_told : Unset → List (List (List ℕ)) → PlainMachine
machine_told unset lines = record {
  nets = length (nets_told lines);
  inputs = map (net_of (nets_told lines)) (flat_map input_words lines);
  latches = flat_map (λ line. latch_told unset (nets_told lines) (latch_words line)) lines;
  equations = equations_told (nets_told lines) lines;
  outputs = map (literal_told (nets_told lines)) (flat_map output_words lines);
  input_names = map (λ name. Some name) (flat_map input_words lines);
  output_names = map (λ name. Some name) (flat_map output_words lines);
}

abbrev pub source_told : Unset → List (List (List ℕ)) → PlainSource
source_told unset lines = record { nets = nets_told lines; machine = machine_told unset lines }

-- the words of logical lines
abbrev pub words_of : List LogicalLine → List (List (List ℕ))
words_of lines = map (λ line. dark_words line.text) lines
