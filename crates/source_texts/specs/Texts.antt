-- The text of a source in ASCII AIGER 1.9.
use Rattle.std.specs.Prelude.{◌*◌, ℕ, Bool, true, false, List, [], ◌∷◌, ◌++◌, Option, Some, None, map, length, codes, decimal}
use Rattle.std.specs.List.{flat_map}
use Rattle.pulse_ids.specs.Literals.{code_of}
use Rattle.source_machine.specs.Machines.{PlainLiteral}
use Rattle.source_texts.specs.Parts.{SourceLatch, SourceAnd, SourceParts}

-- words with a space between two
abbrev pub spaced : List (List ℕ) → List ℕ
spaced [] = []
spaced (word ∷ []) = word
spaced (word ∷ next ∷ words) = word ++ 32 ∷ spaced (next ∷ words)

-- a line of words
abbrev pub line : List (List ℕ) → List ℕ
line words = spaced words ++ 10 ∷ []

-- a literal's number: twice its variable, and one more for the complement
abbrev pub literal_code : PlainLiteral → ℕ
literal_code literal = code_of literal.net literal.negated

-- how many variables, inputs, latches, outputs and conjunctions there are
abbrev pub header_numbers : SourceParts → List ℕ
header_numbers parts = parts.variables ∷ length parts.inputs ∷ length parts.latches ∷ length parts.outputs ∷ length parts.ands ∷ []

-- the numbers of each line: the variable of an input; the variable, the next literal and the first bit of a latch; the
-- literal of an output; the variable and the two literals of a conjunction
abbrev pub input_numbers : ℕ → List ℕ
input_numbers net = 2 * net ∷ []

abbrev pub reset_numbers : Option Bool → List ℕ
reset_numbers None = []
reset_numbers (Some false) = 0 ∷ []
reset_numbers (Some true) = 1 ∷ []

abbrev pub latch_numbers : SourceLatch → List ℕ
latch_numbers latch = 2 * latch.out ∷ literal_code latch.next ∷ reset_numbers latch.reset

abbrev pub output_numbers : PlainLiteral → List ℕ
output_numbers literal = literal_code literal ∷ []

abbrev pub and_numbers : SourceAnd → List ℕ
and_numbers and = 2 * and.net ∷ literal_code and.left ∷ literal_code and.right ∷ []

-- the words of each line; a symbol's are its letter with the position, and the name
abbrev pub header_words : SourceParts → List (List ℕ)
header_words parts = codes "aag" ∷ map decimal (header_numbers parts)

abbrev pub input_words : ℕ → List (List ℕ)
input_words net = map decimal (input_numbers net)

abbrev pub latch_words : SourceLatch → List (List ℕ)
latch_words latch = map decimal (latch_numbers latch)

abbrev pub output_words : PlainLiteral → List (List ℕ)
output_words literal = map decimal (output_numbers literal)

abbrev pub and_words : SourceAnd → List (List ℕ)
and_words and = map decimal (and_numbers and)

abbrev pub symbol_words : ℕ × ℕ × List ℕ → List (List ℕ)
symbol_words symbol = (symbol.0 ∷ decimal symbol.1) ∷ symbol.2 ∷ []

-- the words of the lines behind the header
abbrev pub body_words : SourceParts → List (List (List ℕ))
body_words parts =
    map input_words parts.inputs ++ (map latch_words parts.latches ++ (map output_words parts.outputs
    ++ (map and_words parts.ands ++ map symbol_words parts.symbols)))

-- the text
abbrev pub source_text : SourceParts → List ℕ
source_text parts = flat_map line (header_words parts ∷ body_words parts)
