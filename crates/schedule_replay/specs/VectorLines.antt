-- The lines of a text of vectors.
use Rattle.std.specs.Prelude.{ℕ, ◌+◌, ◌==◌, ◌&&◌, Bool, true, false, Option, Some, None, List, [], ◌∷◌, length, drop, slice_index, codes, option_map, option_and_then, if◌then◌else◌}
use Rattle.std.specs.List.{slice_split}
use Rattle.std.specs.Str.{bytes_eq}
use Rattle.pulse_ids.specs.Ids.{WireId, numbered}
use Rattle.word_scan.specs.Decimals.{plain_decimal_of}

-- what each item is, where each is something
abbrev pub each : {X Y : Type 0} → (X → Option Y) → List X → Option (List Y)
each f [] = Some []
each f (x ∷ xs) = option_and_then (λ y. option_map (λ ys. y ∷ ys) (each f xs)) (f x)

-- the bit of a digit
abbrev pub bit_of : ℕ → Option Bool
bit_of byte = if byte == 48 then Some false else if byte == 49 then Some true else None

abbrev pub bits_of : List ℕ → Option (List Bool)
bits_of digits = each bit_of digits

-- the vector of a line: `v` and then a digit for each input port
abbrev pub vector_of : ℕ → List ℕ → Option (List Bool)
vector_of inputs line = if (length line == inputs + 1) && (slice_index line 0 == 118) then bits_of (drop 1 line) else None

-- the wire of a number
abbrev pub wire_of : List ℕ → Option WireId
wire_of word = option_map numbered (plain_decimal_of word)

-- what stands between single spaces
abbrev pub spaced : List ℕ → List (List ℕ)
spaced text = slice_split (λ b. b == 32) text

-- the wires of numbers between which single spaces stand
abbrev pub wires_of : List ℕ → Option (List WireId)
wires_of numbers = each wire_of (spaced numbers)

-- the script of a line: `deliver`, and for each delivery one space and the number of its wire
abbrev pub script_of : List (List ℕ) → Option (List WireId)
script_of [] = None
script_of (word ∷ numbers) = if bytes_eq word (codes "deliver") then each wire_of numbers else None

abbrev pub script_in : List ℕ → Option (List WireId)
script_in line = script_of (spaced line)
