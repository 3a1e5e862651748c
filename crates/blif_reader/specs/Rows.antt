-- The rows of an equation. (BLIF, single-output covers.)
use Rattle.std.specs.Prelude.{ℕ, ◌+◌, ◌==◌, Bool, true, false, ◌||◌, ◌&&◌, List, [], ◌∷◌, Option, Some, None, length, codes, if◌then◌else◌}
use Rattle.std.specs.List.{list_all}
use Rattle.std.specs.Str.{bytes_eq}
use Rattle.source_machine.specs.Machines.{PlainLiteral}

-- `0`, `1` or `-`
abbrev pub is_mark : ℕ → Bool
is_mark byte = (byte == 48) || ((byte == 49) || (byte == 45))

-- a mark that gives a literal
abbrev pub is_care : ℕ → Bool
is_care byte = (byte == 48) || (byte == 49)

-- how many marks give literals
abbrev pub cares_in : List ℕ → ℕ
cares_in [] = 0
cares_in (mark ∷ marks) = (if is_care mark then 1 else 0) + cares_in marks

-- what a mark gives its column, before the literals of further columns: the net for `1`, the net negated for `0`,
-- and nothing for `-`
abbrev pub marked : ℕ → ℕ → List PlainLiteral → List PlainLiteral
marked net mark more =
    if mark == 49 then record { net = net; negated = false } ∷ more else
    (if mark == 48 then record { net = net; negated = true } ∷ more else more)

-- the literals that marks give columns, from the left
abbrev pub literals_of : List ℕ → List ℕ → List PlainLiteral
literals_of [] marks = []
literals_of (net ∷ nets) [] = []
literals_of (net ∷ nets) (mark ∷ marks) = marked net mark (literals_of nets marks)

-- the bit that a word of one byte writes
abbrev pub bit_of : List ℕ → Option Bool
bit_of word = if bytes_eq word (codes "0") then Some false else (if bytes_eq word (codes "1") then Some true else None)

-- the words of a row: its marks, which an equation without columns leaves out, and its bit
abbrev pub row_words : Bool → List (List ℕ) → Option (List ℕ × List ℕ)
row_words true (bit ∷ []) = Some ([], bit)
row_words false (marks ∷ bit ∷ []) = Some (marks, bit)
row_words columns words = None

-- a mark for each column
abbrev pub are_marks : ℕ → List ℕ → Bool
are_marks columns marks = (columns == length marks) && list_all (λ b. is_mark b) marks
