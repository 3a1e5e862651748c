-- The lines of a text. A line ends at LF, the byte 10.
use Rattle.std.specs.Prelude.{◌≡◌, ◌≢◌, All, ◌≤◌, ◌<◌, ◌+◌, ◌++◌, ◌∷◌, [], ℕ, Bool, true, false, List, take, length, if◌then◌else◌, ◌==◌}
use Rattle.word_scan.specs.declared.lines.Taken.{Taken}

-- the lines that bytes complete, after a line that has begun; each without its LF
abbrev pub lines_after : List ℕ → List ℕ → List (List ℕ)
lines_after line [] = []
lines_after line (byte ∷ bytes) =
    if byte == 10 then line ∷ lines_after [] bytes else lines_after (line ++ byte ∷ []) bytes

-- what bytes leave of the last line, after a line that has begun
abbrev pub begun_after : List ℕ → List ℕ → List ℕ
begun_after line [] = line
begun_after line (byte ∷ bytes) =
    if byte == 10 then begun_after [] bytes else begun_after (line ++ byte ∷ []) bytes

-- the whole lines of a text, each without its LF
abbrev pub whole_lines : List ℕ → List (List ℕ)
whole_lines text = lines_after [] text

-- what stands after the last LF
abbrev pub last_line : List ℕ → List ℕ
last_line text = begun_after [] text

-- no byte is LF
abbrev pub HasNoFeed : List ℕ → Type 0
HasNoFeed bytes = All (λ byte. byte ≢ 10) bytes

-- the present line: its bytes, whether it is whole, and its number
pub record PlainLines : Type 0 where
  pub line : List ℕ
  pub whole : Bool
  pub number : ℕ

-- what the next byte goes on: a line, or nothing where it is whole
abbrev pub unless_whole : Bool → List ℕ → List ℕ
unless_whole whole line = if whole then [] else line

-- the line that the next byte goes on
abbrev pub begun : PlainLines → List ℕ
begun lines = unless_whole lines.whole lines.line

-- the number of that line
abbrev pub next_number : PlainLines → ℕ
next_number lines = if lines.whole then lines.number + 1 else lines.number

-- a part of a piece: all of it, or the bytes up to and with its first LF
pub record TakesPart (before piece : List ℕ) (taken : Taken) (line : List ℕ) : Type 0 where
  pub within : taken.used ≤ length piece
  pub moves : 0 < length piece → 0 < taken.used
  pub lines : lines_after before (take taken.used piece) ≡ (if taken.whole then line ∷ [] else [])
  pub begun : begun_after before (take taken.used piece) ≡ (if taken.whole then [] else line)
  pub all : taken.whole ≡ false → taken.used ≡ length piece

-- a line and its LF
abbrev pub whole_part : List ℕ → Taken
whole_part line = record { used = length line + 1; whole = true }

-- the first line of a piece lies in it whole, and the next line is the present one
pub record TakesWhole (old : PlainLines) (piece line : List ℕ) (new : PlainLines) : Type 0 where
  pub first : begun old ≡ []
  pub part : TakesPart (begun old) piece (whole_part line) line
  pub plain : HasNoFeed line
  pub next : new ≡ record { line = []; whole = false; number = next_number old + 1 }

-- what was taken so far is this text
pub record IsAt (text : List ℕ) (lines : PlainLines) : Type 0 where
  pub present : last_line text ≡ begun lines
  pub count : length (whole_lines text) + 1 ≡ next_number lines
  pub completed : lines.whole ≡ true → (before : List (List ℕ)) × (whole_lines text ≡ before ++ lines.line ∷ [])
