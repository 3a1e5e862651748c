-- The logical lines of BLIF, and their words. A physical line that ends in `\` is continued by the next one.
use Rattle.std.specs.Prelude.{ℕ, ◌+◌, ◌-◌, ◌++◌, ◌∷◌, [], ◌==◌, Bool, false, not, ◌||◌, List, Option, Some, None, take, length, slice_index, filter, nat_lt, if◌then◌else◌}
use Rattle.std.specs.List.{suffix_len, before_first, slice_split, list_any}
use Rattle.word_scan.specs.Words.{is_word}

-- a space, a tab or CR
abbrev pub is_white : ℕ → Bool
is_white byte = (byte == 32) || ((byte == 9) || (byte == 13))

-- the longest runs of bytes that aren't white space
abbrev pub dark_words : List ℕ → List (List ℕ)
dark_words line = filter is_word (slice_split (λ b. is_white b) line)

-- neither white space nor a byte of a name: at most 32, or 127, or `#`
abbrev pub is_strange : ℕ → Bool
is_strange byte = if is_white byte then false else (nat_lt byte 33 || ((byte == 127) || (byte == 35)))

abbrev pub has_strange : List ℕ → Bool
has_strange text = list_any (λ b. is_strange b) text

-- the bytes before the first `#`
abbrev pub uncommented : List ℕ → List ℕ
uncommented line = before_first (λ b. b == 35) line

-- the same without white space at the end
abbrev pub told : List ℕ → List ℕ
told line = take (length (uncommented line) - suffix_len is_white (uncommented line)) (uncommented line)

-- the last byte left is `\`
abbrev pub continues : List ℕ → Bool
continues line = slice_index (told line) (length (told line) - 1) == 92

-- what is left without that byte
abbrev pub part_of : List ℕ → List ℕ
part_of line = if continues line then take (length (told line) - 1) (told line) else told line

-- a logical line: the number of its first physical line, and the parts of its physical lines with a space between them
pub record LogicalLine : Type 0 where
  pub first : ℕ
  pub text : List ℕ

-- the physical line of this number begins a logical line, or goes on with one
abbrev pub going_on : Option LogicalLine → ℕ → List ℕ → LogicalLine
going_on None number line = record { first = number; text = part_of line }
going_on (Some begun) number line = record { first = begun.first; text = begun.text ++ 32 ∷ part_of line }

-- the logical lines that physical lines complete, the first of which has this number, after one that has begun
abbrev pub logical_after : Option LogicalLine → ℕ → List (List ℕ) → List LogicalLine
logical_after begun number [] = []
logical_after begun number (line ∷ lines) =
    if continues line then logical_after (Some (going_on begun number line)) (number + 1) lines
    else going_on begun number line ∷ logical_after None (number + 1) lines

-- what they leave of the last one
abbrev pub logical_begun : Option LogicalLine → ℕ → List (List ℕ) → Option LogicalLine
logical_begun begun number [] = begun
logical_begun begun number (line ∷ lines) =
    if continues line then logical_begun (Some (going_on begun number line)) (number + 1) lines
    else logical_begun None (number + 1) lines

-- the present logical line: its text, whether it is whole, and the number of its first physical line
pub record PlainLogical : Type 0 where
  pub text : List ℕ
  pub whole : Bool
  pub first : ℕ

-- the same as a logical line
abbrev pub present_line : PlainLogical → LogicalLine
present_line logical = record { first = logical.first; text = logical.text }

-- the logical line that the next physical line goes on with
abbrev pub begun_line : PlainLogical → Option LogicalLine
begun_line logical = if logical.whole then None else Some (present_line logical)

-- the present line after one more physical line
abbrev pub with_line : PlainLogical → ℕ → List ℕ → PlainLogical
with_line logical number line = record {
  text = (going_on (begun_line logical) number line).text;
  whole = not (continues line);
  first = (going_on (begun_line logical) number line).first;
}
