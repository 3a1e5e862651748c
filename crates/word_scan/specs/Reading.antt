-- Lines that are read one after the other.
use Rattle.std.specs.Prelude.{◌≡◌, ℕ, List, [], ◌∷◌, Result, Ok, Err}
use Rattle.word_scan.specs.Lines.{PlainLines, IsAt, whole_lines}

-- after a refusal nothing is read
abbrev pub unless_refused : {S R : Type 0} → (S → List ℕ → Result S R) → Result S R → List ℕ → Result S R
unless_refused read (Ok state) line = read state line
unless_refused read (Err refusal) line = Err refusal

-- what was read up to some line, and then these lines
abbrev pub read_on : {S R : Type 0} → (S → List ℕ → Result S R) → Result S R → List (List ℕ) → Result S R
read_on read so_far [] = so_far
read_on read so_far (line ∷ lines) = read_on read (unless_refused read so_far line) lines

-- the whole lines of a text, read from a first state on
abbrev pub text_read : {S R : Type 0} → (S → List ℕ → Result S R) → S → List ℕ → Result S R
text_read read start text = read_on read (Ok start) (whole_lines text)

-- what was taken so far is this text, and its whole lines lead to this state
pub record HasRead {S R : Type 0} (read : S → List ℕ → Result S R) (start : S) (text : List ℕ) (lines : PlainLines) (state : S) : Type 0 where
  pub at : IsAt text lines
  pub reads : text_read read start text ≡ Ok state
