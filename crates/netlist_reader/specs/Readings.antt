-- What a reader keeps of the bytes so far, and what it answers.
use Rattle.std.specs.Prelude.{◌≡◌, ◌≤◌, ℕ, ◌+◌, ◌++◌, true, List, [], ◌∷◌, take, Option, Some, None, Result, Ok, Err, length, ⊤}
use Rattle.word_scan.specs.Lines.{PlainLines, begun, next_number}
use Rattle.word_scan.specs.Reading.{HasRead}
use Rattle.netlist_reader.specs.declared.built.Built.{Built}
use Rattle.netlist_reader.specs.declared.readings.Reading.{Reading}
use Rattle.netlist_reader.specs.declared.refusals.NetRefusal.{NetRefusal}
use Rattle.netlist_reader.specs.declared.refusals.NetRefusal.TheVariants.{NoMemory}
use Rattle.netlist_reader.specs.Building.{has_ended, line_read, start, IsBounded, OrMemory}
use Rattle.netlist_reader.specs.Places.{inputs_of, line_refusal, first_refusal}
use Rattle.netlist_reader.specs.Verdicts.{limit, lines_in, too_long, early}

-- what reading on needs, and what the end leaves
pub record IsFine (lines : PlainLines) (built : Built) : Type 0 where
  pub bounded : IsBounded built
  pub count : next_number lines ≡ built.lines + 1
  pub closed : has_ended built ≡ true → begun lines ≡ []

abbrev pub CanGoOn : Option NetRefusal → PlainLines → Built → ℕ → Type 0
CanGoOn None lines built taken = IsFine lines built × (built.lines ≤ taken)
CanGoOn (Some refusal) lines built taken = ⊤

pub record IsSafe (reading : Reading) : Type 0 where
  pub within : reading.taken ≤ limit
  pub goes_on : CanGoOn reading.stopped reading.lines reading.built reading.taken

-- what is refused behind these lines: the next one, or where there is none a text that is too long
abbrev pub RefusedBehind : List ℕ → List (List ℕ) → List (List ℕ) → NetRefusal → Type 0
RefusedBehind text before [] refusal = too_long text ≡ Some refusal
RefusedBehind text before (line ∷ lines) refusal = line_refusal before line ≡ Some refusal

-- the lines that were looked at: with the one that is refused, but for want of memory
abbrev pub looked_at : NetRefusal → List (List ℕ) → List (List ℕ) → List (List ℕ)
looked_at NoMemory before after = before
looked_at refusal before after = before ++ take 1 after

-- a refusal stops the reading of a text behind so many lines, none of which is refused, when this number of input ports is known
pub record StopsAt (text : List ℕ) (refusal : NetRefusal) (count : ℕ) (inputs : Option ℕ) : Type 0 where
  pub before : List (List ℕ)
  pub after : List (List ℕ)
  pub lines_are : lines_in text ≡ before ++ after
  pub accepted : first_refusal [] before ≡ None
  pub counted : count ≡ length before
  pub refused : OrMemory refusal (RefusedBehind text before after refusal)
  pub known : inputs ≡ inputs_of (looked_at refusal before after)

-- nothing stops the reading of this text, or this does
abbrev pub HasStopped : Option NetRefusal → List ℕ → PlainLines → Built → ℕ → Type 0
HasStopped None text lines built taken = (taken ≡ length text) × HasRead line_read start text lines built
HasStopped (Some refusal) text lines built taken = OrMemory refusal (early text ≡ Some refusal) × StopsAt text refusal built.lines built.inputs

-- the bytes so far are this text
abbrev pub IsReading : List ℕ → Reading → Type 0
IsReading text reading = HasStopped reading.stopped text reading.lines reading.built reading.taken

-- an answer is this refusal, or want of memory
abbrev pub Answers : {A : Type 0} → Result A NetRefusal → Option NetRefusal → Type 0
Answers (Ok x) shown = shown ≡ None
Answers (Err refusal) shown = OrMemory refusal (shown ≡ Some refusal)
