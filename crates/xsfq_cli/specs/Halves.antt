-- What the parts of a command give, in the words of the table.
use Rattle.std.specs.Prelude.{◌≡◌, ℕ, Option, None, List, Result, Ok, Err}
use Rattle.xsfq_cli.specs.declared.orders.Order.{Order}
use Rattle.run_outcomes.specs.declared.outcomes.Outcome.{Outcome}
use Rattle.xsfq_cli.specs.Judgements.{reads, shown, Refuses, Writes}
use Rattle.xsfq_cli.specs.Table.{Input, Output, ReadsAll, ReadWhole, Stops, StopsAs, WriteFailed, Wrote}

-- What the first half of a command gives: a task for the whole input, or an outcome. A task has texts that it may
-- write, each with its ending.
abbrev pub Prepares : {T : Type 0} → Order → Input → (T → List ℕ → Outcome → Type 0) → Result T Outcome → Type 0
Prepares order input tells (Ok task) =
    (bytes : List ℕ) × ReadsAll (reads order) (shown order) input bytes
    × ((text : List ℕ) (ending : Outcome) → tells task text ending → Writes order bytes text ending)
Prepares order input tells (Err outcome) = StopsAs (reads order) (shown order) (Refuses order) input outcome

-- What the second half gives: a text of the task was written, with this ending, or a prefix of it.
abbrev pub Emits : {E : Type 0} → (List ℕ → Outcome → Type 0) → Output → Result Outcome E → Type 0
Emits tells output (Ok ending) = (text : List ℕ) × tells text ending × Wrote output text
Emits tells output (Err failed) = (text : List ℕ) × (ending : Outcome) × tells text ending × WriteFailed output text

-- What reading an input whole gives: what its bytes are judged to be, or an outcome.
abbrev pub Reads : {A : Type 0} → (List ℕ → Option Outcome) → (List ℕ → Result A Outcome → Type 0) → Input → Result A Outcome → Type 0
Reads shows judges input (Ok whole) = (bytes : List ℕ) × ReadWhole shows input bytes × judges bytes (Ok whole)
Reads shows judges input (Err outcome) = Stops shows (λ bytes refusal. judges bytes (Err refusal)) input outcome

-- What feeding an input to a reader gives: it was read whole, the reader has its bytes, and they show no refusal;
-- or an outcome.
abbrev pub TakesWhole : {A R : Type 0} → (List ℕ → Option Outcome) → (List ℕ → Result A Outcome → Type 0) → (List ℕ → R → Type 0) → R → Input
    → Result Unit Outcome → Type 0
TakesWhole shows judges has reader input (Ok x) = (bytes : List ℕ) × ReadWhole shows input bytes × has bytes reader × (shows bytes ≡ None)
TakesWhole shows judges has reader input (Err outcome) = Stops shows (λ bytes refusal. judges bytes (Err refusal)) input outcome
