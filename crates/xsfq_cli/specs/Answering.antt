-- How a reader answers: by what the bytes show or are judged to be, or for want of memory.
use Rattle.std.specs.Prelude.{◌≡◌, ◌⊎◌, List, ℕ, ◌++◌, Option, Some, None, Result, Ok, Err}
use Rattle.run_outcomes.specs.declared.outcomes.Outcome.{Outcome}
use Rattle.run_outcomes.specs.declared.outcomes.Outcome.TheVariants.{NoMemory}

-- an answer is the refusal that is shown, or none is shown, or memory was refused
abbrev pub Tells : {A : Type 0} → Option Outcome → Result A Outcome → Type 0
Tells shown (Ok x) = shown ≡ None
Tells shown (Err outcome) = (outcome ≡ NoMemory) ⊎ (shown ≡ Some outcome)

-- an answer is so, or memory was refused
abbrev pub IsOrNoMemory : {A : Type 0} → (Result A Outcome → Type 0) → Result A Outcome → Type 0
IsOrNoMemory judged (Ok x) = judged (Ok x)
IsOrNoMemory judged (Err outcome) = (outcome ≡ NoMemory) ⊎ judged (Err outcome)

-- A refusal that the first bytes of an input show stays shown, and is that of the whole input.
pub record IsEarly {A : Type 0} (shows : List ℕ → Option Outcome) (judges : List ℕ → Result A Outcome → Type 0) : Type 0 where
  pub stays : (first more : List ℕ) (refusal : Outcome) → shows first ≡ Some refusal → shows (first ++ more) ≡ Some refusal
  pub final : (first more : List ℕ) (refusal : Outcome) → shows first ≡ Some refusal → judges (first ++ more) (Err refusal)
