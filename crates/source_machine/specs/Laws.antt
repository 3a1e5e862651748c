-- That a well founded machine computes one thing.
use Rattle.std.specs.Prelude.{◌≡◌, ◌⊎◌, List, Bool, length, All}
use Rattle.source_machine.specs.Machines.{PlainMachine}
use Rattle.source_machine.specs.Fitting.{Fits}
use Rattle.source_machine.specs.Runs.{Agrees, IsRun}
use Rattle.source_machine.specs.Grounding.{IsWellFounded, Refusal, IsFirstRefusal}

-- each vector has a bit for each input
abbrev pub AreVectors : PlainMachine → List (List Bool) → Type 0
AreVectors machine vectors = All (λ vector. length vector ≡ length machine.inputs) vectors

-- a well founded machine has a valuation that agrees with a bit for each latch and a bit for each input
abbrev pub ValuationExists : Type 0
ValuationExists =
    (machine : PlainMachine) → Fits machine → IsWellFounded machine → (state vector : List Bool) → length state ≡ length machine.latches
    → length vector ≡ length machine.inputs → (valuation : List Bool) × Agrees machine state vector valuation

-- two valuations of a well founded machine that agree with the same bits are the same
abbrev pub ValuationsAreEqual : Type 0
ValuationsAreEqual =
    (machine : PlainMachine) → Fits machine → IsWellFounded machine → (state vector : List Bool) → (one other : List Bool) → Agrees machine state vector one
    → Agrees machine state vector other → one ≡ other

-- two runs of a well founded machine on the same vectors are the same
abbrev pub RunsAreEqual : Type 0
RunsAreEqual =
    (machine : PlainMachine) → Fits machine → IsWellFounded machine → (vectors : List (List Bool)) → AreVectors machine vectors → (one other : List (List Bool))
    → IsRun machine vectors one → IsRun machine vectors other → one ≡ other

-- a well founded machine has a run on any vectors
abbrev pub RunExists : Type 0
RunExists =
    (machine : PlainMachine) → Fits machine → IsWellFounded machine → (vectors : List (List Bool)) → AreVectors machine vectors
    → (valuations : List (List Bool)) × IsRun machine vectors valuations

-- a well founded machine isn't refused
abbrev pub FoundedIsNotRefused : Type 0
FoundedIsNotRefused =
    (machine : PlainMachine) → IsWellFounded machine → (refusal : Refusal) → IsFirstRefusal machine refusal → ⊥

-- two first refusals of a machine are the same
abbrev pub RefusalsAreEqual : Type 0
RefusalsAreEqual =
    (machine : PlainMachine) (one other : Refusal) → IsFirstRefusal machine one → IsFirstRefusal machine other → one ≡ other

-- a machine that fits is well founded or refused
abbrev pub FitsIsJudged : Type 0
FitsIsJudged =
    (machine : PlainMachine) → Fits machine → IsWellFounded machine ⊎ ((refusal : Refusal) × IsFirstRefusal machine refusal)
