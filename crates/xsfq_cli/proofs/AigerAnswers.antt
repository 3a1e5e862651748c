-- The outcome of what AIGER's reader answers.
use Rattle.std.proofs.Common.{◌≡◌, Ok, Err}
use Rattle.std.specs.declared.result.Result.{Result}
use Rattle.aiger_reader.specs.declared.refusals.AigerRefusal.{AigerRefusal}
use Rattle.run_outcomes.specs.declared.outcomes.Outcome.{Outcome}
use Rattle.run_outcomes.specs.Outcomes.{aiger_outcome}

abbrev pub IsAnswer : Result Unit AigerRefusal → Result Unit Outcome → Type 0
IsAnswer (Ok x) (Ok y) = Unit
IsAnswer (Err refusal) (Err outcome) = outcome ≡ aiger_outcome refusal
IsAnswer result outcome = ⊥
