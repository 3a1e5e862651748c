-- What holds of all sources.
use Rattle.std.specs.Prelude.{◌≡◌, ◌++◌, ℕ, List, Some, Err}
use Rattle.source_machine.specs.declared.unset.Unset.{Unset}
use Rattle.aiger_reader.specs.declared.refusals.AigerRefusal.{AigerRefusal}
use Rattle.aiger_reader.specs.Sources.{early, judgement}

-- what the first bytes of a text show stays shown, and is its verdict
pub record EarlyStands : Type 0 where
  pub shown : (unset : Unset) (text more : List ℕ) (refusal : AigerRefusal) → early unset text ≡ Some refusal → early unset (text ++ more) ≡ Some refusal
  pub judged : (unset : Unset) (text more : List ℕ) (refusal : AigerRefusal) → early unset text ≡ Some refusal → judgement unset (text ++ more) ≡ Err refusal
