-- What writing a whole piece to a sink comes to.
use Rattle.std.specs.Prelude.{ℕ, List, Result, OnOk, OnErr}
use Rattle.std.specs.declared.option.Option.{Option}
use Rattle.std.specs.Io.KnownBytes.{Appends}
use Rattle.byte_ports.specs.Causes.{HasCause}
use Rattle.byte_ports.specs.Prefixes.{TookPrefix}

-- Where it succeeded the sink took the whole text, and otherwise a prefix of it; it failed only where the count of faults rose, and the
-- count stayed where it succeeded.
pub record WritesText {E : Type 0} (old new : Option (List ℕ)) (before now : ℕ) (result : Result Unit E) (text : List ℕ) : Type 0 where
  pub whole : OnOk result (Appends old new text)
  pub prefix : OnErr result (TookPrefix old new text)
  pub cause : HasCause before now result
