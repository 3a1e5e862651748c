-- Deliveries by a script.
use Rattle.std.specs.Prelude.{◌≡◌, ◌<◌, ℕ, List, [], Some, Result, Ok, Err, length, take, slice_get}
use Rattle.pulse_ids.specs.Lists.{occurrences}
use Rattle.pulse_world.specs.Worlds.{PlainWorld, IsWorld}
use Rattle.schedule_replay.specs.declared.replaying.ScriptFault.{ScriptFault}
use Rattle.schedule_replay.specs.declared.replaying.ScriptFault.TheVariants.{NotPending, Short}
use Rattle.schedule_replay.specs.Settling.{DeliversAll}

-- The script was delivered and nothing is pending; or it was delivered up to its first wire with nothing pending; or
-- it was delivered, and so many are still pending.
abbrev pub Replays : PlainWorld → List ℕ → PlainWorld → Result Unit ScriptFault → Type 0
Replays before script after (Ok done) = DeliversAll before script after × (after.queue ≡ [])
Replays before script after (Err (NotPending at wire)) =
    DeliversAll before (take at script) after × (slice_get script at ≡ Some wire.number) × (occurrences wire.number after.queue ≡ 0)
Replays before script after (Err (Short left)) = DeliversAll before script after × (left ≡ length after.queue) × (0 < left)

-- a script has one outcome, and one world after it
abbrev pub OneReplay : Type 0
OneReplay =
    (before : PlainWorld) (script : List ℕ) (after other : PlainWorld) (result also : Result Unit ScriptFault) → IsWorld before
    → Replays before script after result → Replays before script other also → (result ≡ also) × (after ≡ other)

-- from every world a script has an outcome
abbrev pub ScriptsEnd : Type 0
ScriptsEnd =
    (before : PlainWorld) (script : List ℕ) → IsWorld before → (after : PlainWorld) × (result : Result Unit ScriptFault) × Replays before script after result
