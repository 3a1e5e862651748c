-- Refusals of lines, and what comes after what isn't refused.
use Rattle.std.specs.Prelude.{◌≡◌, ⊤, ℕ, Bool, true, false, Result, Ok, Err, List, length, nat_lt, if◌then◌else◌}
use Rattle.pulse_ids.specs.Quantities.{greatest_of}
use Rattle.pulse_ids.specs.declared.quantities.Quantity.{Quantity}
use Rattle.pulse_ids.specs.declared.quantities.Quantity.TheVariants as quantities
use Rattle.blif_reader.specs.declared.refusals.BlifCause.{BlifCause}
use Rattle.blif_reader.specs.declared.refusals.BlifCause.TheVariants as causes
use Rattle.blif_reader.specs.declared.refusals.BlifRefusal.{BlifRefusal}
use Rattle.blif_reader.specs.declared.refusals.BlifRefusal.TheVariants as refusals
use Rattle.blif_reader.specs.declared.refusals.LineRefusal.{LineRefusal}
use Rattle.blif_reader.specs.declared.refusals.LineRefusal.TheVariants.{Limit, NoMemory}

-- what comes after what isn't refused
abbrev pub after : {A B : Type 0} → Result A LineRefusal → (A → Result B LineRefusal) → Result B LineRefusal
after (Ok value) next = next value
after (Err refusal) next = Err refusal

-- more than the greatest number of it
abbrev pub over : {A : Type 0} → Quantity → ℕ → Result A LineRefusal → Result A LineRefusal
over quantity count next = if nat_lt (greatest_of quantity) count then Err (Limit quantity) else next

-- a name with too many bytes
abbrev pub unless_long : {A : Type 0} → List ℕ → Result A LineRefusal → Result A LineRefusal
unless_long name next = over quantities.NameBytes (length name) next

-- what reading gives is this refusal, or memory was refused
abbrev pub FailsBy : {A : Type 0} → LineRefusal → Result A LineRefusal → Type 0
FailsBy NoMemory read = ⊤
FailsBy refusal read = read ≡ Err refusal

-- the causes that name a word or a net
abbrev pub has_name : BlifCause → Bool
has_name (causes.Unsupported name) = true
has_name (causes.NoFixedInit name) = true
has_name (causes.ClockAsData name) = true
has_name (causes.DerivedClock name) = true
has_name (causes.DoubleDriver name) = true
has_name (causes.Undriven name) = true
has_name (causes.Cycle name) = true
has_name _ = false

-- a fault with such a cause
abbrev pub is_named : BlifRefusal → Bool
is_named (refusals.Fault fault) = has_name fault.cause
is_named _ = false
