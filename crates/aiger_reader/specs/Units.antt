-- The units of a source: its lines, and in the binary spelling the deltas of its conjunctions. A unit stands here
-- with its last byte. (AIGER 1.9, sections 2 and 3.)
use Rattle.std.specs.Prelude.{◌≡◌, ◌<◌, ◌+◌, ◌-◌, ◌++◌, ◌∷◌, [], ℕ, Bool, true, false, ◌||◌, List, take, length, slice_index, nat_lt, if◌then◌else◌, ◌==◌}
use Rattle.aiger_reader.specs.declared.units.UnitKind.{UnitKind}
use Rattle.aiger_reader.specs.declared.units.UnitKind.TheVariants.{Line, Delta}

-- whether a unit with so many bytes before this one is whole with it: a line ends at LF, and a delta at its first
-- byte below 128 or at its sixth byte
abbrev pub ends_with : UnitKind → ℕ → ℕ → Bool
ends_with Line before byte = byte == 10
ends_with Delta before byte = nat_lt byte 128 || (before + 1) == 6

-- the units that bytes complete, after units that are whole and one that has begun; the kind of the next unit is
-- told by the units before it
abbrev pub units_after : (List (List ℕ) → UnitKind) → List (List ℕ) → List ℕ → List ℕ → List (List ℕ)
units_after kind before begun [] = []
units_after kind before begun (byte ∷ bytes) =
    if ends_with (kind before) (length begun) byte
    then (begun ++ byte ∷ []) ∷ units_after kind (before ++ (begun ++ byte ∷ []) ∷ []) [] bytes
    else units_after kind before (begun ++ byte ∷ []) bytes

-- what they leave of the last unit
abbrev pub begun_after : (List (List ℕ) → UnitKind) → List (List ℕ) → List ℕ → List ℕ → List ℕ
begun_after kind before begun [] = begun
begun_after kind before begun (byte ∷ bytes) =
    if ends_with (kind before) (length begun) byte
    then begun_after kind (before ++ (begun ++ byte ∷ []) ∷ []) [] bytes
    else begun_after kind before (begun ++ byte ∷ []) bytes

-- bytes without their last one, where it is this byte
abbrev pub without_last : ℕ → List ℕ → List ℕ
without_last byte bytes =
    if slice_index bytes (length bytes - 1) == byte then take (length bytes - 1) bytes else bytes

-- the line of a unit: without its LF, and then without one CR
abbrev pub line_of : List ℕ → List ℕ
line_of unit = without_last 13 (without_last 10 unit)

-- no byte of the piece completes the unit
abbrev pub HasNoEnd : UnitKind → ℕ → List ℕ → Type 0
HasNoEnd kind begun piece = (k : ℕ) → k < length piece → ends_with kind (begun + k) (slice_index piece k) ≡ false

-- the place of the first byte that does
pub record IsFirstEnd (kind : UnitKind) (begun : ℕ) (piece : List ℕ) (end : ℕ) : Type 0 where
  pub within : end < length piece
  pub ends : ends_with kind (begun + end) (slice_index piece end) ≡ true
  pub before : (k : ℕ) → k < end → ends_with kind (begun + k) (slice_index piece k) ≡ false
