-- Input rails of one port and sign, and the keys that bring them together.
use Rattle.std.specs.Prelude.{◌≡◌, ◌<◌, ◌+◌, ◌*◌, ◌/◌, ◌%◌, ℕ, min, Option, Some, None, List, [], ◌∷◌, slice_get, slice_index}
use Rattle.pulse_ids.specs.declared.literals.Sign.{Sign}
use Rattle.pulse_ids.specs.declared.literals.Sign.TheVariants.{Pos, Neg}
use Rattle.cell_netlist.specs.declared.lines.Rail.{Rail}
use Rattle.cell_netlist.specs.Netlists.{most_lines}

-- an earlier rail has the same port and sign
abbrev pub IsTwice : List Rail → ℕ → Type 0
IsTwice rails later =
    (first : ℕ) × (rail : Rail) × (other : Rail) × (first < later) × (slice_get rails first ≡ Some rail)
    × (slice_get rails later ≡ Some other) × (rail.port ≡ other.port) × (rail.sign ≡ other.sign)

-- 0 for the positive rail and 1 for the negative one
abbrev pub sign_number : Sign → ℕ
sign_number Pos = 0
sign_number Neg = 1

-- a number for each port and sign
abbrev pub rail_number : Rail → ℕ
rail_number rail = 2 * rail.port + sign_number rail.sign

-- the number of the rail's port and sign, and below it the rail's own number
abbrev pub key_of : Rail → ℕ → ℕ
key_of rail number = rail_number rail * most_lines + number

-- the keys of rails that are numbered on from one number
abbrev pub keys_from : ℕ → List Rail → List ℕ
keys_from number [] = []
keys_from number (rail ∷ rails) = key_of rail number ∷ keys_from (number + 1) rails

-- two keys have the same port and sign
abbrev pub AreOfOneRail : ℕ → ℕ → Type 0
AreOfOneRail one other = one / most_lines ≡ other / most_lines

-- before one of the first keys that has this rail's number stands one of the same port and sign
abbrev pub IsRepeated : List ℕ → ℕ → ℕ → Type 0
IsRepeated keys count number =
    (place : ℕ) × (place + 1 < count) × AreOfOneRail (slice_index keys place) (slice_index keys (place + 1))
    × (slice_index keys (place + 1) % most_lines ≡ number)

-- the lower of a number and of one that was found before
abbrev pub lower_of : Option ℕ → ℕ → ℕ
lower_of None number = number
lower_of (Some found) number = min found number
