-- Names as lists of bytes, and which of them may name a port.
use Rattle.std.specs.Prelude.{◌≢◌, ◌≤◌, ◌<◌, ◌^◌, ℕ, List, length}
use Rattle.std.specs.List.{All}
use Rattle.pulse_ids.specs.declared.quantities.Quantity.TheVariants.{NameBytes}
use Rattle.pulse_ids.specs.Quantities.{greatest_of}

-- each number is that of a byte
abbrev pub AreBytes : List ℕ → Type 0
AreBytes bytes = All (λ byte. byte < 2 ^ 8) bytes

-- a port's name: at least one byte, at most the greatest number of them, and no line feed
pub record IsPortName (bytes : List ℕ) : Type 0 where
  pub not_empty : 1 ≤ length bytes
  pub not_long : length bytes ≤ greatest_of NameBytes
  pub no_line_feed : All (λ byte. byte ≢ 10) bytes
