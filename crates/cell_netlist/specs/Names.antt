-- Named ports with their names.
use Rattle.std.specs.Prelude.{◌≤◌, ◌<◌, ◌+◌, ℕ, Option, Some, None, List, [], ◌∷◌, if◌then◌else◌, ◌==◌}
use Rattle.pulse_ids.specs.Lists.{IsIn}
use Rattle.pulse_ids.specs.Names.{IsPortName}

-- named ports, rising from a lowest one and below the number of ports
abbrev pub AreNamesFrom : ℕ → ℕ → List (ℕ × List ℕ) → Type 0
AreNamesFrom low ports [] = Unit
AreNamesFrom low ports (named ∷ rest) = (low ≤ named.0) × (named.0 < ports) × IsPortName named.1 × AreNamesFrom (named.0 + 1) ports rest

-- the ports of the names rise
abbrev pub HasRisingPorts : List (ℕ × List ℕ) → Type 0
HasRisingPorts names = (ports : ℕ) × AreNamesFrom 0 ports names

-- the name of a port, which the first named port that is this one has
abbrev pub name_at : List (ℕ × List ℕ) → ℕ → Option (List ℕ)
name_at [] port = None
name_at (named ∷ rest) port = if port == named.0 then Some named.1 else name_at rest port

-- a port is above every named one
abbrev pub IsAboveAll : ℕ → List (ℕ × List ℕ) → Type 0
IsAboveAll port names = (named : ℕ × List ℕ) → IsIn named names → named.0 < port
