-- The line of a phase's deliveries as the pieces that are written.
use Rattle.std.proofs.Common.{◌≡◌, ℕ, List, [], ◌∷◌, ◌++◌, map, decimal, ap, sym, ◌∙◌, refl, append_assoc}
use Rattle.std.specs.List.{flat_map}
use Rattle.pulse_ids.specs.Ids.{WireId}
use Rattle.cell_netlist.specs.Text.{line_of}
use Rattle.schedule_replay.specs.Logs.{wire_number}
use Rattle.pulse_traces.specs.Pieces.{spaced_wire}

-- a first word, the numbers of wires behind spaces, and LF
pub line-in-pieces : (first : List ℕ) (wires : List WireId) → line_of (first ∷ map decimal (map wire_number wires)) ≡ first ++ (flat_map spaced_wire wires ++ 10 ∷ [])
line-in-pieces first [] = refl
line-in-pieces first (wire ∷ wires) =
    ap (λ rest. first ++ 32 ∷ rest) (line-in-pieces (decimal wire.number) wires ∙ sym (append_assoc (decimal wire.number) (flat_map spaced_wire wires) (10 ∷ [])))
