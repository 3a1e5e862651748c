-- What was written of one more piece, by how its writing ended.
use Rattle.std.proofs.Common.{◌≡◌, ℕ, Bool, List, Result, Ok, Err, IsOk, IsErr, ap, ◌∙◌, subst, map, arith}
use Rattle.std.specs.declared.option.Option.{Option}
use Rattle.std.specs.Io.KnownBytes.{Appends}
use Rattle.byte_ports.specs.Causes.{Rose}
use Rattle.byte_ports.specs.Prefixes.{TookPrefix}
use Rattle.byte_ports.specs.Writing.{WritesText}
use Rattle.cell_netlist.specs.declared.lines.Rail.{Rail}
use Rattle.schedule_replay.specs.Logs.{wire_number}
use Rattle.pulse_traces.specs.declared.cycles.CycleRoom.{CycleRoom}
use Rattle.pulse_traces.specs.declared.scripts.AskedCycle.{AskedCycle}
use Rattle.pulse_traces.specs.Pieces.{cycle_of_parts}
use Rattle.pulse_traces.specs.Rooms.{ShowsCycle, ShowsScript, cycle_in, cycle_asked, text_in, text_asked}
use Rattle.pulse_traces.specs.SimulationTexts.{cycle_text, digits_in}

pub whole-grown : {E : Type 0} (old new : Option (List ℕ)) (before now : ℕ) (result : Result Unit E) (text : List ℕ) → IsOk result
    → WritesText old new before now result text → Appends old new text
whole-grown old new before now (Ok u) text ok w = w.whole
whole-grown old new before now (Err x) text ok w = cc

pub failed-prefix : {E : Type 0} (old new : Option (List ℕ)) (before now : ℕ) (result : Result Unit E) (text : List ℕ) → IsErr result
    → WritesText old new before now result text → TookPrefix old new text
failed-prefix old new before now (Ok u) text err w = cc
failed-prefix old new before now (Err x) text err w = w.prefix

-- a piece failed, and so the text that it is a piece of
pub failed-text : {E F : Type 0} (old between new : Option (List ℕ)) (before then now : ℕ) (result : Result Unit E) (answer : Result Unit F) (piece text : List ℕ)
    → IsErr result → IsErr answer → then ≡ before → WritesText between new then now result piece → TookPrefix old new text → WritesText old new before now answer text
failed-text old between new before then now (Ok u) answer piece text err failed same w took = cc
failed-text old between new before then now (Err x) (Ok u) piece text err failed same w took = cc
failed-text old between new before then now (Err x) (Err y) piece text err failed same w took = record {
  whole = tt;
  prefix = took;
  cause = record { later = let l = w.cause.later in omega arith; failed = subst (λ n. Rose n now) same w.cause.failed; kept = tt };
}

-- the text of the cycle in the room
pub text-shown : (rails : List Rail) (trace : Bool) (number : ℕ) (vector : List Bool) (room : CycleRoom) → ShowsCycle rails room
    → text_in trace number room ≡ cycle_text trace rails number (cycle_in vector room)
text-shown rails trace number vector room shows =
    ap (λ digits. cycle_of_parts trace number room.excite.log.wires room.relax.log.wires digits room.relax.digits.items) shows.excite
    ∙ ap (λ digits. cycle_of_parts trace number room.excite.log.wires room.relax.log.wires (digits_in rails room.excite.log.wires) digits) shows.relax

pub text-asked : (rails : List Rail) (trace : Bool) (number : ℕ) (asked : AskedCycle) (room : CycleRoom) → ShowsScript rails asked room
    → text_asked trace number asked room ≡ cycle_text trace rails number (cycle_asked asked)
text-asked rails trace number asked room shows =
    ap (λ digits. cycle_of_parts trace number (map wire_number asked.excite.now) (map wire_number asked.relax.now) digits room.relax.digits.items) shows.excite
    ∙ ap (λ digits. cycle_of_parts trace number (map wire_number asked.excite.now) (map wire_number asked.relax.now) (digits_in rails (map wire_number asked.excite.now)) digits) shows.relax
