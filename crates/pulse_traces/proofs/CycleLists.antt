-- Cycles that are made one after the other, and one more of them.
use Rattle.std.proofs.Common.{◌≡◌, ◌+◌, ℕ, suc, Bool, List, [], ◌∷◌, ◌++◌, length, ap, sym, ◌∙◌, subst, arith, refl, append_assoc, append-nil}
use Rattle.cell_netlist.specs.declared.lines.Rail.{Rail}
use Rattle.pulse_world.specs.Worlds.{PlainWorld}
use Rattle.schedule_replay.specs.Orders.{Cycle, MakesCycles}
use Rattle.pulse_traces.specs.CycleCounts.{pulses_in, deliveries_in, ones_in}
use Rattle.pulse_traces.specs.SimulationTexts.{cycle_text, text_from}

-- the step after cycles
abbrev pub step_after : ℕ → List Cycle → ℕ
step_after step [] = step
step_after step (cycle ∷ cycles) = step_after (step + length cycle.excite + length cycle.relax) cycles

pub cycles-append : (names : ℕ → ℕ → ℕ → Type 0) (step : ℕ) (before mid after : PlainWorld) (first second : List Cycle) → MakesCycles names step before first mid
    → MakesCycles names (step_after step first) mid second after → MakesCycles names step before (first ++ second) after
cycles-append names step before mid after [] second h k = subst (λ w. MakesCycles names step w second after) h k
cycles-append names step before mid after (cycle ∷ first) second (next, one, rest) k =
    (next, one, cycles-append names (step + length cycle.excite + length cycle.relax) next mid after first second rest k)

pub step-append : (step : ℕ) (first second : List Cycle) → step_after step (first ++ second) ≡ step_after (step_after step first) second
step-append step [] second = refl
step-append step (cycle ∷ first) second = step-append (step + length cycle.excite + length cycle.relax) first second

-- the text of cycles and of those after them
pub text-append : (trace : Bool) (rails : List Rail) (number : ℕ) (first second : List Cycle)
    → text_from trace rails number (first ++ second) ≡ text_from trace rails number first ++ text_from trace rails (number + length first) second
text-append trace rails number [] second = ap (λ n. text_from trace rails n second) (omega arith)
text-append trace rails number (cycle ∷ first) second =
    let rest = text-append trace rails (number + 1) first second in
    let same : number + 1 + length first ≡ number + suc (length first) = omega arith in
    ap (λ l. cycle_text trace rails number cycle ++ l) (rest ∙ ap (λ n. text_from trace rails (number + 1) first ++ text_from trace rails n second) same)
    ∙ sym (append_assoc (cycle_text trace rails number cycle) (text_from trace rails (number + 1) first) (text_from trace rails (number + suc (length first)) second))

pub text-all : (trace : Bool) (rails : List Rail) (first second : List Cycle)
    → text_from trace rails 0 (first ++ second) ≡ text_from trace rails 0 first ++ text_from trace rails (length first) second
text-all trace rails first second =
    let same : 0 + length first ≡ length first = omega arith in
    text-append trace rails 0 first second ∙ ap (λ n. text_from trace rails 0 first ++ text_from trace rails n second) same

pub text-more : (trace : Bool) (rails : List Rail) (cycles : List Cycle) (cycle : Cycle)
    → text_from trace rails 0 (cycles ++ cycle ∷ []) ≡ text_from trace rails 0 cycles ++ cycle_text trace rails (length cycles) cycle
text-more trace rails cycles cycle =
    text-all trace rails cycles (cycle ∷ []) ∙ ap (λ l. text_from trace rails 0 cycles ++ l) (append-nil (cycle_text trace rails (length cycles) cycle))

-- the step after cycles counts their deliveries
steps-on : (step : ℕ) (cycles : List Cycle) → step_after step cycles ≡ step + deliveries_in cycles
steps-on step [] = omega arith
steps-on step (cycle ∷ cycles) = let rest = steps-on (step + length cycle.excite + length cycle.relax) cycles in omega arith

pub step-deliveries : (cycles : List Cycle) → step_after 0 cycles ≡ deliveries_in cycles
step-deliveries cycles = steps-on 0 cycles ∙ omega arith

-- the pulses of one more cycle
pub ones-more : (rails : List Rail) (cycles : List Cycle) (cycle : Cycle) → ones_in rails (cycles ++ cycle ∷ []) ≡ ones_in rails cycles + pulses_in rails cycle.excite
ones-more rails [] cycle = omega arith
ones-more rails (first ∷ cycles) cycle = let rest = ones-more rails cycles cycle in omega arith
