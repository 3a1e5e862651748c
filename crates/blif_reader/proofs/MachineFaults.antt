-- A machine's refusal names a net.
use Rattle.std.proofs.Common.{◌≡◌, ℕ, zero, suc, ◌≤◌, subst, map, refl, arith}
use Rattle.pulse_ids.proofs.CallerLemmas.{IsIn-right}
use Rattle.pulse_ids.proofs.CallerLemmasOnCounts.{occurrences-IsIn}
use Rattle.source_machine.specs.declared.grounding.Grounding.{Grounding}
use Rattle.source_machine.specs.declared.grounding.Grounding.TheVariants.{DoubleDriver, Undriven, Cycle, NoMemory}
use Rattle.source_machine.specs.Machines.{PlainMachine}
use Rattle.source_machine.specs.Fitting.{Fits}
use Rattle.source_machine.specs.Runs.{driven_nets}
use Rattle.source_machine.specs.Refusals.{IsRefusedFor}
use Rattle.source_machine.proofs.CallerLemmasOnRanges.{driven_numbered, used_in_range}
use Rattle.blif_reader.specs.Sources.{NamesNet}

not_zero : (n : ℕ) → (n ≡ 0 → ⊥) → 1 ≤ n
not_zero zero h = absurd (h refl)
not_zero (suc n) h = omega arith

names_net : (machine : PlainMachine) → Fits machine → (grounding : Grounding) → IsRefusedFor machine grounding → NamesNet machine.nets grounding
names_net machine fits (DoubleDriver net) h = driven_numbered machine fits net.number (occurrences-IsIn net.number (driven_nets machine) (omega (arith, h.0)))
names_net machine fits (Undriven net) h = (not_zero net.number h.1.0.0, used_in_range machine fits net.number h.1.0.1)
names_net machine fits (Cycle net) h =
    driven_numbered machine fits net.number (IsIn-right net.number machine.inputs _ (IsIn-right net.number (map (λ latch. latch.out) machine.latches) _ h.2.0.0))
names_net machine fits NoMemory h = tt

pub names_net_of : (nets : ℕ) (machine : PlainMachine) → Fits machine → machine.nets ≡ nets → (grounding : Grounding) → IsRefusedFor machine grounding → NamesNet nets grounding
names_net_of nets machine fits same grounding h = subst (λ n. NamesNet n grounding) same (names_net machine fits grounding h)
