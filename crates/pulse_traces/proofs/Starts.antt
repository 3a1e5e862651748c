-- Simulations begin at the start of their netlist.
use Rattle.std.proofs.Common.{◌≡◌, ℕ, Bool, List, Result, subst}
use Rattle.std.specs.declared.option.Option.{Option}
use Rattle.byte_ports.specs.Writing.{WritesText}
use Rattle.cell_netlist.specs.Netlists.{PlainNetlist}
use Rattle.pulse_world.specs.Worlds.{PlainWorld}
use Rattle.schedule_replay.specs.Orders.{Cycle}
use Rattle.pulse_traces.specs.declared.orders.DeliveryOrder.{DeliveryOrder}
use Rattle.pulse_traces.specs.declared.scripts.CycleFault.{CycleFault}
use Rattle.pulse_traces.specs.declared.pulse_counts.PulseCounts.{PulseCounts}
use Rattle.pulse_traces.specs.CycleCounts.{AreCounts, CountsCycles, CountsSimulation}
use Rattle.pulse_traces.specs.Scripts.{WritesUpTo, WritesReplay, without_fault}
use Rattle.pulse_traces.specs.Simulations.{IsStart, WritesCycles, WritesSimulation}
use Rattle.pulse_traces.specs.SimulationTexts.{simulation_text}

pub from-start : {E : Type 0} (order : DeliveryOrder) (trace : Bool) (world : PlainWorld) (net : PlainNetlist) (vectors : List (List Bool)) (old new : Option (List ℕ))
    (before now : ℕ) (result : Result Unit E) → world.net ≡ net → IsStart world.net world → WritesCycles order trace world vectors old new before now result
    → WritesSimulation order trace net vectors old new before now result
from-start order trace world net vectors old new before now result same start wrote = record {
  cycles = wrote.cycles;
  simulated = record { first = world; starts = subst (λ n. IsStart n world) same start; last = wrote.after; of_vectors = wrote.of_vectors; made = wrote.made };
  wrote = subst (λ n. WritesText old new before now result (simulation_text trace n wrote.cycles)) same wrote.wrote;
}

pub counts-from-start : (order : DeliveryOrder) (world : PlainWorld) (net : PlainNetlist) (vectors : List (List Bool)) (counts : PulseCounts) → world.net ≡ net
    → IsStart world.net world → CountsCycles order world vectors counts → CountsSimulation order net vectors counts
counts-from-start order world net vectors counts same start made = record {
  cycles = made.cycles;
  simulated = record { first = world; starts = subst (λ n. IsStart n world) same start; last = made.after; of_vectors = made.of_vectors; made = made.made };
  counted = subst (λ (n : PlainNetlist). AreCounts n.output_rails made.cycles counts) same made.counted;
}

pub replay-from-start : {E : Type 0} (trace : Bool) (world : PlainWorld) (net : PlainNetlist) (asked : List Cycle) (old new : Option (List ℕ)) (before now : ℕ)
    (result : Result (Option CycleFault) E) → world.net ≡ net → IsStart world.net world → WritesUpTo trace world asked old new before now result
    → WritesReplay trace net asked old new before now result
replay-from-start trace world net asked old new before now result same start wrote = record {
  made = wrote.made;
  fault = wrote.fault;
  replayed = record { first = world; starts = subst (λ n. IsStart n world) same start; up_to = wrote.up_to };
  tells = wrote.tells;
  wrote = subst (λ n. WritesText old new before now (without_fault result) (simulation_text trace n wrote.made)) same wrote.wrote;
}
