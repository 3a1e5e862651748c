-- What the cells of a netlist keep of the latches of its machine.
use Rattle.std.specs.Prelude.{◌≡◌, ℕ, Bool, false, Some, List, [], option_map, unwrap_or, slice_get, slice_index_or}
use Rattle.pulse_ids.specs.Lists.{IsIn, bit_at}
use Rattle.source_machine.specs.Laws.{AreVectors}
use Rattle.source_machine.specs.Machines.{PlainMachine}
use Rattle.source_machine.specs.Runs.{IsRun, initial_state, next_state}
use Rattle.cell_netlist.specs.declared.kinds.Phase.TheVariants.{Relax}
use Rattle.cell_netlist.specs.declared.lines.StateLine.{StateLine}
use Rattle.cell_netlist.specs.Netlists.{PlainNetlist}
use Rattle.cell_netlist.specs.Runs.{Stage, Moment, IsMoment}
use Rattle.cell_netlist.specs.World.{State, start, IsSettled}

-- the bit of the cell that a state line names
abbrev pub held_bit : State → StateLine → Bool
held_bit state line = unwrap_or (option_map (λ kept. kept.bit) (slice_get state.cell_states line.cell.number)) false

-- The cells that the state lines name keep the latches of the machine, under every order of deliveries:
pub record KeepsLatches (machine : PlainMachine) (net : PlainNetlist) : Type 0 where
  -- at the start each has its latch's first bit
  pub first : (line : StateLine) → IsIn line net.states → held_bit (start net) line ≡ bit_at (initial_state machine) line.latch
  -- and where the relax phase of a cycle is settled, the value of its latch's next literal in that cycle
  pub later : (vectors valuations : List (List Bool)) → AreVectors machine vectors → IsRun machine vectors valuations
      → (moment : Moment) → IsMoment net vectors moment → (stage : Stage) → moment.stage ≡ Some stage → stage.phase ≡ Relax → IsSettled moment.state
      → (line : StateLine) → IsIn line net.states → held_bit moment.state line ≡ bit_at (next_state machine (slice_index_or valuations stage.cycle [])) line.latch
