-- What it means that a netlist delivers counts of pulses, bits of its output ports or the bits of its wires, under every
-- order of deliveries.
use Rattle.std.specs.Prelude.{◌≡◌, ◌≤◌, ℕ, Bool, Some, List, map, length, if◌then◌else◌}
use Rattle.cell_netlist.specs.declared.kinds.Phase.{Phase}
use Rattle.cell_netlist.specs.declared.kinds.Phase.TheVariants.{Relax}
use Rattle.cell_netlist.specs.declared.lines.Rail.{Rail}
use Rattle.pulse_ids.specs.Lists.{bit_at}
use Rattle.cell_netlist.specs.Netlists.{PlainNetlist, wire_of, number_of_wires}
use Rattle.cell_netlist.specs.World.{State, IsSettled, IsAtRest, has_sign, pulses_in, Upset, Delivered, deliver}
use Rattle.cell_netlist.specs.Runs.{Stage, Moment, IsMoment}
use Rattle.cell_netlist.specs.NetRuns.{bits_in}

-- A netlist delivers so many pulses on its output rails in each phase of each cycle, on a list of vectors. At every moment
-- of every run:
pub record DeliversCounts (net : PlainNetlist) (vectors : List (List Bool)) (counts_due : Stage → List ℕ) : Type 0 where
  -- no delivery is an upset, and each pending pulse can be delivered
  pub no_upset : (moment : Moment) → IsMoment net vectors moment → (wire : ℕ) → deliver net moment.state wire ≡ Upset → ⊥
  pub live : (moment : Moment) → IsMoment net vectors moment → (wire : ℕ) → (moment.state.pending wire ≡ 0 → ⊥)
      → (after : State) × (deliver net moment.state wire ≡ Delivered after)
  -- the phase has delivered at most as many pulses as there are wires
  pub few : (moment : Moment) → IsMoment net vectors moment → length moment.delivered ≤ number_of_wires net
  -- where the phase is settled, each output rail has counted what is due in it
  pub counts : (moment : Moment) → IsMoment net vectors moment → (stage : Stage) → moment.stage ≡ Some stage → IsSettled moment.state
      → moment.state.counted ≡ counts_due stage
  -- where a relax phase is settled, every LA and FA rests
  pub at_rest : (moment : Moment) → IsMoment net vectors moment → (stage : Stage) → moment.stage ≡ Some stage → stage.phase ≡ Relax
      → IsSettled moment.state → IsAtRest moment.state

-- how often each output rail pulses in a phase, where a port's bit is given: once in excite where the bit has
-- the rail's sign, and otherwise once in relax
abbrev pub due_counts : (ℕ → Bool) → Phase → List Rail → List ℕ
due_counts bit phase rails = map (λ rail. if pulses_in phase (has_sign (bit rail.port) rail.sign) then 1 else 0) rails

-- the counts of each phase by bits of the output ports, `bit t k` for port k in cycle t
abbrev pub port_counts : PlainNetlist → (ℕ → ℕ → Bool) → Stage → List ℕ
port_counts net bit stage = due_counts (bit stage.cycle) stage.phase net.output_rails

-- A netlist delivers bits of its output ports: each output rail pulses once in a cycle, in excite where its port's bit has
-- its sign, and else in relax.
abbrev pub Delivers : PlainNetlist → List (List Bool) → (ℕ → ℕ → Bool) → Type 0
Delivers net vectors bit = DeliversCounts net vectors (port_counts net bit)

-- how often each output rail pulses in a phase, by the bits of the wires: once in excite where its wire's bit
-- is 1, and otherwise once in relax
abbrev pub rail_counts : List Bool → Phase → List Rail → List ℕ
rail_counts bits phase rails = map (λ rail. if pulses_in phase (bit_at bits (wire_of rail)) then 1 else 0) rails

-- the counts of each phase by a run with one list of bits a cycle
abbrev pub wire_counts : PlainNetlist → List (List Bool) → Stage → List ℕ
wire_counts net run stage = rail_counts (bits_in run stage.cycle) stage.phase net.output_rails

-- A netlist delivers the bits of its wires by such a run: each output rail pulses once in a cycle, in excite where its
-- wire's bit is 1, and else in relax.
abbrev pub DeliversRails : PlainNetlist → List (List Bool) → List (List Bool) → Type 0
DeliversRails net vectors run = DeliversCounts net vectors (wire_counts net run)
