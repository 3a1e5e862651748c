-- What the law says of small netlists.
use Rattle.std.specs.Prelude.{◌≡◌, ℕ, zero, suc, Bool, true, false, not, ◌&&◌, Some, List, [], ◌∷◌, codes}
use Rattle.pulse_ids.specs.declared.literals.Sign.TheVariants.{Pos, Neg}
use Rattle.cell_netlist.specs.declared.kinds.Phase.{Phase}
use Rattle.cell_netlist.specs.declared.kinds.Phase.TheVariants.{Excite, Relax}
use Rattle.cell_netlist.specs.declared.kinds.Role.TheVariants.{Const}
use Rattle.pulse_ids.specs.Lists.{bit_at}
use Rattle.cell_netlist.specs.Netlists.{PlainNetlist}
use Rattle.pulse_world.specs.Delivery.{Delivers}
use Rattle.cell_netlist.specs.ExampleNetlists.{rail, on, droc, plain, toggle, half_adder}
use Rattle.cell_netlist.specs.NetRuns.{bits_in}
use Rattle.cell_netlist.specs.RailEquations.{IsNetRun}
use Rattle.cell_netlist.specs.Runs.{Stage, Moment, IsMoment}
use Rattle.cell_netlist.specs.Sound.{IsSound}
use Rattle.cell_netlist.specs.Text.{text_of}
use Rattle.cell_netlist.specs.World.{IsSettled}
use Rattle.pulse_world.specs.RailPulses.{PulsesAsItsRuns}

-- 1 where just one of two bits is 1
abbrev pub exclusive_or : Bool → Bool → Bool
exclusive_or false bit = bit
exclusive_or true bit = not bit

-- whether a number is odd
abbrev pub is_odd : ℕ → Bool
is_odd zero = false
is_odd (suc number) = not (is_odd number)

-- the sum of a vector's two bits on port 0, and their carry on port 1
abbrev pub sum_and_carry : List Bool → ℕ → Bool
sum_and_carry vector zero = exclusive_or (bit_at vector 0) (bit_at vector 1)
sum_and_carry vector (suc port) = bit_at vector 0 && bit_at vector 1

-- in each cycle the half adder delivers the sum and the carry of the cycle's vector
abbrev pub HalfAdderDelivers : Type 0
HalfAdderDelivers =
    (vectors : List (List Bool)) → Delivers half_adder vectors (λ cycle port. sum_and_carry (bits_in vectors cycle) port)

-- a constant on output 0
abbrev pub constant : Bool → PlainNetlist
constant bit = plain 0 1 [] (droc Const bit 1 (on 0) (on 1) ∷ []) (rail 0 Pos 0 ∷ [])

-- in each cycle a constant delivers its bit
abbrev pub ConstantDelivers : Type 0
ConstantDelivers = (bit : Bool) (vectors : List (List Bool)) → Delivers (constant bit) vectors (λ cycle port. bit)

-- the toggle's state on port 0, which is 1 in the odd cycles, and its complement on port 1
abbrev pub state_and_complement : ℕ → ℕ → Bool
state_and_complement cycle zero = is_odd cycle
state_and_complement cycle (suc port) = not (is_odd cycle)

-- the toggle delivers 0 and 1 in turn, and the complement
abbrev pub ToggleDelivers : Type 0
ToggleDelivers = (vectors : List (List Bool)) → Delivers toggle vectors state_and_complement

-- an inverter, which has no cell: each rail of its input is the rail of its output with the other sign
abbrev pub inverter : PlainNetlist
inverter = plain 1 1 (rail 0 Pos 0 ∷ rail 0 Neg 1 ∷ []) [] (rail 0 Pos 1 ∷ rail 0 Neg 0 ∷ [])

-- in each cycle the inverter delivers the complement of the cycle's bit
abbrev pub InverterDelivers : Type 0
InverterDelivers =
    (vectors : List (List Bool)) → Delivers inverter vectors (λ cycle port. not (bit_at (bits_in vectors cycle) 0))

-- a netlist of which both output rails are of one port and one sign, though they are on the wires of two inputs
abbrev pub twofold : PlainNetlist
twofold = plain 2 1 (rail 0 Pos 0 ∷ rail 1 Pos 1 ∷ []) [] (rail 0 Pos 0 ∷ rail 0 Pos 1 ∷ [])

-- the vector on which its wires differ
abbrev pub one_zero : List (List Bool)
one_zero = (true ∷ false ∷ []) ∷ []

-- the first rail pulses in excite and the second in relax
abbrev pub twofold_counts : Phase → List ℕ
twofold_counts Excite = 1 ∷ 0 ∷ []
twofold_counts Relax = 0 ∷ 1 ∷ []

-- It is sound, and on that vector it delivers no bit of its port, since the rails contradict each other. But the law of every
-- order says what its rails do: its equations have just one run on the vector, and each rail delivers its wire's bit.
pub record TwofoldDelivers : Type 0 where
  pub text : text_of twofold ≡ codes "xsfq 1\nports 2 1\ninput 0 p 0\ninput 1 p 1\noutput 0 p 0\noutput 0 p 1\nend\n"
  pub sound : IsSound twofold
  pub no_bits : (bit : ℕ → ℕ → Bool) → Delivers twofold one_zero bit → ⊥
  pub pulses : PulsesAsItsRuns twofold
  pub some_run : IsNetRun twofold one_zero one_zero
  pub one_run : (run : List (List Bool)) → IsNetRun twofold one_zero run → run ≡ one_zero
  pub counts : (moment : Moment) → IsMoment twofold one_zero moment → (stage : Stage) → moment.stage ≡ Some stage → IsSettled moment.state
      → moment.state.counted ≡ twofold_counts stage.phase
