-- Machines that are built line by line.
use Rattle.std.specs.Prelude.{ℕ, Bool, List, [], ◌∷◌, ◌++◌, set}
use Rattle.std.specs.declared.option.Option.{Option}
use Rattle.std.specs.declared.option.Option.TheVariants.{Some}
use Rattle.source_machine.specs.Machines.{PlainLiteral, PlainLatch, PlainEquation, PlainMachine}

-- an equation without cubes
abbrev pub bare_equation : ℕ → Bool → PlainEquation
bare_equation net on = record { net = net; on = on; cubes = [] }

-- one more cube
abbrev pub with_cube : PlainEquation → List PlainLiteral → PlainEquation
with_cube equation cube = record equation { cubes = equation.cubes ++ cube ∷ [] }

-- no ports, latches and equations, and so many nets
abbrev pub bare : ℕ → PlainMachine
bare nets =
    record { nets = nets; inputs = []; latches = []; equations = []; outputs = []; input_names = []; output_names = [] }

-- so many nets
abbrev pub with_nets : PlainMachine → ℕ → PlainMachine
with_nets machine nets = record machine { nets = nets }

-- one more input port, on this net
abbrev pub with_input : PlainMachine → ℕ → Option (List ℕ) → PlainMachine
with_input machine net name =
    record machine { inputs = machine.inputs ++ net ∷ []; input_names = machine.input_names ++ name ∷ [] }

-- one more latch
abbrev pub with_latch : PlainMachine → PlainLatch → PlainMachine
with_latch machine latch = record machine { latches = machine.latches ++ latch ∷ [] }

-- one more equation
abbrev pub with_equation : PlainMachine → PlainEquation → PlainMachine
with_equation machine equation = record machine { equations = machine.equations ++ equation ∷ [] }

-- one more output port, of this literal
abbrev pub with_output : PlainMachine → PlainLiteral → Option (List ℕ) → PlainMachine
with_output machine literal name =
    record machine { outputs = machine.outputs ++ literal ∷ []; output_names = machine.output_names ++ name ∷ [] }

-- the input port at this place has this name
abbrev pub with_input_name : PlainMachine → ℕ → List ℕ → PlainMachine
with_input_name machine port name = record machine { input_names = set machine.input_names port (Some name) }

-- the output port at this place has this name
abbrev pub with_output_name : PlainMachine → ℕ → List ℕ → PlainMachine
with_output_name machine port name = record machine { output_names = set machine.output_names port (Some name) }
