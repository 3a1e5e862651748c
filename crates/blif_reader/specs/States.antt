-- What the logical lines so far have built.
use Rattle.std.specs.Prelude.{ℕ, ◌++◌, Bool, true, false, List, [], ◌∷◌, Option, Some, None}
use Rattle.source_machine.specs.Machines.{PlainEquation, PlainMachine}
use Rattle.source_machine.specs.Additions.{bare, with_equation, bare_equation}
use Rattle.blif_reader.specs.declared.latch_kinds.LatchKind.{LatchKind}

-- an equation to which rows may still come, and the nets of its columns
pub record OpenEquation : Type 0 where
  pub equation : PlainEquation
  pub columns : List ℕ

-- whether `.model` and `.end` came; the names of the nets by first appearance; the type and control that the first
-- typed latch fixes; the clock's name, and whether it stands in `.clock`; the number of rows and row literals; the
-- equation to which rows may still come, and the machine without it and without the number of its nets
pub record BlifState : Type 0 where
  pub modelled : Bool
  pub ended : Bool
  pub nets : List (List ℕ)
  pub typed : Option LatchKind
  pub clock : Option (List ℕ)
  pub clocked : Bool
  pub size : ℕ
  pub unended : Option OpenEquation
  pub machine : PlainMachine

-- nothing was read
abbrev pub nothing_read : BlifState
nothing_read = record {
  modelled = false;
  ended = false;
  nets = [];
  typed = None;
  clock = None;
  clocked = false;
  size = 0;
  unended = None;
  machine = bare 0;
}

abbrev pub with_open : Option OpenEquation → PlainMachine → PlainMachine
with_open None machine = machine
with_open (Some unended) machine = with_equation machine unended.equation

-- no further rows come to the last equation
abbrev pub closed : BlifState → BlifState
closed state = record state { machine = with_open state.unended state.machine; unended = None }

-- a `.names` line's first name is the net of its equation, and each further one makes the one before it a column
abbrev pub begun_equation : ℕ → OpenEquation
begun_equation net = record { equation = bare_equation net true; columns = [] }

abbrev pub with_column : Option OpenEquation → ℕ → OpenEquation
with_column None net = begun_equation net
with_column (Some unended) net =
    record { equation = record unended.equation { net = net }; columns = unended.columns ++ unended.equation.net ∷ [] }
