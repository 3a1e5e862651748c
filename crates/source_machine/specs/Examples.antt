-- Small machines, and facts on them that show what the definitions mean.
use Rattle.std.specs.Prelude.{◌≡◌, ℕ, List, [], ◌∷◌, Bool, true, false, not, ◌||◌, map, codes}
use Rattle.std.specs.declared.option.Option.TheVariants.{None}
use Rattle.pulse_ids.specs.Names.{IsPortName}
use Rattle.pulse_ids.specs.Lists.{bit_at}
use Rattle.source_machine.specs.Machines.{PlainLiteral, PlainLatch, PlainEquation, PlainMachine}
use Rattle.source_machine.specs.Fitting.{Fits, size_of}
use Rattle.source_machine.specs.Runs.{equation_value, Agrees, IsRun, output_bits}
use Rattle.source_machine.specs.Grounding.{driven_twice, undriven, ungrounded, IsFirstRefusal, IsWellFounded}

-- a net's bit
abbrev pub plain : ℕ → PlainLiteral
plain net = record { net = net; negated = false }

-- the complement of a net's bit
abbrev pub inverse : ℕ → PlainLiteral
inverse net = record { net = net; negated = true }

-- a machine whose ports have no names
abbrev pub nameless : ℕ → List ℕ → List PlainLatch → List PlainEquation → List PlainLiteral → PlainMachine
nameless nets inputs latches equations outputs = record {
  nets = nets;
  inputs = inputs;
  latches = latches;
  equations = equations;
  outputs = outputs;
  input_names = map (λ port. None) inputs;
  output_names = map (λ port. None) outputs;
}

-- one latch, from 0, whose next state is the complement
abbrev pub toggle : PlainMachine
toggle =
    nameless 1 [] (record { out = 1; init = false; next = inverse 1 } ∷ []) [] (plain 1 ∷ [])

-- its bits are 0, 1, 0, and so are those of its net 1
abbrev pub TogglesThrice : Type 0
TogglesThrice =
    IsRun toggle ([] ∷ [] ∷ [] ∷ []) ((false ∷ false ∷ []) ∷ (false ∷ true ∷ []) ∷ (false ∷ false ∷ []) ∷ [])

-- net 4 is the carry of nets 1 and 2, and net 3 is their sum, by way of net 4
abbrev pub half_adder : PlainMachine
half_adder =
    nameless 4 (1 ∷ 2 ∷ []) [] (record { net = 3; on = true; cubes = (plain 1 ∷ inverse 4 ∷ []) ∷ (plain 2 ∷ inverse 4 ∷ []) ∷ [] } ∷ record
    { net = 4; on = true; cubes = (plain 1 ∷ plain 2 ∷ []) ∷ [] } ∷ []) (plain 3 ∷ plain 4 ∷ [])

-- it has 3 cubes with 6 literals, is in range and is well founded
pub record HalfAdderIsAccepted : Type 0 where
  pub size : size_of half_adder ≡ 9
  pub fits : Fits half_adder
  pub founded : IsWellFounded half_adder

-- on 1 and 1 the sum is 0 and the carry 1, and on 0 and 1 the sum is 1 and the carry 0
pub record AddsTwoBits : Type 0 where
  pub both : Agrees half_adder [] (true ∷ true ∷ []) (false ∷ true ∷ true ∷ false ∷ true ∷ [])
  pub both_out : output_bits half_adder (false ∷ true ∷ true ∷ false ∷ true ∷ []) ≡ false ∷ true ∷ []
  pub one : Agrees half_adder [] (false ∷ true ∷ []) (false ∷ false ∷ true ∷ true ∷ false ∷ [])
  pub one_out : output_bits half_adder (false ∷ false ∷ true ∷ true ∷ false ∷ []) ≡ true ∷ false ∷ []

-- the value off the one cube in which both nets are 0 is the or of them
abbrev pub OffSetIsOr : Type 0
OffSetIsOr =
    (a b : Bool) → equation_value (bit_at (false ∷ a ∷ b ∷ [])) (record { net = 3; on = false; cubes = (inverse 1 ∷ inverse 2 ∷ []) ∷ [] }) ≡ (a || b)

-- without a cube the value is the opposite of `on`, whatever the nets' bits
abbrev pub NoCubeIsOff : Type 0
NoCubeIsOff =
    (on : Bool) (bit : ℕ → Bool) → equation_value bit (record { net = 1; on = on; cubes = [] }) ≡ not on

-- with a cube without literals the value is `on`, whatever the nets' bits
abbrev pub EmptyCubeIsOn : Type 0
EmptyCubeIsOn =
    (on : Bool) (bit : ℕ → Bool) → equation_value bit (record { net = 1; on = on; cubes = [] ∷ [] }) ≡ on

-- nets 3 and 2 are each the other's bit
abbrev pub ring : PlainMachine
ring =
    nameless 3 [] [] (record { net = 3; on = true; cubes = (plain 2 ∷ []) ∷ [] } ∷ record { net = 2; on = true; cubes = (plain 3 ∷ []) ∷ [] } ∷ []) (plain 3 ∷ [])

-- the lower net of a ring is refused
abbrev pub RingIsRefused : Type 0
RingIsRefused = IsFirstRefusal ring (ungrounded 2)

-- a latch and an equation drive net 2, and nothing drives net 1, which the equation uses
abbrev pub clash : PlainMachine
clash =
    nameless 3 (3 ∷ []) (record { out = 2; init = false; next = plain 3 } ∷ []) (record { net = 2; on = true; cubes = (plain 1 ∷ []) ∷ [] } ∷ []) (plain 2 ∷ [])

-- a net that is driven twice is refused before one that nothing drives
abbrev pub ClashIsRefused : Type 0
ClashIsRefused = IsFirstRefusal clash (driven_twice 2)

-- nothing drives net 1, a latch's next state, or net 2, an output
abbrev pub loose : PlainMachine
loose =
    nameless 3 [] (record { out = 3; init = false; next = plain 1 } ∷ []) [] (plain 2 ∷ plain 0 ∷ [])

-- the lowest used net that nothing drives is refused
abbrev pub LooseIsRefused : Type 0
LooseIsRefused = IsFirstRefusal loose (undriven 1)

-- nothing drives net 1, and nothing uses it
abbrev pub spare : PlainMachine
spare = nameless 2 (2 ∷ []) [] [] (plain 2 ∷ plain 0 ∷ [])

-- a net that nothing drives or uses is accepted, and has 0
pub record SpareIsAccepted : Type 0 where
  pub founded : IsWellFounded spare
  pub zero : (state vector valuation : List Bool) → Agrees spare state vector valuation → bit_at valuation 1 ≡ false

-- `a b` is the name of a port; no bytes, and `a` before LF, are none
pub record NamesAreJudged : Type 0 where
  pub named : IsPortName (codes "a b")
  pub empty : IsPortName [] → ⊥
  pub broken : IsPortName (97 ∷ 10 ∷ []) → ⊥
