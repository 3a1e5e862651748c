-- Small graphs, and facts on them that show what the definitions mean.
use Rattle.std.specs.Prelude.{[], ◌∷◌, false, true}
use Rattle.cell_netlist.specs.declared.kinds.Ask.{Ask}
use Rattle.cell_netlist.specs.declared.kinds.Ask.TheVariants.{Pos, Neg, Both}
use Rattle.aig_core.specs.Folds.{positive, complement, zero_literal, one_literal}
use Rattle.graph_build.specs.Built.{PlainBuilt}
use Rattle.graph_build.specs.Examples.{adder_built}
use Rattle.rail_demand.specs.Demands.{PlainDemand, IsDemand}

-- of the half adder both rails of the inputs and of the carry, the negative rail of node 4, and the positive rail of the sum
abbrev pub adder_rails : PlainDemand
adder_rails =
    record { positive = false ∷ true ∷ true ∷ true ∷ false ∷ true ∷ []; negative = false ∷ true ∷ true ∷ true ∷ true ∷ false ∷ [] }

-- three latches, which are nodes 1 to 3: the first holds 0 next, the second holds the first next, and the third holds the complement of the first next; the output is the complement of the second
abbrev pub chain_built : PlainBuilt
chain_built =
    record {
      graph = record { inputs = 0; latches = 3; pairs = [] };
      outputs = complement (positive 2) ∷ [];
      nexts =
          zero_literal ∷ positive 1 ∷ complement (positive 1) ∷ [];
      inits = false ∷ false ∷ false ∷ [];
    }

-- the negative rail of the second latch, and through it the positive rails of the first latch and of the constant; none of the third
abbrev pub chain_rails : PlainDemand
chain_rails =
    record { positive = true ∷ true ∷ false ∷ false ∷ []; negative = false ∷ false ∷ true ∷ false ∷ [] }

-- the one output is the constant 1, which is the complement of node 0
abbrev pub one_built : PlainBuilt
one_built =
    record { graph = record { inputs = 0; latches = 0; pairs = [] }; outputs = one_literal ∷ []; nexts = []; inits = [] }

-- the positive rail of the constant 1 is the negative rail of node 0, and the other way round
abbrev pub one_rails : Ask → PlainDemand
one_rails Pos = record { positive = false ∷ []; negative = true ∷ [] }
one_rails Neg = record { positive = true ∷ []; negative = false ∷ [] }
one_rails Both = record { positive = true ∷ []; negative = true ∷ [] }

-- these rails are needed, and no others: those of the half adder and of the chain where positive rails are asked for, and those of the constant for each ask
pub record RailsAreJudged : Type 0 where
  pub adder : IsDemand adder_built Pos adder_rails
  pub chain : IsDemand chain_built Pos chain_rails
  pub one : (ask : Ask) → IsDemand one_built ask (one_rails ask)
