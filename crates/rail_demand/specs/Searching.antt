-- The search for the needed rails: those found so far, in the order in which they were found.
use Rattle.std.specs.Prelude.{◌≡◌, ℕ, ◌+◌, ◌≤◌, ◌<◌, List, [], ◌∷◌, ◌++◌, true, false, Some, length, replicate, slice_get, slice_set, Contains}
use Rattle.pulse_ids.specs.Ids.{NodeLit}
use Rattle.pulse_ids.specs.declared.literals.Sign.{Sign}
use Rattle.pulse_ids.specs.declared.literals.Sign.TheVariants.{Pos, Neg}
use Rattle.cell_netlist.specs.declared.kinds.Ask.{Ask}
use Rattle.cell_netlist.specs.Asked.{signs_of}
use Rattle.aig_core.specs.Graphs.{count_of}
use Rattle.graph_build.specs.Built.{PlainBuilt}
use Rattle.rail_demand.specs.declared.rails.NodeRail.{NodeRail}
use Rattle.pulse_ids.specs.Literals.{rail_sign}
use Rattle.rail_demand.specs.Demands.{PlainDemand, nodes_in, is_needed, Needed, NeedsAtOnce}
use Rattle.pulse_ids.specs.Lists.{zeros_in}

-- no rail of so many nodes
abbrev pub none_of : ℕ → PlainDemand
none_of nodes = record { positive = replicate nodes false; negative = replicate nodes false }

-- the demand and one rail more
abbrev pub with_rail : PlainDemand → ℕ → Sign → PlainDemand
with_rail demand node Pos = record demand { positive = slice_set demand.positive node true }
with_rail demand node Neg = record demand { negative = slice_set demand.negative node true }

-- the rails found so far as a demand and in order, and how many there is room for
pub record Stage : Type 0 where
  pub demand : PlainDemand
  pub found : List NodeRail
  pub room : ℕ

-- the demand tells of both rails of each node, and there is room for each rail that isn't found
pub record HasRoom (stage : Stage) : Type 0 where
  pub paired : length stage.demand.negative ≡ nodes_in stage.demand
  pub few : length stage.found + (zeros_in stage.demand.positive + zeros_in stage.demand.negative) ≤ stage.room

-- the rail was found before, or is found now
pub data Finds (rail : NodeRail) (before after : Stage) : Type 0 where
  again : is_needed before.demand rail.node.number rail.sign ≡ true → after ≡ before → Finds rail before after
  first : is_needed before.demand rail.node.number rail.sign ≡ false
      → after ≡ record { demand = with_rail before.demand rail.node.number rail.sign; found = before.found ++ rail ∷ []; room = before.room } → Finds rail before after

-- the rails are found, one after the other
abbrev pub FindsAll : List NodeRail → Stage → Stage → Type 0
FindsAll [] before after = after ≡ before
FindsAll (rail ∷ rails) before after = (middle : Stage) × Finds rail before middle × FindsAll rails middle after

-- what holds whenever rails have been found
pub record IsStage (built : PlainBuilt) (stage : Stage) : Type 0 where
  pub nodes : nodes_in stage.demand ≡ count_of built.graph
  pub roomy : HasRoom stage
  pub inside : (place : ℕ) (rail : NodeRail) → slice_get stage.found place ≡ Some rail → rail.node.number < count_of built.graph
  pub listed : (node : ℕ) (sign : Sign) → is_needed stage.demand node sign ≡ true → (place : ℕ) × (rail : NodeRail) × (slice_get stage.found place ≡ Some rail)
      × (rail.node.number ≡ node) × (rail.sign ≡ sign)

-- no rail is lost
pub record Steps (built : PlainBuilt) (before after : Stage) : Type 0 where
  pub stage : IsStage built after
  pub same_room : after.room ≡ before.room
  pub kept : (node : ℕ) (sign : Sign) → is_needed before.demand node sign ≡ true → is_needed after.demand node sign ≡ true
  pub grown : (more : List NodeRail) × (after.found ≡ before.found ++ more)

-- each rail found is needed
abbrev pub AreNeeded : PlainBuilt → Ask → List NodeRail → Type 0
AreNeeded built ask found =
    (place : ℕ) (rail : NodeRail) → slice_get found place ≡ Some rail → Needed built ask rail.node.number rail.sign

-- all that a rail needs at once is found
abbrev pub IsClosedAt : PlainBuilt → PlainDemand → NodeRail → Type 0
IsClosedAt built demand rail =
    (node : ℕ) (side : Sign) → NeedsAtOnce built rail.node.number rail.sign node side → is_needed demand node side ≡ true

-- the same for each rail found before a place
abbrev pub IsClosedBefore : PlainBuilt → Stage → ℕ → Type 0
IsClosedBefore built stage done =
    (place : ℕ) (rail : NodeRail) → place < done → slice_get stage.found place ≡ Some rail → IsClosedAt built stage.demand rail

-- the asked rails of a literal are found
abbrev pub HasAsked : Ask → PlainDemand → NodeLit → Type 0
HasAsked ask demand literal =
    (sign : Sign) → Contains (signs_of ask) sign → is_needed demand literal.id.number (rail_sign literal sign) ≡ true

-- the asked rails of the outputs below a number are found
abbrev pub HasOutputs : PlainBuilt → Ask → PlainDemand → ℕ → Type 0
HasOutputs built ask demand count =
    (port : ℕ) (literal : NodeLit) → port < count → slice_get built.outputs port ≡ Some literal → HasAsked ask demand literal
