-- The literals of cubes and equations in a graph.
use Rattle.std.specs.Prelude.{◌≡◌, ℕ, ◌+◌, ◌<◌, List, Bool, ◌&&◌, ◌||◌, drop, map}
use Rattle.std.specs.List.{list_any}
use Rattle.pulse_ids.specs.Ids.{Lit, NodeLit}
use Rattle.aig_core.specs.Graphs.{PlainGraph, count_of}
use Rattle.aig_core.specs.Values.{value_of}
use Rattle.source_machine.specs.Machines.{literal_of}
use Rattle.source_machine.specs.Fitting.{size_of_cubes}
use Rattle.source_machine.specs.Runs.{cube_value}
use Rattle.graph_build.specs.Literals.{net_value, Grew}

-- in the grown graph the literal has the given value for each state and vector
pub record IsLiteralOf (most : ℕ) (old new : PlainGraph) (value : List Bool → List Bool → Bool) (literal : NodeLit) : Type 0 where
  pub grew : Grew most old new
  pub within : literal.id.number < count_of new
  pub value_is : (state vector : List Bool) → value_of new state vector literal ≡ value state vector

-- a literal joined with the rest of the cube is worth the whole cube, after so many conjunctions
pub record IsCubeSoFar (literals : List NodeLit) (cube : List Lit) (old : PlainGraph) (index : ℕ) (new : PlainGraph) (literal : NodeLit) : Type 0 where
  pub grew : Grew index old new
  pub within : literal.id.number < count_of new
  pub joined : (state vector : List Bool) →
      (value_of new state vector literal && cube_value (net_value old literals state vector) (map literal_of (drop index cube))) ≡ cube_value
      (net_value old literals state vector) (map literal_of cube)

-- a literal joined with the rest of the cubes is worth all cubes, and the room that the rest needs is left
pub record AreCubesSoFar (literals : List NodeLit) (cubes : List (List Lit)) (old : PlainGraph) (index : ℕ) (new : PlainGraph) (literal : NodeLit) : Type 0 where
  pub spent : ℕ
  pub grew : Grew spent old new
  pub left : spent + size_of_cubes (map (map literal_of) (drop index cubes)) ≡ size_of_cubes (map (map literal_of) cubes)
  pub within : literal.id.number < count_of new
  pub joined : (state vector : List Bool) →
      (value_of new state vector literal || list_any (cube_value (net_value old literals state vector)) (map (map literal_of) (drop index cubes))) ≡ list_any
      (cube_value (net_value old literals state vector)) (map (map literal_of) cubes)
