-- Netlists that are lean, and netlists that are not.
use Rattle.std.specs.Prelude.{true, false, [], ◌∷◌}
use Rattle.pulse_ids.specs.declared.literals.Sign.TheVariants.{Pos, Neg}
use Rattle.cell_netlist.specs.declared.kinds.Role.TheVariants.{Front, Back, Const}
use Rattle.cell_netlist.specs.Netlists.{PlainNetlist}
use Rattle.cell_netlist.specs.Sound.{IsSound}
use Rattle.cell_netlist.specs.Lean.{IsLean}
use Rattle.cell_netlist.specs.ExampleNetlists.{droc, fa, la, on, plain, rail, split, two_rails, unused}

-- a wire for four readers as a chain of splitters
abbrev pub chain_of_four : PlainNetlist
chain_of_four = plain 1 4 (rail 0 Pos 0 ∷ [])
    (split 0 1 2 ∷ split 2 3 4 ∷ split 4 5 6 ∷ [])
    (rail 0 Pos 1 ∷ rail 1 Pos 3 ∷ rail 2 Pos 5 ∷ rail 3 Pos 6 ∷ [])

-- the same as a balanced tree
abbrev pub tree_of_four : PlainNetlist
tree_of_four = plain 1 4 (rail 0 Pos 0 ∷ [])
    (split 0 1 2 ∷ split 1 3 4 ∷ split 2 5 6 ∷ [])
    (rail 0 Pos 3 ∷ rail 1 Pos 4 ∷ rail 2 Pos 5 ∷ rail 3 Pos 6 ∷ [])

-- two LA cells on the same pair of roots
abbrev pub pair_twice : PlainNetlist
pair_twice = plain 2 2 two_rails
    (split 0 2 3 ∷ split 1 4 5 ∷ la 2 4 6 ∷ la 5 3 7 ∷ [])
    (rail 0 Pos 6 ∷ rail 1 Pos 7 ∷ [])

-- a gate on one root twice
abbrev pub root_twice : PlainNetlist
root_twice = plain 1 1 (rail 0 Pos 0 ∷ []) (split 0 1 2 ∷ fa 1 2 3 ∷ []) (rail 0 Pos 3 ∷ [])

-- a gate on both rails of a port
abbrev pub port_twice : PlainNetlist
port_twice = plain 1 1 (rail 0 Pos 0 ∷ rail 0 Neg 1 ∷ []) (la 0 1 2 ∷ []) (rail 0 Pos 2 ∷ [])

-- a gate on a constant
abbrev pub with_constant : PlainNetlist
with_constant = plain 1 1 (rail 0 Pos 0 ∷ []) (droc Const true 2 (on 1) (on 2) ∷ la 0 1 3 ∷ []) (rail 0 Pos 3 ∷ [])

-- a gate on both outputs of a DROC
abbrev pub droc_twice : PlainNetlist
droc_twice = plain 0 0 [] (droc Back false 3 (on 0) (on 1) ∷ la 0 1 2 ∷ droc Front true 2 (on 3) unused ∷ []) []

-- a wire that serves no output rail
abbrev pub useless : PlainNetlist
useless = plain 0 0 [] (droc Const true 0 unused (on 0) ∷ []) []

-- a sound netlist that is not lean
pub record IsSoundNotLean (net : PlainNetlist) : Type 0 where
  pub sound : IsSound net
  pub not_lean : IsLean net → ⊥

-- each property of leanness is broken by some sound netlist, and a balanced tree keeps it
abbrev pub LeannessIsSeen : Type 0
LeannessIsSeen = IsSoundNotLean chain_of_four × (IsSound tree_of_four × IsLean tree_of_four)
    × IsSoundNotLean pair_twice × IsSoundNotLean root_twice × IsSoundNotLean port_twice × IsSoundNotLean with_constant
    × IsSoundNotLean droc_twice × IsSoundNotLean useless
