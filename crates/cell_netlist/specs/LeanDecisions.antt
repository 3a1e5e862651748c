-- Decisions that compute, for roots and for leanness.
use Rattle.std.specs.Prelude.{◌≡◌, ℕ, zero, suc, ◌+◌, Bool, true, not, ◌&&◌, ◌||◌, Option, Some, None, List, [], ◌∷◌, ◌++◌, map, length, is_some, option_map, unwrap_or, nat_le, if◌then◌else◌, ◌==◌}
use Rattle.std.specs.List.{list_any, list_all}
use Rattle.cell_netlist.specs.declared.kinds.Role.TheVariants.{Const}
use Rattle.cell_netlist.specs.declared.lines.Rail.{Rail}
use Rattle.cell_netlist.specs.declared.lines.Cell.{Cell}
use Rattle.cell_netlist.specs.declared.lines.Cell.TheVariants.{La, Fa, Droc}
use Rattle.pulse_ids.specs.Lists.{ceil_log2}
use Rattle.cell_netlist.specs.Netlists.{PlainNetlist, wire_of, used, outs, reads, number_of_wires, IsRoot}
use Rattle.cell_netlist.specs.Lean.{IsLean, leaves}
use Rattle.cell_netlist.specs.Decisions.{all_below, all_pairs, has, is_same_sign, droc_outs, splitter_above, is_none_driven_twice}

-- how many items have the test
abbrev pub how_many : {X : Type 0} → (X → Bool) → List X → ℕ
how_many test [] = 0
how_many test (x ∷ xs) = (if test x then 1 else 0) + how_many test xs

-- a wire that no splitter drives is found with 0 splitters, and any other with one more than the wire above
abbrev pub climb_on : ℕ → (ℕ → Option (ℕ × ℕ)) → Option ℕ → Option (ℕ × ℕ)
climb_on wire up None = Some (wire, 0)
climb_on wire up (Some from) = option_map (λ found. (found.0, found.1 + 1)) (up from)

-- the root of a wire and how many splitters it stands below it, where they are fewer than n
abbrev pub climb : List Cell → ℕ → ℕ → Option (ℕ × ℕ)
climb cells zero wire = None
climb cells (suc n) wire = climb_on wire (climb cells n) (splitter_above cells wire)

-- the climb from a wire past as many splitters as there are cells
abbrev pub climbed : PlainNetlist → ℕ → Option (ℕ × ℕ)
climbed net wire = climb net.cells (suc (length net.cells)) wire

-- the climbed root of a wire (the wire itself where the climb does not end)
abbrev pub root_of : PlainNetlist → ℕ → ℕ
root_of net wire = (unwrap_or (climbed net wire) (wire, 0)).0

-- how many splitters a wire stands below its climbed root
abbrev pub depth_of : PlainNetlist → ℕ → ℕ
depth_of net wire = (unwrap_or (climbed net wire) (wire, 0)).1

-- the climb ends from every wire that a port, a feed or an output rail reads
abbrev pub is_all_rooted : PlainNetlist → Bool
is_all_rooted net = list_all (λ wire. is_some (climbed net wire)) (leaves net)

-- a cell with a useful output makes its inputs useful
abbrev pub with_reads : Cell → List ℕ → List ℕ
with_reads cell useful = if list_any (λ wire. has wire useful) (outs cell) then reads cell ++ useful else useful

-- the useful wires after the cells of a list, the last one first
abbrev pub useful_through : List Cell → List ℕ → List ℕ
useful_through [] useful = useful
useful_through (cell ∷ cells) useful = with_reads cell (useful_through cells useful)

-- the useful wires after some rounds through all cells, from the output rails
abbrev pub useful_after : PlainNetlist → ℕ → List ℕ
useful_after net zero = map wire_of net.output_rails
useful_after net (suc n) = useful_through net.cells (useful_after net n)

-- the numbers below n stand in a list
abbrev pub has_all_below : List ℕ → ℕ → Bool
has_all_below wires n = all_below (λ wire. has wire wires) n

-- every wire is useful after as many rounds as there are cells
abbrev pub is_all_useful : PlainNetlist → Bool
is_all_useful net = has_all_below (useful_after net (length net.cells)) (number_of_wires net)

-- the same two numbers in either order
abbrev pub is_same_pair : ℕ → ℕ → ℕ → ℕ → Bool
is_same_pair a b c d = ((a == c) && (b == d)) || ((a == d) && (b == c))

-- two cells are not gates of one kind on the same pair of roots
abbrev pub have_other_roots : PlainNetlist → Cell → Cell → Bool
have_other_roots net (La a b out) (La c d its_out) =
    not (is_same_pair (root_of net a.number) (root_of net b.number) (root_of net c.number) (root_of net d.number))
have_other_roots net (Fa a b out) (Fa c d its_out) =
    not (is_same_pair (root_of net a.number) (root_of net b.number) (root_of net c.number) (root_of net d.number))
have_other_roots net _ _ = true

-- two rails are the two rails of one port, on these wires
abbrev pub are_both_rails : ℕ → ℕ → Rail → Rail → Bool
are_both_rails one other rail other_rail =
    (wire_of rail == one) && ((wire_of other_rail == other) && ((rail.port == other_rail.port) && not (is_same_sign rail.sign other_rail.sign)))

-- two wires are the two rails of one input port
abbrev pub are_rails_of_one_port : PlainNetlist → ℕ → ℕ → Bool
are_rails_of_one_port net one other = list_any (λ rail. list_any (are_both_rails one other rail) net.input_rails) net.input_rails

-- two wires are outputs of one DROC
abbrev pub are_outputs_of_one_droc : PlainNetlist → ℕ → ℕ → Bool
are_outputs_of_one_droc net one other = list_any (λ cell. has one (droc_outs cell) && has other (droc_outs cell)) net.cells

-- the outputs of a constant
abbrev pub constant_outs : Cell → List ℕ
constant_outs (Droc Const preload feed q n) = used q ++ used n
constant_outs cell = []

-- a wire is an output of a constant
abbrev pub is_output_of_constant : PlainNetlist → ℕ → Bool
is_output_of_constant net wire = list_any (λ cell. has wire (constant_outs cell)) net.cells

-- two roots that one gate may read
abbrev pub are_lean_roots : PlainNetlist → ℕ → ℕ → Bool
are_lean_roots net a b = not (a == b) && (not (are_rails_of_one_port net a b) && (not (are_outputs_of_one_droc net a b)
    && (not (is_output_of_constant net a) && not (is_output_of_constant net b))))

-- a gate reads two roots that one gate may read
abbrev pub is_lean_gate : PlainNetlist → Cell → Bool
is_lean_gate net (La a b out) = are_lean_roots net (root_of net a.number) (root_of net b.number)
is_lean_gate net (Fa a b out) = are_lean_roots net (root_of net a.number) (root_of net b.number)
is_lean_gate net cell = true

-- a leaf stands at most the rounded logarithm of the leaves below its root deep
abbrev pub is_balanced_at : PlainNetlist → ℕ → Bool
is_balanced_at net wire = nat_le (depth_of net wire) (ceil_log2 (how_many (λ leaf. root_of net wire == root_of net leaf) (leaves net)))

-- all properties of leanness, where no wire is driven twice and every climb ends
abbrev pub is_lean : PlainNetlist → Bool
is_lean net = is_none_driven_twice net && (is_all_rooted net && (is_all_useful net && (all_pairs (have_other_roots net) net.cells
    && (list_all (is_lean_gate net) net.cells && list_all (is_balanced_at net) (leaves net)))))

-- where no wire is driven twice, a wire has one root, at one depth
abbrev pub RootsAreUnique : Type 0
RootsAreUnique = (net : PlainNetlist) → is_none_driven_twice net ≡ true → (wire one other : ℕ) → (of_one : IsRoot net one wire) → (of_other : IsRoot net other wire)
    → (one ≡ other) × (of_one.splitters ≡ of_other.splitters)

-- and the climb finds it, with its depth
abbrev pub RootsAreClimbed : Type 0
RootsAreClimbed = (net : PlainNetlist) → is_none_driven_twice net ≡ true → (wire root : ℕ) → (below : IsRoot net root wire)
    → (root ≡ root_of net wire) × (below.splitters ≡ depth_of net wire)

-- where the climb ends, it ends at a root
abbrev pub ClimbsEndAtRoots : Type 0
ClimbsEndAtRoots = (net : PlainNetlist) → is_none_driven_twice net ≡ true → (wire : ℕ) → is_some (climbed net wire) ≡ true
    → (below : IsRoot net (root_of net wire) wire) × (below.splitters ≡ depth_of net wire)

-- a netlist that passes all decisions is lean
abbrev pub LeanDecisionIsRight : Type 0
LeanDecisionIsRight = (net : PlainNetlist) → is_lean net ≡ true → IsLean net
