-- Which of the examples are lean.
use Rattle.std.proofs.Common.{◌≡◌, ◌≤◌, ℕ, true, false, is_some, refl, inl, inr, arith}
use Rattle.pulse_ids.specs.declared.literals.Sign.TheVariants.{Pos, Neg}
use Rattle.cell_netlist.specs.declared.kinds.Gate.{Gate}
use Rattle.cell_netlist.specs.declared.kinds.Gate.TheVariants as gates
use Rattle.cell_netlist.specs.declared.kinds.Role.TheVariants.{Back, Const}
use Rattle.cell_netlist.specs.declared.lines.Cell.{Cell}
use Rattle.pulse_ids.specs.Lists.{HowManyHave}
use Rattle.cell_netlist.specs.Netlists.{PlainNetlist, IsRoot}
use Rattle.cell_netlist.specs.Lean.{Useful, of_output, of_cell, IsGateOf, ReadsRoots, IsLean, leaves}
use Rattle.cell_netlist.specs.Decisions.{is_none_driven_twice}
use Rattle.cell_netlist.specs.LeanDecisions.{climbed, root_of}
use Rattle.cell_netlist.specs.ExampleNetlists.{rail, la, fa, droc, on}
use Rattle.cell_netlist.specs.ExampleLeanness.{chain_of_four, tree_of_four, pair_twice, root_twice, port_twice, with_constant, droc_twice, useless, LeannessIsSeen}
use Rattle.cell_netlist.proofs.SoundDecisions.{is_sound-at}
use Rattle.cell_netlist.proofs.Roots.{root_climbed}
use Rattle.cell_netlist.proofs.LeanDecisions.{is_lean-at}

module _ (net : PlainNetlist) (once : is_none_driven_twice net ≡ true) where
  root-at : (wire : ℕ) → is_some (climbed net wire) ≡ true → IsRoot net (root_of net wire) wire
  root-at wire e = (root_climbed net once wire e).0

  reads_roots : (cell : Cell) (gate : Gate) (a b : ℕ) → IsGateOf cell gate a b → is_some (climbed net a) ≡ true → is_some (climbed net b) ≡ true
      → ReadsRoots net cell gate (root_of net a) (root_of net b)
  reads_roots cell gate a b ports at_a at_b = record { a = a; b = b; ports = ports; of_a = root-at a at_a; of_b = root-at b at_b }

chain_is_not_lean : IsLean chain_of_four → ⊥
chain_is_not_lean lean =
    let at : (wire : ℕ) → is_some (climbed chain_of_four wire) ≡ true → IsRoot chain_of_four (root_of chain_of_four wire) wire = root-at chain_of_four refl in
    let four : HowManyHave (λ leaf. IsRoot chain_of_four 0 leaf) (leaves chain_of_four) 4 =
    inl (at 1 refl, 3, refl, inl (at 3 refl, 2, refl, inl (at 5 refl, 1, refl, inl (at 6 refl, 0, refl, refl)))) in
    let below = root_climbed chain_of_four refl 5 refl in
    let deep : below.0.splitters ≡ 3 = below.1 in
    let shallow : below.0.splitters ≤ 2 = lean.balanced 0 5 4 (inr (inr (inl refl))) four below.0 in
    omega arith

pair_is_not_lean : IsLean pair_twice → ⊥
pair_is_not_lean lean =
    lean.once 2 3 (la 2 4 6) (la 5 3 7) gates.La 0 1 1 0 (omega arith) refl refl
    (reads_roots pair_twice refl (la 2 4 6) gates.La 2 4 (refl, refl, refl) refl refl)
    (reads_roots pair_twice refl (la 5 3 7) gates.La 5 3 (refl, refl, refl) refl refl)
    (inr (refl, refl))

root_is_not_lean : IsLean root_twice → ⊥
root_is_not_lean lean =
    lean.no_root_twice (fa 1 2 3) gates.Fa 0 0 (inr (inl refl)) (reads_roots root_twice refl (fa 1 2 3) gates.Fa 1 2 (refl, refl, refl) refl refl) refl

port_is_not_lean : IsLean port_twice → ⊥
port_is_not_lean lean =
    lean.no_port_twice (la 0 1 2) gates.La 0 1 (inl refl) (reads_roots port_twice refl (la 0 1 2) gates.La 0 1 (refl, refl, refl) refl refl)
    (record {
      rail = rail 0 Pos 0;
      other_rail = rail 0 Neg 1;
      among = inl refl;
      other_among = inr (inl refl);
      wire = refl;
      other_wire = refl;
      port = refl;
      signs = λ e. absurd cc;
    })

constant_is_not_lean : IsLean with_constant → ⊥
constant_is_not_lean lean =
    lean.no_constant (la 0 1 3) gates.La 0 1 (inr (inl refl)) (reads_roots with_constant refl (la 0 1 3) gates.La 0 1 (refl, refl, refl) refl refl)
    (inr (record { cell = droc Const true 2 (on 1) (on 2); among = inl refl; constant = tt; out = inl refl }))

droc_is_not_lean : IsLean droc_twice → ⊥
droc_is_not_lean lean =
    lean.no_droc_twice (la 0 1 2) gates.La 0 1 (inr (inl refl)) (reads_roots droc_twice refl (la 0 1 2) gates.La 0 1 (refl, refl, refl) refl refl)
    (record { cell = droc Back false 3 (on 0) (on 1); among = inl refl; droc = tt; out = inl refl; other_out = inr (inl refl) })

-- nothing is useful where there is no output rail
none_useful : (wire : ℕ) → Useful useless wire → ⊥
none_useful _ (of_output wire rail h e) = h
none_useful _ (of_cell wire cell h read out o useful) = none_useful out useful

pub leanness_is_seen : LeannessIsSeen
leanness_is_seen = (
  record { sound = is_sound-at chain_of_four refl; not_lean = chain_is_not_lean },
  (is_sound-at tree_of_four refl, is_lean-at tree_of_four refl),
  record { sound = is_sound-at pair_twice refl; not_lean = pair_is_not_lean },
  record { sound = is_sound-at root_twice refl; not_lean = root_is_not_lean },
  record { sound = is_sound-at port_twice refl; not_lean = port_is_not_lean },
  record { sound = is_sound-at with_constant refl; not_lean = constant_is_not_lean },
  record { sound = is_sound-at droc_twice refl; not_lean = droc_is_not_lean },
  record { sound = is_sound-at useless refl; not_lean = λ lean. none_useful 0 (lean.useful 0 (omega arith)) },
)
