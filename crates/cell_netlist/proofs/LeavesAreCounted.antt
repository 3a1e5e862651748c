-- In a sound netlist each root has a number of leaves.
use Rattle.std.proofs.Common.{◌≡◌, ◌<◌, ◌+◌, ◌==◌, ℕ, suc, Bool, true, is_some, List, [], ◌∷◌, map, length, ap, sym, ◌∙◌, subst, inl, inr, arith, refl}
use Rattle.std.specs.List.{flat_map}
use Rattle.std.proofs.lemmas.Bool.{eqb-true, cases_Bool, eq-eqb, true≢false}
use Rattle.cell_netlist.specs.declared.lines.Cell.{Cell}
use Rattle.cell_netlist.specs.declared.lines.Cell.TheVariants.{La, Fa, Split, Droc}
use Rattle.pulse_ids.specs.Lists.{IsIn, HowManyHave}
use Rattle.cell_netlist.specs.Netlists.{PlainNetlist, wire_of, reads, number_of_wires, IsRoot}
use Rattle.cell_netlist.specs.Sound.{IsSound}
use Rattle.cell_netlist.specs.Lean.{reads_of_leaf, leaves, IsLean}
use Rattle.cell_netlist.specs.LeanLaws.{IsBalanced}
use Rattle.cell_netlist.specs.Decisions.{is_none_driven_twice}
use Rattle.cell_netlist.specs.LeanDecisions.{how_many, climbed, root_of, is_all_rooted}
use Rattle.pulse_ids.proofs.CallerLemmas.{IsIn-append, IsIn-from_map, IsIn-from_flat_map}
use Rattle.cell_netlist.proofs.ListLemmas.{list_all-at, list_all-from}
use Rattle.cell_netlist.proofs.SoundDecisions.{none_driven_twice-is}
use Rattle.cell_netlist.proofs.Roots.{root_is, root_climbed, few_splitters, climb-ends}
use Rattle.cell_netlist.proofs.WireLemmas.{named_below, wire_root}

-- as many items have a property as pass its test
pub how_many-has : {X : Type 0} (P : X → Type 0) (test : X → Bool) (xs : List X) → ((x : X) → IsIn x xs → P x → test x ≡ true)
    → ((x : X) → IsIn x xs → test x ≡ true → P x) → HowManyHave P xs (how_many test xs)
how_many-has P test [] to from = refl
how_many-has P test (x ∷ xs) to from =
    let rest = how_many-has P test xs (λ y i. to y (inr i)) (λ y i. from y (inr i)) in
    elim (cases_Bool (test x)) [
      | inl hit ↦ inl (from x (inl refl) hit, how_many test xs, rw hit (omega arith), rest)
      | inr miss ↦
          let same : how_many test xs ≡ 0 + how_many test xs = omega arith in
          inr (λ p. true≢false (sym (to x (inl refl) p) ∙ miss), rw miss (subst (λ k. HowManyHave P xs k) same rest))
    ]

-- no two numbers of items have a property
pub one_count : {X : Type 0} (P : X → Type 0) (xs : List X) (k j : ℕ) → HowManyHave P xs k → HowManyHave P xs j → k ≡ j
one_count P [] k j h g = h ∙ sym g
one_count P (x ∷ xs) k j (inl h) (inl g) = h.2 ∙ ap (λ n. n + 1) (one_count P xs h.1 g.1 h.3 g.3) ∙ sym g.2
one_count P (x ∷ xs) k j (inl h) (inr g) = absurd (g.0 h.0)
one_count P (x ∷ xs) k j (inr h) (inl g) = absurd (h.0 g.0)
one_count P (x ∷ xs) k j (inr h) (inr g) = one_count P xs k j h.1 g.1

module _ (net : PlainNetlist) (once : is_none_driven_twice net ≡ true) where
  -- a wire with a root has a climb that ends
  climb_ends : (wire root : ℕ) → IsRoot net root wire → is_some (climbed net wire) ≡ true
  climb_ends wire root below =
      let few = few_splitters net once root below.splitters wire below.chain below.first in
      ap is_some (climb-ends net once (suc (length net.cells)) below.splitters root wire below.chain below.first (omega arith))

  module _ (rooted : is_all_rooted net ≡ true) where
    pub rooted-at : (wire : ℕ) → IsIn wire (leaves net) → is_some (climbed net wire) ≡ true
    rooted-at wire h = list_all-at (λ w. is_some (climbed net w)) (leaves net) rooted wire h

    pub counted : (root : ℕ) → HowManyHave (λ leaf. IsRoot net root leaf) (leaves net) (how_many (λ leaf. root == root_of net leaf) (leaves net))
    counted root = how_many-has (λ leaf. IsRoot net root leaf) (λ leaf. root == root_of net leaf) (leaves net)
        (λ leaf h below. eq-eqb _ _ (root_is net once leaf (rooted-at leaf h) root below).0)
        (λ leaf h e. subst (λ r. IsRoot net r leaf) (sym (eqb-true _ _ e)) (root_climbed net once leaf (rooted-at leaf h)).0)

-- what a leaf reads its cell reads
leaf-reads : (cell : Cell) (wire : ℕ) → IsIn wire (reads_of_leaf cell) → IsIn wire (reads cell)
leaf-reads (La a b out) wire h = h
leaf-reads (Fa a b out) wire h = h
leaf-reads (Split from left right) wire h = absurd h
leaf-reads (Droc role preload feed q n) wire h = h

module _ (net : PlainNetlist) (sound : IsSound net) where
  leaf-below : (wire : ℕ) → IsIn wire (leaves net) → wire < number_of_wires net
  leaf-below wire h = elim (IsIn-append wire (flat_map reads_of_leaf net.cells) (map wire_of net.output_rails) h) [
    | inl read ↦ let found = IsIn-from_flat_map reads_of_leaf wire net.cells read in (named_below net).of_reads found.0 found.1 wire (leaf-reads found.0 wire found.2)
    | inr out ↦ let found = IsIn-from_map wire_of wire net.output_rails out in subst (λ w. w < number_of_wires net) found.2 ((named_below net).of_output found.0 found.1)
  ]

  pub sound_once : is_none_driven_twice net ≡ true
  sound_once = (none_driven_twice-is net).1 sound.wired.none_driven_twice

  pub sound_rooted : is_all_rooted net ≡ true
  sound_rooted = list_all-from (λ wire. is_some (climbed net wire)) (leaves net)
      (λ wire h. let its = wire_root net sound wire (leaf-below wire h) in climb_ends net sound_once wire its.0 its.1)

  pub leaves_counted : (root : ℕ) → (k : ℕ) × HowManyHave (λ leaf. IsRoot net root leaf) (leaves net) k
  leaves_counted root = (how_many (λ leaf. root == root_of net leaf) (leaves net), counted net sound_once sound_rooted root)

  pub leaf_balanced : IsLean net → (leaf : ℕ) → IsIn leaf (leaves net) → IsBalanced net leaf
  leaf_balanced lean leaf h =
      let its = wire_root net sound leaf (leaf-below leaf h) in
      let many = leaves_counted its.0 in
      record { root = its.0; below = its.1; count = many.0; counted = many.1; few = lean.balanced its.0 leaf many.0 h many.1 its.1 }
