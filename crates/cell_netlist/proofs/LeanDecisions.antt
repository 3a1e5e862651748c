-- The decision on leanness tells its properties.
use Rattle.std.proofs.Common.{◌≡◌, ◌≤◌, ℕ, Bool, true, false, not, ◌&&◌, ◌==◌, is_some, List, [], ◌∷◌, map, length, ap, sym, ◌∙◌, subst, inl, inr, arith, refl}
use Rattle.std.specs.List.{flat_map, list_any}
use Rattle.std.proofs.lemmas.Bool.{and_parts, and_from, or_left, or_right, eqb-true, eq-eqb, cases_Bool, leb-true, true≢false}
use Rattle.pulse_ids.specs.Ids.{WireId}
use Rattle.cell_netlist.specs.declared.kinds.Gate.{Gate}
use Rattle.cell_netlist.specs.declared.kinds.Gate.TheVariants as gates
use Rattle.cell_netlist.specs.declared.kinds.Role.TheVariants.{Front, Back, Const}
use Rattle.cell_netlist.specs.declared.lines.Cell.{Cell}
use Rattle.cell_netlist.specs.declared.lines.Cell.TheVariants.{La, Fa, Split, Droc}
use Rattle.pulse_ids.specs.Lists.{IsIn, HowManyHave, ceil_log2}
use Rattle.cell_netlist.specs.Netlists.{PlainNetlist, wire_of, outs, number_of_wires, IsRoot}
use Rattle.cell_netlist.specs.Lean.{ReadsRoots, IsSamePair, AreRailsOfOnePort, AreOutputsOfOneDroc, IsConstant, IsOutputOfConstant, reads_of_leaf, leaves, IsLean}
use Rattle.cell_netlist.specs.Decisions.{has, is_same_sign, droc_outs, is_none_driven_twice}
use Rattle.cell_netlist.specs.LeanDecisions.{how_many, climbed, root_of, is_all_rooted, useful_after, is_same_pair, have_other_roots, are_both_rails, are_rails_of_one_port}
use Rattle.cell_netlist.specs.LeanDecisions.{are_outputs_of_one_droc, constant_outs, is_output_of_constant, are_lean_roots, is_lean_gate, is_balanced_at, is_lean}
use Rattle.pulse_ids.proofs.CallerLemmas.{IsIn-left, IsIn-place, IsIn-flat_map}
use Rattle.cell_netlist.proofs.ListLemmas.{all_below-at, list_all-at, list_any-from, all_pairs-at, has-at, has-from}
use Rattle.cell_netlist.proofs.SoundDecisions.{same_sign-at, droc_outs-is}
use Rattle.cell_netlist.proofs.Roots.{root_is, root_climbed}
use Rattle.cell_netlist.proofs.UsefulDecision.{useful_after-useful}

module _ (net : PlainNetlist) (once : is_none_driven_twice net ≡ true) where
  -- how many leaves have a root
  how_many-is : {X : Type 0} (P : X → Type 0) (test : X → Bool) (xs : List X) (k : ℕ) → ((x : X) → IsIn x xs → P x → test x ≡ true)
      → ((x : X) → IsIn x xs → test x ≡ true → P x) → HowManyHave P xs k → k ≡ how_many test xs
  how_many-is P test [] k to from h = h
  how_many-is P test (x ∷ xs) k to from (inl h) =
      let t = to x (inl refl) h.0 in
      let r = how_many-is P test xs h.1 (λ y i. to y (inr i)) (λ y i. from y (inr i)) h.3 in
      rw t (omega arith)
  how_many-is P test (x ∷ xs) k to from (inr h) =
      let t : test x ≡ false = elim (cases_Bool (test x)) [ inl hit ↦ absurd (h.0 (from x (inl refl) hit)) | inr miss ↦ miss ] in
      let r = how_many-is P test xs k (λ y i. to y (inr i)) (λ y i. from y (inr i)) h.1 in
      rw t (omega arith)

  -- the same pair of numbers
  same_pair-from : (a b c d : ℕ) → IsSamePair a b c d → is_same_pair a b c d ≡ true
  same_pair-from a b c d (inl h) = or_left _ _ (and_from _ _ (eq-eqb _ _ h.0) (eq-eqb _ _ h.1))
  same_pair-from a b c d (inr h) = or_right _ _ (and_from _ _ (eq-eqb _ _ h.0) (eq-eqb _ _ h.1))

  not-both : (x : Bool) → not x ≡ true → x ≡ true → ⊥
  not-both x e h = true≢false (sym e ∙ ap not h)

  -- two wires that are the rails of one port
  rails-from : (one other : ℕ) → AreRailsOfOnePort net one other → are_rails_of_one_port net one other ≡ true
  rails-from one other h =
      let signs : not (is_same_sign h.rail.sign h.other_rail.sign) ≡ true = elim (cases_Bool (is_same_sign h.rail.sign h.other_rail.sign)) [
        | inl hit ↦ absurd (h.signs (same_sign-at _ _ hit))
        | inr miss ↦ ap not miss
      ] in
      let both = and_from _ _ (eq-eqb _ _ h.wire) (and_from _ _ (eq-eqb _ _ h.other_wire) (and_from _ _ (eq-eqb _ _ h.port) signs)) in
      list_any-from (λ rail. list_any (are_both_rails one other rail) net.input_rails) net.input_rails h.rail h.among
      (list_any-from (are_both_rails one other h.rail) net.input_rails h.other_rail h.other_among both)

  droc-from : (one other : ℕ) → AreOutputsOfOneDroc net one other → are_outputs_of_one_droc net one other ≡ true
  droc-from one other h =
      let same = droc_outs-is h.cell h.droc in
      list_any-from (λ cell. has one (droc_outs cell) && has other (droc_outs cell)) net.cells h.cell h.among
      (and_from _ _ (has-from one _ (rw same h.out)) (has-from other _ (rw same h.other_out)))

  constant_outs-is : (cell : Cell) → IsConstant cell → constant_outs cell ≡ outs cell
  constant_outs-is (La a b out) h = absurd h
  constant_outs-is (Fa a b out) h = absurd h
  constant_outs-is (Split from left right) h = absurd h
  constant_outs-is (Droc Front preload feed q n) h = absurd h
  constant_outs-is (Droc Back preload feed q n) h = absurd h
  constant_outs-is (Droc Const preload feed q n) h = refl

  constant-from : (wire : ℕ) → IsOutputOfConstant net wire → is_output_of_constant net wire ≡ true
  constant-from wire h =
      list_any-from (λ cell. has wire (constant_outs cell)) net.cells h.cell h.among (has-from wire _ (rw (constant_outs-is h.cell h.constant) h.out))

  module _ (rooted : is_all_rooted net ≡ true) where
    rooted-at : (wire : ℕ) → IsIn wire (leaves net) → is_some (climbed net wire) ≡ true
    rooted-at wire h = list_all-at (λ w. is_some (climbed net w)) (leaves net) rooted wire h

    -- the ports of a gate are leaves
    pub ports-leaves : (cell : Cell) → IsIn cell net.cells → (w : ℕ) → IsIn w (reads_of_leaf cell) → IsIn w (leaves net)
    ports-leaves cell among w h = IsIn-left w (flat_map reads_of_leaf net.cells) (map wire_of net.output_rails) (IsIn-flat_map reads_of_leaf w cell net.cells among h)

    -- what the roots of a gate's ports are
    roots_of-la : (a b out : WireId) → IsIn (La a b out) net.cells → (gate : Gate) (x y : ℕ) → ReadsRoots net (La a b out) gate x y
        → (gate ≡ gates.La) × (x ≡ root_of net a.number) × (y ≡ root_of net b.number)
    roots_of-la a b out among gate x y h =
        let at_a = root_is net once a.number (rooted-at a.number (ports-leaves (La a b out) among a.number (inl refl))) x (subst (λ p. IsRoot net x p) (sym h.ports.1) h.of_a) in
        let at_b = root_is net once b.number (rooted-at b.number (ports-leaves (La a b out) among b.number (inr (inl refl)))) y (subst (λ p. IsRoot net y p) (sym h.ports.2) h.of_b) in
        (h.ports.0, at_a.0, at_b.0)

    roots_of-fa : (a b out : WireId) → IsIn (Fa a b out) net.cells → (gate : Gate) (x y : ℕ) → ReadsRoots net (Fa a b out) gate x y
        → (gate ≡ gates.Fa) × (x ≡ root_of net a.number) × (y ≡ root_of net b.number)
    roots_of-fa a b out among gate x y h =
        let at_a = root_is net once a.number (rooted-at a.number (ports-leaves (Fa a b out) among a.number (inl refl))) x (subst (λ p. IsRoot net x p) (sym h.ports.1) h.of_a) in
        let at_b = root_is net once b.number (rooted-at b.number (ports-leaves (Fa a b out) among b.number (inr (inl refl)))) y (subst (λ p. IsRoot net y p) (sym h.ports.2) h.of_b) in
        (h.ports.0, at_a.0, at_b.0)

    -- a gate's roots pass the decision on its cell
    lean_roots : (cell : Cell) (gate : Gate) (x y : ℕ) → IsIn cell net.cells → ReadsRoots net cell gate x y → is_lean_gate net cell ≡ true → are_lean_roots net x y ≡ true
    lean_roots (La a b out) gate x y among h e = let its = roots_of-la a b out among gate x y h in rw (its.1, its.2) e
    lean_roots (Fa a b out) gate x y among h e = let its = roots_of-fa a b out among gate x y h in rw (its.1, its.2) e
    lean_roots (Split from left right) gate x y among h e = absurd h.ports
    lean_roots (Droc role preload feed q n) gate x y among h e = absurd h.ports

    same_pair-at : (a b c d x y z w : ℕ) → x ≡ a → y ≡ b → z ≡ c → w ≡ d → not (is_same_pair a b c d) ≡ true → IsSamePair x y z w → ⊥
    same_pair-at a b c d x y z w p q r s e h = not-both _ e (rw (← p, ← q, ← r, ← s) (same_pair-from x y z w h))

    other_roots : (cell other : Cell) (gate : Gate) (x y z w : ℕ) → IsIn cell net.cells → IsIn other net.cells → ReadsRoots net cell gate x y
        → ReadsRoots net other gate z w → have_other_roots net cell other ≡ true → IsSamePair x y z w → ⊥
    other_roots (La a b out) (La c d its_out) gate x y z w among its_among h g e pair =
        let its = roots_of-la a b out among gate x y h in
        let others = roots_of-la c d its_out its_among gate z w g in
        same_pair-at _ _ _ _ x y z w its.1 its.2 others.1 others.2 e pair
    other_roots (Fa a b out) (Fa c d its_out) gate x y z w among its_among h g e pair =
        let its = roots_of-fa a b out among gate x y h in
        let others = roots_of-fa c d its_out its_among gate z w g in
        same_pair-at _ _ _ _ x y z w its.1 its.2 others.1 others.2 e pair
    other_roots (La a b out) (Fa c d its_out) gate x y z w among its_among h g e pair = let p = h.ports.0 in let q = g.ports.0 in absurd cc
    other_roots (Fa a b out) (La c d its_out) gate x y z w among its_among h g e pair = let p = h.ports.0 in let q = g.ports.0 in absurd cc
    other_roots (La a b out) (Split from left right) gate x y z w among its_among h g e pair = absurd g.ports
    other_roots (La a b out) (Droc role preload feed q n) gate x y z w among its_among h g e pair = absurd g.ports
    other_roots (Fa a b out) (Split from left right) gate x y z w among its_among h g e pair = absurd g.ports
    other_roots (Fa a b out) (Droc role preload feed q n) gate x y z w among its_among h g e pair = absurd g.ports
    other_roots (Split from left right) other gate x y z w among its_among h g e pair = absurd h.ports
    other_roots (Droc role preload feed q n) other gate x y z w among its_among h g e pair = absurd h.ports

    -- a leaf that stands no deeper than the decision says
    balanced-at : (root wire k : ℕ) → IsIn wire (leaves net) → is_balanced_at net wire ≡ true → HowManyHave (λ leaf. IsRoot net root leaf) (leaves net) k
        → (below : IsRoot net root wire) → below.splitters ≤ ceil_log2 k
    balanced-at root wire k among e many below =
        let its = root_is net once wire (rooted-at wire among) root below in
        let count : k ≡ how_many (λ leaf. root_of net wire == root_of net leaf) (leaves net) =
        how_many-is (λ leaf. IsRoot net root leaf) (λ leaf. root_of net wire == root_of net leaf) (leaves net) k
        (λ leaf h r. let that = root_is net once leaf (rooted-at leaf h) root r in eq-eqb _ _ (sym its.0 ∙ that.0))
        (λ leaf h t. subst (λ r. IsRoot net r leaf) (sym (its.0 ∙ eqb-true _ _ t)) (root_climbed net once leaf (rooted-at leaf h)).0)
        many in
        rw (its.1, count) (leb-true _ _ e)

pub is_lean-at : (net : PlainNetlist) → is_lean net ≡ true → IsLean net
is_lean-at net e =
    let p1 = and_parts _ _ e in
    let p2 = and_parts _ _ p1.1 in
    let p3 = and_parts _ _ p2.1 in
    let p4 = and_parts _ _ p3.1 in
    let p5 = and_parts _ _ p4.1 in
    let once = p1.0 in
    let rooted = p2.0 in
    let roots : (cell : Cell) (gate : Gate) (a b : ℕ) → IsIn cell net.cells → ReadsRoots net cell gate a b → are_lean_roots net a b ≡ true =
    λ cell gate a b among h. lean_roots net once rooted cell gate a b among h (list_all-at (is_lean_gate net) net.cells p5.0 cell among) in
    record {
      useful = λ wire lt.
          let known = useful_after net (length net.cells) in
          useful_after-useful net (length net.cells) wire (has-at wire known (all_below-at (λ w. has w known) (number_of_wires net) p3.0 wire lt));
      once = λ first later cell other gate a b c d lt at_first at_later h g pair.
          other_roots net once rooted cell other gate a b c d (IsIn-place cell net.cells first at_first) (IsIn-place other net.cells later at_later) h g
          (all_pairs-at (have_other_roots net) net.cells p4.0 first later cell other lt at_first at_later) pair;
      no_root_twice = λ cell gate a b among h same. not-both net once _ (and_parts _ _ (roots cell gate a b among h)).0 (eq-eqb _ _ same);
      no_port_twice = λ cell gate a b among h rails.
          not-both net once _ (and_parts _ _ (and_parts _ _ (roots cell gate a b among h)).1).0 (rails-from net once a b rails);
      no_droc_twice = λ cell gate a b among h droc.
          not-both net once _ (and_parts _ _ (and_parts _ _ (and_parts _ _ (roots cell gate a b among h)).1).1).0 (droc-from net once a b droc);
      no_constant = λ cell gate a b among h constant.
          let q1 = and_parts (not (a == b)) _ (roots cell gate a b among h) in
          let q2 = and_parts (not (are_rails_of_one_port net a b)) _ q1.1 in
          let q3 = and_parts (not (are_outputs_of_one_droc net a b)) _ q2.1 in
          let rest = and_parts (not (is_output_of_constant net a)) _ q3.1 in
          elim constant [
            | inl of_a ↦ not-both net once _ rest.0 (constant-from net once a of_a)
            | inr of_b ↦ not-both net once _ rest.1 (constant-from net once b of_b)
          ];
      balanced = λ root wire k among many below.
          balanced-at net once rooted root wire k among (list_all-at (is_balanced_at net) (leaves net) p5.1 wire among) many below;
    }
