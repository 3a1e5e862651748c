-- A lean netlist passes all decisions.
use Rattle.std.proofs.Common.{◌≡◌, ◌↔◌, ◌≤◌, ◌<◌, ◌&&◌, ◌==◌, ℕ, Bool, true, not, ap, sym, ◌∙◌, subst, inl, inr, refl, List, length}
use Rattle.std.specs.List.{list_any}
use Rattle.std.proofs.lemmas.Bool.{and_parts, and_from, or_cases, eqb-true, cases_Bool, true≢false, le-leb}
use Rattle.pulse_ids.specs.Ids.{WireId}
use Rattle.cell_netlist.specs.declared.kinds.Gate.{Gate}
use Rattle.cell_netlist.specs.declared.kinds.Gate.TheVariants as gates
use Rattle.cell_netlist.specs.declared.kinds.Role.TheVariants.{Front, Back, Const}
use Rattle.cell_netlist.specs.declared.lines.Cell.{Cell}
use Rattle.cell_netlist.specs.declared.lines.Cell.TheVariants.{La, Fa, Split, Droc}
use Rattle.pulse_ids.specs.Lists.{IsIn, ceil_log2}
use Rattle.cell_netlist.specs.Netlists.{PlainNetlist, outs, number_of_wires, IsDroc}
use Rattle.cell_netlist.specs.Sound.{IsSound}
use Rattle.cell_netlist.specs.Lean.{ReadsRoots, IsSamePair, AreRailsOfOnePort, AreOutputsOfOneDroc, IsConstant, IsOutputOfConstant, leaves, IsLean}
use Rattle.cell_netlist.specs.Decisions.{has, droc_outs, is_none_driven_twice}
use Rattle.cell_netlist.specs.LeanDecisions.{how_many, root_of, is_all_rooted, useful_after, is_same_pair, have_other_roots, are_both_rails, are_rails_of_one_port, are_outputs_of_one_droc}
use Rattle.cell_netlist.specs.LeanDecisions.{constant_outs, is_output_of_constant, are_lean_roots, is_lean_gate, is_balanced_at, has_all_below, is_lean}
use Rattle.pulse_ids.proofs.CallerLemmas.{IsIn-place}
use Rattle.cell_netlist.proofs.ListLemmas.{all_below-from, list_all-from, list_any-at, all_pairs-from, has-at, has-from}
use Rattle.cell_netlist.proofs.SoundDecisions.{same_sign-from}
use Rattle.cell_netlist.proofs.Roots.{root_climbed}
use Rattle.cell_netlist.proofs.UsefulDecision.{useful_found}
use Rattle.cell_netlist.proofs.LeanDecisions.{ports-leaves, is_lean-at}
use Rattle.cell_netlist.proofs.LeavesAreCounted.{rooted-at, counted, sound_once, sound_rooted}

not-from : (x : Bool) → (x ≡ true → ⊥) → not x ≡ true
not-from x none = elim (cases_Bool x) [ inl hit ↦ absurd (none hit) | inr miss ↦ ap not miss ]

same_pair-to : (a b c d : ℕ) → is_same_pair a b c d ≡ true → IsSamePair a b c d
same_pair-to a b c d e = elim (or_cases ((a == c) && (b == d)) ((a == d) && (b == c)) e) [
  | inl h ↦ let both = and_parts (a == c) (b == d) h in inl (eqb-true _ _ both.0, eqb-true _ _ both.1)
  | inr h ↦ let both = and_parts (a == d) (b == c) h in inr (eqb-true _ _ both.0, eqb-true _ _ both.1)
]

-- a cell with outputs of a DROC is one
droc-is : (cell : Cell) (w : ℕ) → IsIn w (droc_outs cell) → IsDroc cell × IsIn w (outs cell)
droc-is (La a b out) w h = absurd h
droc-is (Fa a b out) w h = absurd h
droc-is (Split from left right) w h = absurd h
droc-is (Droc role preload feed q n) w h = (tt, h)

constant-is : (cell : Cell) (w : ℕ) → IsIn w (constant_outs cell) → IsConstant cell × IsIn w (outs cell)
constant-is (La a b out) w h = absurd h
constant-is (Fa a b out) w h = absurd h
constant-is (Split from left right) w h = absurd h
constant-is (Droc Front preload feed q n) w h = absurd h
constant-is (Droc Back preload feed q n) w h = absurd h
constant-is (Droc Const preload feed q n) w h = (tt, h)

module _ (net : PlainNetlist) where
  rails-to : (one other : ℕ) → are_rails_of_one_port net one other ≡ true → AreRailsOfOnePort net one other
  rails-to one other e =
      let first = list_any-at (λ rail. list_any (are_both_rails one other rail) net.input_rails) net.input_rails e in
      let second = list_any-at (are_both_rails one other first.0) net.input_rails first.2 in
      let p1 = and_parts _ _ second.2 in
      let p2 = and_parts _ _ p1.1 in
      let p3 = and_parts _ _ p2.1 in
      record {
        rail = first.0;
        other_rail = second.0;
        among = first.1;
        other_among = second.1;
        wire = eqb-true _ _ p1.0;
        other_wire = eqb-true _ _ p2.0;
        port = eqb-true _ _ p3.0;
        signs = λ s. true≢false (sym p3.1 ∙ ap not (same_sign-from _ _ s));
      }

  droc-to : (one other : ℕ) → are_outputs_of_one_droc net one other ≡ true → AreOutputsOfOneDroc net one other
  droc-to one other e =
      let found = list_any-at (λ cell. has one (droc_outs cell) && has other (droc_outs cell)) net.cells e in
      let parts = and_parts _ _ found.2 in
      let here = droc-is found.0 one (has-at one (droc_outs found.0) parts.0) in
      let there = droc-is found.0 other (has-at other (droc_outs found.0) parts.1) in
      record { cell = found.0; among = found.1; droc = here.0; out = here.1; other_out = there.1 }

  constant-to : (wire : ℕ) → is_output_of_constant net wire ≡ true → IsOutputOfConstant net wire
  constant-to wire e =
      let found = list_any-at (λ cell. has wire (constant_outs cell)) net.cells e in
      let here = constant-is found.0 wire (has-at wire (constant_outs found.0) found.2) in
      record { cell = found.0; among = found.1; constant = here.0; out = here.1 }

  -- all outputs that are found are useful, and the other way round
  all_useful : ((wire : ℕ) → wire < number_of_wires net → IsIn wire (useful_after net (length net.cells))) → (known : List ℕ)
      → known ≡ useful_after net (length net.cells) → has_all_below known (number_of_wires net) ≡ true
  all_useful all known e = all_below-from (λ wire. has wire known) (number_of_wires net) (λ wire lt. has-from wire known (rw e (all wire lt)))

  module _ (once : is_none_driven_twice net ≡ true) (rooted : is_all_rooted net ≡ true) (lean : IsLean net) where
    reads-la : (a b out : WireId) → IsIn (La a b out) net.cells → ReadsRoots net (La a b out) gates.La (root_of net a.number) (root_of net b.number)
    reads-la a b out among = record {
      a = a.number;
      b = b.number;
      ports = (refl, refl, refl);
      of_a = (root_climbed net once a.number (rooted-at net once rooted a.number (ports-leaves net once rooted (La a b out) among a.number (inl refl)))).0;
      of_b = (root_climbed net once b.number (rooted-at net once rooted b.number (ports-leaves net once rooted (La a b out) among b.number (inr (inl refl))))).0;
    }

    reads-fa : (a b out : WireId) → IsIn (Fa a b out) net.cells → ReadsRoots net (Fa a b out) gates.Fa (root_of net a.number) (root_of net b.number)
    reads-fa a b out among = record {
      a = a.number;
      b = b.number;
      ports = (refl, refl, refl);
      of_a = (root_climbed net once a.number (rooted-at net once rooted a.number (ports-leaves net once rooted (Fa a b out) among a.number (inl refl)))).0;
      of_b = (root_climbed net once b.number (rooted-at net once rooted b.number (ports-leaves net once rooted (Fa a b out) among b.number (inr (inl refl))))).0;
    }

    -- two gates of a kind that do not read the same roots
    other_roots : (cell other : Cell) → IsIn cell net.cells → IsIn other net.cells
        → ((gate : Gate) (a b c d : ℕ) → ReadsRoots net cell gate a b → ReadsRoots net other gate c d → IsSamePair a b c d → ⊥) → have_other_roots net cell other ≡ true
    other_roots (La a b out) (La c d its_out) among its_among differ =
        not-from _ (λ e. differ gates.La _ _ _ _ (reads-la a b out among) (reads-la c d its_out its_among) (same_pair-to _ _ _ _ e))
    other_roots (Fa a b out) (Fa c d its_out) among its_among differ =
        not-from _ (λ e. differ gates.Fa _ _ _ _ (reads-fa a b out among) (reads-fa c d its_out its_among) (same_pair-to _ _ _ _ e))
    other_roots (La a b out) (Fa c d its_out) among its_among differ = refl
    other_roots (La a b out) (Split from left right) among its_among differ = refl
    other_roots (La a b out) (Droc role preload feed q n) among its_among differ = refl
    other_roots (Fa a b out) (La c d its_out) among its_among differ = refl
    other_roots (Fa a b out) (Split from left right) among its_among differ = refl
    other_roots (Fa a b out) (Droc role preload feed q n) among its_among differ = refl
    other_roots (Split from left right) other among its_among differ = refl
    other_roots (Droc role preload feed q n) other among its_among differ = refl

    -- the roots that a gate reads
    roots_pass : (cell : Cell) (gate : Gate) (x y : ℕ) → IsIn cell net.cells → ReadsRoots net cell gate x y → are_lean_roots net x y ≡ true
    roots_pass cell gate x y among reads =
        and_from _ _ (not-from _ (λ e. lean.no_root_twice cell gate x y among reads (eqb-true _ _ e)))
        (and_from _ _ (not-from _ (λ e. lean.no_port_twice cell gate x y among reads (rails-to x y e)))
        (and_from _ _ (not-from _ (λ e. lean.no_droc_twice cell gate x y among reads (droc-to x y e)))
        (and_from _ _ (not-from _ (λ e. lean.no_constant cell gate x y among reads (inl (constant-to x e))))
        (not-from _ (λ e. lean.no_constant cell gate x y among reads (inr (constant-to y e)))))))

    gate_passes : (cell : Cell) → IsIn cell net.cells → is_lean_gate net cell ≡ true
    gate_passes (La a b out) among = roots_pass (La a b out) gates.La _ _ among (reads-la a b out among)
    gate_passes (Fa a b out) among = roots_pass (Fa a b out) gates.Fa _ _ among (reads-fa a b out among)
    gate_passes (Split from left right) among = refl
    gate_passes (Droc role preload feed q n) among = refl

    -- a leaf that stands no deeper than leanness says
    leaf_passes : (wire : ℕ) → IsIn wire (leaves net) → is_balanced_at net wire ≡ true
    leaf_passes wire h =
        let its = root_climbed net once wire (rooted-at net once rooted wire h) in
        let count = how_many (λ leaf. root_of net wire == root_of net leaf) (leaves net) in
        le-leb _ _ (subst (λ d. d ≤ ceil_log2 count) its.1 (lean.balanced (root_of net wire) wire count h (counted net once rooted (root_of net wire)) its.0))

    pub is_lean-from : is_lean net ≡ true
    is_lean-from =
        and_from _ _ once
        (and_from _ _ rooted
        (and_from _ _ (all_useful (λ wire lt. useful_found net wire (lean.useful wire lt)) (useful_after net (length net.cells)) refl)
        (and_from _ _ (all_pairs-from (have_other_roots net) net.cells (λ i j cell other lt at_i at_j.
        other_roots cell other (IsIn-place cell net.cells i at_i) (IsIn-place other net.cells j at_j)
        (λ gate a b c d h g. lean.once i j cell other gate a b c d lt at_i at_j h g)))
        (and_from _ _ (list_all-from (is_lean_gate net) net.cells gate_passes) (list_all-from (is_balanced_at net) (leaves net) leaf_passes)))))

pub lean_is_decided : (net : PlainNetlist) → is_none_driven_twice net ≡ true → is_all_rooted net ≡ true → IsLean net → is_lean net ≡ true
lean_is_decided net once rooted lean = is_lean-from net once rooted lean

pub sound_lean_is_decided : (net : PlainNetlist) → IsSound net → IsLean net ↔ (is_lean net ≡ true)
sound_lean_is_decided net sound = (λ lean. is_lean-from net (sound_once net sound) (sound_rooted net sound) lean, is_lean-at net)
