-- The constant: what it does to the labels.
use Rattle.std.proofs.Common.{◌≡◌, ◌≤◌, ◌<◌, ◌+◌, ◌*◌, ◌-◌, inl, inr, ℕ, Bool, true, Option, Some, List, [], ◌∷◌, ◌++◌, length, slice_get, get_or, set, nat_lt, ap, sym, subst, ◌∙◌, refl, arith}
use Rattle.std.specs.List.{flat_map}
use Rattle.std.proofs.lemmas.Bool.{cases_eq}
use Rattle.std.proofs.lemmas.List.{get_or-set_same, get_or-set_other, length-set}
use Rattle.pulse_ids.specs.Ids.{WireId, numbered}
use Rattle.pulse_ids.specs.Lists.{IsIn, occurrences}
use Rattle.pulse_ids.proofs.CallerLemmas.{IsIn-append, IsIn-left, IsIn-flat_map}
use Rattle.pulse_ids.proofs.CallerLemmasOnCounts.{IsIn-occurrences, occurrences-IsIn}
use Rattle.cell_netlist.specs.declared.kinds.Role.{Role}
use Rattle.cell_netlist.specs.declared.kinds.Role.TheVariants.{Front, Back, Const}
use Rattle.cell_netlist.specs.declared.lines.Cell.{Cell}
use Rattle.cell_netlist.specs.declared.lines.Cell.TheVariants.{Droc}
use Rattle.cell_netlist.specs.Netlists.{PlainNetlist, outs, reads, number_of_wires}
use Rattle.graph_build.specs.Built.{PlainBuilt}
use Rattle.splitter_trees.specs.Spreading.{IsSplitter, Spreads}
use Rattle.droc_pairs.specs.Pairs.{asked_output}
use Rattle.droc_pairs.specs.Constants.{constant_cell, own_wire, ones_from, zeros_from, HasTreeIfRead, with_tree, without, IsConstant}
use Rattle.wire_ledgers.proofs.CallerLemmasOnRanges.{in_range}
use Rattle.rail_mapper.specs.Drafts.{PlainDraft}
use Rattle.rail_mapper.specs.Labels.{IsLabelledIfUsed}
use Rattle.rail_mapper.specs.Tracks.{FitsGate, IsPaired, IsJoined, IsWaiting, FitsConst, IsTracked}
use Rattle.rail_mapper.specs.StateLines.{IsStateOf}
use Rattle.rail_mapper.proofs.TrackingStates.{more_state}
use Rattle.rail_mapper.proofs.Tracking.{split_fits, same_const, place_parts, more_paired, more_joined, more_waiting}

-- the wires of a tree whose root carries a rail, where its new wires carry it
module _ (built : PlainBuilt) (label : ℕ → ℕ) (next root readers rail : ℕ) (cells : List Cell) (leaves : List ℕ) (s : Spreads next root readers cells leaves) (root_is : label root ≡ rail)
    (fresh : (wire : ℕ) → next ≤ wire → wire < next + 2 * (readers - 1) → label wire ≡ rail) where
  its : (wire : ℕ) → 1 ≤ occurrences wire (root ∷ flat_map outs cells) → label wire ≡ rail
  its wire some = by (occurrences-IsIn wire (root ∷ flat_map outs cells) some)
    where
      by : IsIn wire (root ∷ flat_map outs cells) → label wire ≡ rail
      by (inl e) = ap label (sym e) ∙ root_is
      by (inr m) = let r = in_range next (2 * (readers - 1)) wire (subst (λ (l : List ℕ). IsIn wire l) s.drives m) in fresh wire r.0 r.1

  pub tree_fits : (cell : Cell) → IsIn cell cells → FitsGate built label cell
  tree_fits cell m = split_fits built label rail cell (s.all_split cell m)
      (λ wire r. its wire (omega (arith, s.once wire, IsIn-occurrences wire (flat_map reads cells) (IsIn-flat_map reads wire cell cells m r))))
      (λ wire o. its wire (let k = IsIn-occurrences wire (flat_map outs cells) (IsIn-flat_map outs wire cell cells m o) in omega arith))

  pub tree_leaves : (wire : ℕ) → IsIn wire leaves → label wire ≡ rail
  tree_leaves wire m = its wire (omega (arith, s.once wire, IsIn-occurrences wire leaves m))

-- a splitter that fits
abbrev IsFit : PlainBuilt → (ℕ → ℕ) → Cell → Type 0
IsFit built label cell = IsSplitter cell × FitsGate built label cell

module _ (built : PlainBuilt) (label : ℕ → ℕ) (before after : PlainDraft) (ones zeros : ℕ) (one none : List ℕ) (h : IsTracked built label before.pending before)
    (c : IsConstant before.net after.net ones zeros one none)
    (q_is : IsLabelledIfUsed label (asked_output (nat_lt 0 ones) (number_of_wires before.net)) 1) (own_is : label (own_wire (number_of_wires before.net) ones) ≡ 0)
    (ones_are : (wire : ℕ) → ones_from (number_of_wires before.net) ones ≤ wire → wire < zeros_from (number_of_wires before.net) ones → label wire ≡ 1)
    (zeros_are : (wire : ℕ) → zeros_from (number_of_wires before.net) ones ≤ wire → wire < number_of_wires after.net → label wire ≡ 0)
    (root_is : 1 ≤ ones → label (number_of_wires before.net) ≡ 1) where
  abbrev placed : Cell
  placed = constant_cell (number_of_wires before.net) (nat_lt 0 ones) c.back

  abbrev more : List Cell
  more = placed ∷ (c.one_cells ++ c.zero_cells)

  one_fits : (cell : Cell) → HasTreeIfRead (ones_from (number_of_wires before.net) ones) (number_of_wires before.net) ones c.one_cells one → IsIn cell c.one_cells → IsFit built label cell
  one_fits cell (without idle e l) m = absurd (subst (λ (cells : List Cell). IsIn cell cells) e m)
  one_fits cell (with_tree some t s) m = (
    s.all_split cell m,
    tree_fits built label (ones_from (number_of_wires before.net) ones) (number_of_wires before.net) ones 1 c.one_cells one s (root_is some)
        (λ wire low high. ones_are wire low high) cell m,
  )

  zero_fresh : (wire : ℕ) → zeros_from (number_of_wires before.net) ones ≤ wire → wire < zeros_from (number_of_wires before.net) ones + 2 * (zeros + 1 - 1) → label wire ≡ 0
  zero_fresh wire low high = zeros_are wire low (omega (arith, c.wires))

  split : (cell : Cell) → IsIn cell (c.one_cells ++ c.zero_cells) → IsFit built label cell
  split cell m = elim (IsIn-append cell c.one_cells c.zero_cells m) [
    | inl k ↦ one_fits cell c.one_tree k
    | inr k ↦ (
      c.zero_spreads.all_split cell k,
      tree_fits built label (zeros_from (number_of_wires before.net) ones) (own_wire (number_of_wires before.net) ones) (zeros + 1) 0 c.zero_cells (c.back ∷ none)
          c.zero_spreads own_is zero_fresh cell k,
    )
  ]

  no_other : (role : Role) (preload : Bool) (feed : WireId) (q n : Option WireId) → (Const ≡ role → ⊥) → IsIn (Droc role preload feed q n) more → ⊥
  no_other role preload feed q n other (inl e) = other (let r : Const ≡ role = cc in r)
  no_other role preload feed q n other (inr m) = (split (Droc role preload feed q n) m).0

  gate_of : (cell : Cell) → IsIn cell more → FitsGate built label cell
  gate_of cell (inl e) = subst (λ (x : Cell). FitsGate built label x) e tt
  gate_of cell (inr m) = (split cell m).1

  new_fits : FitsConst label after.net true (numbered c.back) (asked_output (nat_lt 0 ones) (number_of_wires before.net)) (Some (numbered (own_wire (number_of_wires before.net) ones)))
  new_fits = record { one = refl; q_is = q_is; n_is = own_is; own = c.fits.0; on_own = c.fits.1; splitters = c.fits.2; chain = c.fits.3 }

  const_of : (preload : Bool) (feed : WireId) (q n : Option WireId) → IsIn (Droc Const preload feed q n) more → FitsConst label after.net preload feed q n
  const_of preload feed q n (inr m) = absurd (split (Droc Const preload feed q n) m).0
  const_of preload feed q n (inl e) = moved true (numbered c.back) (asked_output (nat_lt 0 ones) (number_of_wires before.net))
      (Some (numbered (own_wire (number_of_wires before.net) ones))) e new_fits
    where
      moved : (p : Bool) (f : WireId) (x y : Option WireId) → Droc Const p f x y ≡ Droc Const preload feed q n → FitsConst label after.net p f x y → FitsConst label after.net preload feed q n
      moved p f x y e k =
          let a : p ≡ preload = cc in let b : f ≡ feed = cc in let d : x ≡ q = cc in let g : y ≡ n = cc in
          subst (λ (o : Option WireId). FitsConst label after.net preload feed q o) g
          (subst (λ (o : Option WireId). FitsConst label after.net preload feed o y) d
          (subst (λ (w : WireId). FitsConst label after.net preload w x y) b (subst (λ (v : Bool). FitsConst label after.net v f x y) a k)))

  one_labels : (wire : ℕ) → HasTreeIfRead (ones_from (number_of_wires before.net) ones) (number_of_wires before.net) ones c.one_cells one → IsIn wire one → label wire ≡ 1
  one_labels wire (without idle e l) m = absurd (subst (λ (k : List ℕ). IsIn wire k) l m)
  one_labels wire (with_tree some t s) m = tree_leaves built label (ones_from (number_of_wires before.net) ones) (number_of_wires before.net) ones 1 c.one_cells one s (root_is some)
      (λ w low high. ones_are w low high) wire m

  none_labels : (wire : ℕ) → IsIn wire none → label wire ≡ 0
  none_labels wire m =
      tree_leaves built label (zeros_from (number_of_wires before.net) ones) (own_wire (number_of_wires before.net) ones) (zeros + 1) 0 c.zero_cells (c.back ∷ none)
      c.zero_spreads own_is zero_fresh wire (inr m)

  pub const_tracked : after.stock ≡ set (set before.stock 1 one) 0 none → 2 ≤ length before.stock → IsTracked built label before.pending after
  const_tracked stocked roomy = record {
    stocked = λ rail wire m. elim (cases_eq rail 0) [
      | inl e ↦ none_labels wire (subst (λ (l : List ℕ). IsIn wire l) (ap (λ (s : List (List ℕ)). get_or s rail []) stocked ∙ ap (λ (r : ℕ). get_or (set (set before.stock 1 one) 0 none) r []) e
          ∙ get_or-set_same (set before.stock 1 one) 0 none [] (omega (arith, length-set before.stock 1 one))) m) ∙ sym e
      | inr ne ↦ elim (cases_eq rail 1) [
        | inl e ↦ one_labels wire c.one_tree (subst (λ (l : List ℕ). IsIn wire l) (ap (λ (s : List (List ℕ)). get_or s rail []) stocked ∙ get_or-set_other (set before.stock 1 one) 0 rail none [] ne
            ∙ ap (λ (r : ℕ). get_or (set before.stock 1 one) r []) e ∙ get_or-set_same before.stock 1 one [] (omega arith)) m) ∙ sym e
        | inr other ↦ h.stocked rail wire (subst (λ (l : List ℕ). IsIn wire l)
            (ap (λ (s : List (List ℕ)). get_or s rail []) stocked ∙ get_or-set_other (set before.stock 1 one) 0 rail none [] ne ∙ get_or-set_other before.stock 1 rail one [] other) m)
      ]
    ];
    inputs = λ rail m. h.inputs rail (subst (λ (net : PlainNetlist). IsIn rail net.input_rails) c.added m);
    gates = λ cell m. elim (IsIn-append cell before.net.cells more (subst (λ (net : PlainNetlist). IsIn cell net.cells) c.added m)) [ inl k ↦ h.gates cell k | inr k ↦ gate_of cell k ];
    backs = λ place preload feed q n s.
        elim (place_parts before.net.cells more place (Droc Back preload feed q n) (subst (λ (net : PlainNetlist). slice_get net.cells place ≡ Some (Droc Back preload feed q n)) c.added s)) [
          | inl k ↦ subst (λ (net : PlainNetlist). IsPaired built label before.pending net.cells place preload feed q n) (sym c.added)
              (more_paired built label before.pending before.net.cells more place preload feed q n (h.backs place preload feed q n k))
          | inr k ↦ absurd (no_other Back preload feed q n (λ e. cc) k)
        ];
    fronts = λ preload feed q n m.
        elim (IsIn-append (Droc Front preload feed q n) before.net.cells more (subst (λ (net : PlainNetlist). IsIn (Droc Front preload feed q n) net.cells) c.added m)) [
          | inl k ↦ subst (λ (net : PlainNetlist). IsJoined built label before.pending net.cells preload q n) (sym c.added)
              (more_joined built label before.pending before.net.cells more preload q n (h.fronts preload feed q n k))
          | inr k ↦ absurd (no_other Front preload feed q n (λ e. cc) k)
        ];
    waits = λ place latch m. subst (λ (net : PlainNetlist). IsWaiting built net.cells place latch) (sym c.added) (more_waiting built before.net.cells more place latch (h.waits place latch m));
    constants = λ preload feed q n m.
        elim (IsIn-append (Droc Const preload feed q n) before.net.cells more (subst (λ (net : PlainNetlist). IsIn (Droc Const preload feed q n) net.cells) c.added m)) [
          | inl k ↦ same_const label before.net after.net (λ cell m d. subst (λ (net : PlainNetlist). IsIn cell net.cells) (sym c.added) (IsIn-left cell before.net.cells more m))
              preload feed q n (h.constants preload feed q n k)
          | inr k ↦ const_of preload feed q n k
        ];
    outputs = λ rail m. h.outputs rail (subst (λ (net : PlainNetlist). IsIn rail net.output_rails) c.added m);
    states = λ line m. subst (λ (net : PlainNetlist). IsStateOf built label before.pending net.cells line) (sym c.added)
        (more_state built label before.pending before.net.cells more line (h.states line (subst (λ (net : PlainNetlist). IsIn line net.states) c.added m)));
  }
