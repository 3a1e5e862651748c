-- What steps do to the labels of a draft's wires.
use Rattle.std.proofs.Common.{◌≡◌, ◌≤◌, ◌<◌, ◌+◌, ◌*◌, ◌-◌, ◌⊎◌, inl, inr, ℕ, zero, suc, Bool, not, Option, Some, List, [], ◌∷◌, ◌++◌, length, slice_get, get_or, set, ap, sym, subst, ◌∙◌, refl, arith}
use Rattle.std.specs.List.{flat_map}
use Rattle.std.proofs.lemmas.Bool.{cases_eq}
use Rattle.std.proofs.lemmas.List.{get_or-set_same, get_or-set_other, length-set}
use Rattle.pulse_ids.specs.Ids.{WireId, numbered}
use Rattle.cell_netlist.specs.declared.kinds.Gate.{Gate}
use Rattle.cell_netlist.specs.declared.kinds.Role.TheVariants.{Front, Back, Const}
use Rattle.cell_netlist.specs.declared.lines.Cell.{Cell}
use Rattle.cell_netlist.specs.declared.lines.Cell.TheVariants.{La, Fa, Split, Droc}
use Rattle.pulse_ids.specs.Lists.{IsIn, occurrences}
use Rattle.cell_netlist.specs.Netlists.{PlainNetlist, outs, reads, number_of_wires, IsDroc, Splits, SplittersBelow}
use Rattle.pulse_ids.proofs.CallerLemmas.{IsIn-append, IsIn-left, IsIn-flat_map, IsIn-place}
use Rattle.graph_build.specs.Built.{PlainBuilt}
use Rattle.splitter_trees.specs.Spreading.{IsSplitter, with_cells}
use Rattle.pulse_ids.proofs.CallerLemmasOnCounts.{IsIn-occurrences, occurrences-IsIn}
use Rattle.rail_mapper.specs.Drafts.{PlainDraft, leaves_of, readers_of, Takes, Grows, gate_cell, with_cell, Gated}
use Rattle.rail_mapper.specs.Labels.{IsGateOfNode}
use Rattle.rail_mapper.specs.Tracks.{gate_sign, IsNodeGate, FitsGate, IsPaired, IsJoined, IsWaiting, FitsConst, IsTracked}
use Rattle.wire_ledgers.proofs.CallerLemmasOnRanges.{in_range}
use Rattle.rail_mapper.specs.StateLines.{IsStateOf}
use Rattle.rail_mapper.proofs.TrackingStates.{more_state}
use Rattle.rail_mapper.proofs.Stocks.{has_place}
use Rattle.cell_netlist.specs.declared.kinds.Gate.TheVariants as gates

-- the cells of a longer list by their places
pub place_left : {X : Type 0} (xs ys : List X) (place : ℕ) (x : X) → slice_get xs place ≡ Some x → slice_get (xs ++ ys) place ≡ Some x
place_left [] ys place x e = absurd cc
place_left (z ∷ xs) ys zero x e = e
place_left (z ∷ xs) ys (suc place) x e = place_left xs ys place x e

pub place_parts : {X : Type 0} (xs ys : List X) (place : ℕ) (x : X) → slice_get (xs ++ ys) place ≡ Some x → (slice_get xs place ≡ Some x) ⊎ IsIn x ys
place_parts [] ys place x e = inr (IsIn-place x ys place e)
place_parts (z ∷ xs) ys zero x e = inl e
place_parts (z ∷ xs) ys (suc place) x e = place_parts xs ys place x e

-- more cells
pub more_paired : (built : PlainBuilt) (label : ℕ → ℕ) (pending : List (ℕ × ℕ)) (cells more : List Cell) (place : ℕ) (preload : Bool) (feed : WireId) (q n : Option WireId)
    → IsPaired built label pending cells place preload feed q n → IsPaired built label pending (cells ++ more) place preload feed q n
more_paired built label pending cells more place preload feed q n h = record {
  latch = h.latch;
  begun = h.begun;
  front = elim (h.front) [
    | inl p ↦ inl p
    | inr f ↦ inr (
      f.0,
      record {
        link_is = f.1.link_is;
        next = f.1.next;
        holds = f.1.holds;
        within = f.1.within;
        front = f.1.front;
        feed = f.1.feed;
        among = IsIn-left f.1.front cells more f.1.among;
        role = f.1.role;
        joined = f.1.joined;
        feed_is = f.1.feed_is;
      },
    )
  ];
}

pub more_joined : (built : PlainBuilt) (label : ℕ → ℕ) (pending : List (ℕ × ℕ)) (cells more : List Cell) (preload : Bool) (q n : Option WireId)
    → IsJoined built label pending cells preload q n → IsJoined built label pending (cells ++ more) preload q n
more_joined built label pending cells more preload q n h = record {
  no_n = h.no_n;
  link = h.link;
  on = h.on;
  high = h.high;
  place = h.place;
  done = h.done;
  back_feed = h.back_feed;
  back_q = h.back_q;
  back_n = h.back_n;
  back = place_left cells more h.place (Droc Back (not preload) h.back_feed h.back_q h.back_n) h.back;
  feed_is = h.feed_is;
}

-- a chain is a matter of splitters alone
pub same_chain : (one other : PlainNetlist) → ((cell : Cell) → IsIn cell one.cells → (IsDroc cell → ⊥) → IsIn cell other.cells) → (n from to : ℕ) → SplittersBelow one n from to
    → SplittersBelow other n from to
same_chain one other sub zero from to c = c
same_chain one other sub (suc n) from to c = (c.0, (c.1.0, sub c.1.0 c.1.1 (splits_no_droc c.1.0 from c.0 c.1.2), c.1.2), same_chain one other sub n c.0 to c.2)
  where
    splits_no_droc : (cell : Cell) (from to : ℕ) → Splits cell from to → IsDroc cell → ⊥
    splits_no_droc (La a b out) from to s d = d
    splits_no_droc (Fa a b out) from to s d = d
    splits_no_droc (Split source left right) from to s d = d
    splits_no_droc (Droc role preload feed q n) from to s d = s

pub same_const : (label : ℕ → ℕ) (one other : PlainNetlist) → ((cell : Cell) → IsIn cell one.cells → (IsDroc cell → ⊥) → IsIn cell other.cells)
    → (preload : Bool) (feed : WireId) (q n : Option WireId)
    → FitsConst label one preload feed q n → FitsConst label other preload feed q n
same_const label one other sub preload feed q n h =
    record { one = h.one; q_is = h.q_is; n_is = h.n_is; own = h.own; on_own = h.on_own; splitters = h.splitters; chain = same_chain one other sub h.splitters h.own feed.number h.chain }

pub more_waiting : (built : PlainBuilt) (cells more : List Cell) (place latch : ℕ) → IsWaiting built cells place latch → IsWaiting built (cells ++ more) place latch
more_waiting built cells more place latch h = record { init = h.init; first = h.first; q = h.q; n = h.n; is = place_left cells more place (Droc Back h.init (numbered 0) h.q h.n) h.is }

-- gates and splitters that fit
pub cells_tracked : (built : PlainBuilt) (label : ℕ → ℕ) (pending : List (ℕ × ℕ)) (before after : PlainDraft) (more : List Cell) → IsTracked built label pending before
    → after.net ≡ with_cells before.net more → ((cell : Cell) → IsIn cell more → FitsGate built label cell) → ((cell : Cell) → IsIn cell more → IsDroc cell → ⊥)
    → ((rail wire : ℕ) → IsIn wire (leaves_of after rail) → label wire ≡ rail) → IsTracked built label pending after
cells_tracked built label pending before after more h e fit gate stocked = record {
  stocked = stocked;
  inputs = λ rail m. h.inputs rail (subst (λ (net : PlainNetlist). IsIn rail net.input_rails) e m);
  gates = λ cell m. elim (IsIn-append cell before.net.cells more (subst (λ (net : PlainNetlist). IsIn cell net.cells) e m)) [ inl k ↦ h.gates cell k | inr k ↦ fit cell k ];
  backs = λ place preload feed q n s.
      elim (place_parts before.net.cells more place (Droc Back preload feed q n) (subst (λ (net : PlainNetlist). slice_get net.cells place ≡ Some (Droc Back preload feed q n)) e s)) [
        | inl k ↦ subst (λ (net : PlainNetlist). IsPaired built label pending net.cells place preload feed q n) (sym e)
            (more_paired built label pending before.net.cells more place preload feed q n (h.backs place preload feed q n k))
        | inr k ↦ absurd (gate (Droc Back preload feed q n) k tt)
      ];
  fronts = λ preload feed q n m.
      elim (IsIn-append (Droc Front preload feed q n) before.net.cells more (subst (λ (net : PlainNetlist). IsIn (Droc Front preload feed q n) net.cells) e m)) [
        | inl k ↦ subst (λ (net : PlainNetlist). IsJoined built label pending net.cells preload q n) (sym e)
            (more_joined built label pending before.net.cells more preload q n (h.fronts preload feed q n k))
        | inr k ↦ absurd (gate (Droc Front preload feed q n) k tt)
      ];
  waits = λ place latch m. subst (λ (net : PlainNetlist). IsWaiting built net.cells place latch) (sym e) (more_waiting built before.net.cells more place latch (h.waits place latch m));
  constants = λ preload feed q n m.
      elim (IsIn-append (Droc Const preload feed q n) before.net.cells more (subst (λ (net : PlainNetlist). IsIn (Droc Const preload feed q n) net.cells) e m)) [
        | inl k ↦ same_const label before.net after.net (λ cell m d. subst (λ (net : PlainNetlist). IsIn cell net.cells) (sym e) (IsIn-left cell before.net.cells more m)) preload feed q n
            (h.constants preload feed q n k)
        | inr k ↦ absurd (gate (Droc Const preload feed q n) k tt)
      ];
  outputs = λ rail m. h.outputs rail (subst (λ (net : PlainNetlist). IsIn rail net.output_rails) e m);
  states = λ line m. subst (λ (net : PlainNetlist). IsStateOf built label pending net.cells line) (sym e)
      (more_state built label pending before.net.cells more line (h.states line (subst (λ (net : PlainNetlist). IsIn line net.states) e m)));
}

-- a leaf is taken
pub take_tracked : (built : PlainBuilt) (label : ℕ → ℕ) (pending : List (ℕ × ℕ)) (before after : PlainDraft) (rail wire : ℕ) → IsTracked built label pending before → Takes rail wire before after
    → IsTracked built label pending after × (label wire ≡ rail)
take_tracked built label pending before after rail wire h take = (
  subst (λ (d : PlainDraft). IsTracked built label pending d) (sym take.taken) (record {
    stocked = λ other w m. elim (cases_eq other rail) [
      | inl e ↦ h.stocked other w (subst (λ (l : List ℕ). IsIn w l) (sym (ap (λ (r : ℕ). leaves_of before r) e ∙ take.first))
          (inr (subst (λ (l : List ℕ). IsIn w l) (ap (λ (r : ℕ). get_or (set before.stock rail take.rest) r []) e ∙ get_or-set_same before.stock rail take.rest [] place) m)))
      | inr ne ↦ h.stocked other w (subst (λ (l : List ℕ). IsIn w l) (get_or-set_other before.stock rail other take.rest [] ne) m)
    ];
    inputs = h.inputs;
    gates = h.gates;
    backs = h.backs;
    fronts = h.fronts;
    waits = h.waits;
    constants = h.constants;
    outputs = h.outputs;
    states = h.states;
  }),
  h.stocked rail wire (subst (λ (l : List ℕ). IsIn wire l) (sym take.first) (inl refl)),
)
  where
    place : rail < length before.stock
    place = has_place before.stock rail wire take.rest take.first

-- a splitter's wires stand among those that are labelled alike
pub split_fits : (built : PlainBuilt) (label : ℕ → ℕ) (rail : ℕ) (cell : Cell) → IsSplitter cell → ((wire : ℕ) → IsIn wire (reads cell) → label wire ≡ rail)
    → ((wire : ℕ) → IsIn wire (outs cell) → label wire ≡ rail) → FitsGate built label cell
split_fits built label rail (La a b out) s r o = absurd s
split_fits built label rail (Fa a b out) s r o = absurd s
split_fits built label rail (Split from left right) s r o = (o left.number (inl refl) ∙ sym (r from.number (inl refl)), o right.number (inr (inl refl)) ∙ sym (r from.number (inl refl)))
split_fits built label rail (Droc role preload feed q n) s r o = absurd s

pub no_droc : (cell : Cell) → IsSplitter cell → IsDroc cell → ⊥
no_droc (La a b out) s d = d
no_droc (Fa a b out) s d = d
no_droc (Split from left right) s d = d
no_droc (Droc role preload feed q n) s d = s

-- a rail is spread from a wire that carries it
pub grow_tracked : (built : PlainBuilt) (label : ℕ → ℕ) (pending : List (ℕ × ℕ)) (before after : PlainDraft) (rail root : ℕ) → IsTracked built label pending before → Grows rail root before after
    → rail < length before.stock → label root ≡ rail → ((wire : ℕ) → number_of_wires before.net ≤ wire → wire < number_of_wires after.net → label wire ≡ rail) → IsTracked built label pending after
grow_tracked built label pending before after rail root h grow place root_is fresh =
    cells_tracked built label pending before after grow.spread.cells h grow.spread.added
    (λ cell m. split_fits built label rail cell (grow.spread.spreads.all_split cell m)
    (λ wire r. its wire (occurs_its wire (omega (
      arith,
      grow.spread.spreads.once wire,
      IsIn-occurrences wire (flat_map reads grow.spread.cells)
          (IsIn-flat_map reads wire cell grow.spread.cells m r),
    ))))
    (λ wire o. new wire (IsIn-flat_map outs wire cell grow.spread.cells m o)))
    (λ cell m. no_droc cell (grow.spread.spreads.all_split cell m))
    (λ other wire m. elim (cases_eq other rail) [
      | inl e ↦ let l : IsIn wire grow.leaves = subst (λ (l : List ℕ). IsIn wire l)
          (ap (λ (s : List (List ℕ)). get_or s other []) grow.stocked ∙ ap (λ (r : ℕ). get_or (set before.stock rail grow.leaves) r []) e
          ∙ get_or-set_same before.stock rail grow.leaves [] place) m in
          its wire (occurs_its wire (omega (arith, grow.spread.spreads.once wire, IsIn-occurrences wire grow.leaves l))) ∙ sym e
      | inr ne ↦ h.stocked other wire (subst (λ (l : List ℕ). IsIn wire l) (ap (λ (s : List (List ℕ)). get_or s other []) grow.stocked ∙ get_or-set_other before.stock rail other grow.leaves [] ne) m)
    ])
  where
    new : (wire : ℕ) → IsIn wire (flat_map outs grow.spread.cells) → label wire ≡ rail
    new wire m = let r = in_range (number_of_wires before.net) (2 * (readers_of before rail - 1)) wire (subst (λ (l : List ℕ). IsIn wire l) grow.spread.spreads.drives m) in
        fresh wire r.0 (omega (arith, grow.spread.wires))

    occurs_its : (wire : ℕ) → 1 ≤ occurrences wire (root ∷ flat_map outs grow.spread.cells) → IsIn wire (root ∷ flat_map outs grow.spread.cells)
    occurs_its wire h = occurrences-IsIn wire (root ∷ flat_map outs grow.spread.cells) h

    its : (wire : ℕ) → IsIn wire (root ∷ flat_map outs grow.spread.cells) → label wire ≡ rail
    its wire (inl e) = ap label (sym e) ∙ root_is
    its wire (inr m) = new wire m

-- a gate of a node with its tree
gate_fits : (built : PlainBuilt) (label : ℕ → ℕ) (gate : Gate) (a b out : ℕ) → IsGateOfNode built label (gate_sign gate) a b out → FitsGate built label (gate_cell gate a b out)
gate_fits built label gates.La a b out h = h
gate_fits built label gates.Fa a b out h = h

gate_no_droc : (gate : Gate) (a b out : ℕ) → IsDroc (gate_cell gate a b out) → ⊥
gate_no_droc gates.La a b out d = d
gate_no_droc gates.Fa a b out d = d

pub gated_tracked : (built : PlainBuilt) (label : ℕ → ℕ) (pending : List (ℕ × ℕ)) (before after : PlainDraft) (gate : Gate) (low high rail : ℕ) → IsTracked built label pending before
    → (gated : Gated gate low high rail before after)
    → rail < length before.stock → IsNodeGate built gate low high rail
    → number_of_wires (with_cell gated.two (gate_cell gate gated.a gated.b (number_of_wires before.net))).net ≡ number_of_wires before.net + 1
    → ((wire : ℕ) → number_of_wires before.net ≤ wire → wire < number_of_wires after.net → label wire ≡ rail)
    → IsTracked built label pending after
gated_tracked built label pending before after gate low high rail h gated place node one_more fresh =
    grow_tracked built label pending (with_cell gated.two (gate_cell gate gated.a gated.b (number_of_wires before.net))) after rail (number_of_wires before.net) with_gate gated.grown still_place
    out_is (λ wire low high. fresh wire (omega arith) high)
  where
    h1 : IsTracked built label pending gated.one × (label gated.a ≡ low)
    h1 = take_tracked built label pending before gated.one low gated.a h gated.low_taken

    h2 : IsTracked built label pending gated.two × (label gated.b ≡ high)
    h2 = take_tracked built label pending gated.one gated.two high gated.b h1.0 gated.high_taken

    out_is : label (number_of_wires before.net) ≡ rail
    out_is = fresh (number_of_wires before.net) (omega arith) (omega (arith, gated.grown.spread.wires))

    with_gate : IsTracked built label pending (with_cell gated.two (gate_cell gate gated.a gated.b (number_of_wires before.net)))
    with_gate = cells_tracked built label pending gated.two (with_cell gated.two (gate_cell gate gated.a gated.b (number_of_wires before.net)))
        (gate_cell gate gated.a gated.b (number_of_wires before.net) ∷ []) h2.0 refl
        (λ cell m. only cell m) (λ cell m. only_gate cell m) h2.0.stocked
      where
        only : (cell : Cell) → IsIn cell (gate_cell gate gated.a gated.b (number_of_wires before.net) ∷ []) → FitsGate built label cell
        only cell (inl e) = subst (λ (c : Cell). FitsGate built label c) e (gate_fits built label gate gated.a gated.b (number_of_wires before.net) (record {
          node = node.node;
          low = node.low_literal;
          high = node.high_literal;
          stands = node.stands;
          inside = node.inside;
          low_before = node.low_before;
          high_before = node.high_before;
          out_is = out_is ∙ node.rail_is;
          a_is = h1.1 ∙ node.low_is;
          b_is = h2.1 ∙ node.high_is;
        }))
        only cell (inr m) = absurd m

        only_gate : (cell : Cell) → IsIn cell (gate_cell gate gated.a gated.b (number_of_wires before.net) ∷ []) → IsDroc cell → ⊥
        only_gate cell (inl e) d = gate_no_droc gate gated.a gated.b (number_of_wires before.net) (subst (λ (c : Cell). IsDroc c) (sym e) d)
        only_gate cell (inr m) d = absurd m

    still_place : rail < length gated.two.stock
    still_place = omega (
      arith,
      ap (λ (d : PlainDraft). length d.stock) gated.high_taken.taken,
      length-set gated.one.stock high gated.high_taken.rest,
      ap
          (λ (d : PlainDraft). length d.stock) gated.low_taken.taken,
      length-set before.stock low gated.low_taken.rest,
    )
