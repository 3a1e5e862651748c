-- Rails whose wires are in hand: those of inputs and latches.
use Rattle.std.proofs.Common.{◌≡◌, ◌≤◌, ◌<◌, ◌+◌, ◌*◌, ◌-◌, ◌⊎◌, inl, inr, ℕ, suc, Bool, true, false, Option, Some, List, [], ◌∷◌, ◌++◌, map, length, slice_get, get_or, set, replicate, ap, sym}
use Rattle.std.proofs.Common.{subst, ◌∙◌, refl, arith, if◌then◌else◌}
use Rattle.std.proofs.lemmas.Bool.{cases_eq}
use Rattle.std.proofs.lemmas.List.{get_or-set_same, get_or-set_other, length-set, length-append, length-replicate, map-append}
use Rattle.pulse_ids.specs.declared.literals.Sign.{Sign}
use Rattle.pulse_ids.specs.declared.literals.Sign.TheVariants.{Pos, Neg}
use Rattle.cell_netlist.specs.declared.kinds.Ask.{Ask}
use Rattle.pulse_ids.specs.Lists.{IsIn, occurrences}
use Rattle.pulse_ids.proofs.CallerLemmas.{IsIn-append, IsIn-right}
use Rattle.cell_netlist.specs.declared.kinds.Version.{Version}
use Rattle.cell_netlist.specs.declared.kinds.Version.TheVariants.{One, Two}
use Rattle.cell_netlist.specs.declared.lines.StateLine.{StateLine}
use Rattle.cell_netlist.specs.Netlists.{PlainNetlist, number_of_wires}
use Rattle.aig_core.specs.declared.nodes.Node.{Node}
use Rattle.aig_core.specs.Graphs.{nodes_of}
use Rattle.graph_build.specs.Built.{PlainBuilt}
use Rattle.rail_demand.specs.Demands.{PlainDemand, is_needed}
use Rattle.splitter_trees.specs.Spreading.{with_cells}
use Rattle.pulse_ids.proofs.CallerLemmasOnCounts.{occurrences-append}
use Rattle.droc_pairs.specs.Pairs.{asked_output, wires_for, begun_back}
use Rattle.wire_ledgers.specs.Ledgers.{IsLedger}
use Rattle.rail_mapper.specs.Drafts.{PlainDraft, readers_of, open_in, Grows, with_cell, IsDraft, HasRoom, spare}
use Rattle.rail_mapper.specs.Labels.{rail_number, sign_in, IsLabelledIfUsed, rails_in}
use Rattle.rail_mapper.specs.Plans.{fan_in, rail_uses, left_from}
use Rattle.rail_mapper.specs.InputStages.{held_if}
use Rattle.rail_mapper.specs.Stages.{Follows, IsStage, IsHeld, GrowsIf, grown, bare, begun_draft}
use Rattle.rail_mapper.specs.StateLines.{line_if, lines_of}
use Rattle.rail_mapper.specs.Tracks.{IsBegunFor, IsTracked}
use Rattle.rail_mapper.proofs.DraftSteps.{grow_step}
use Rattle.rail_mapper.proofs.DraftLedgers.{begin_step, back_number, back_wires}
use Rattle.wire_ledgers.proofs.CallerLemmas.{same_open}
use Rattle.rail_mapper.proofs.StageSteps.{node_of, next_uses, follows_front, follows_last}
use Rattle.rail_mapper.proofs.BackPlaces.{line_pair}
use Rattle.rail_mapper.proofs.Tracking.{grow_tracked, same_const}
use Rattle.rail_mapper.proofs.TrackingBacks.{begin_tracked}
use Rattle.aig_core.specs.declared.nodes.Node.TheVariants as nodes

module _ (built : PlainBuilt) (demand : PlainDemand) (ask : Ask) (rail : ℕ) (low_rail : rail < rails_in built) (no_reads : rail_uses built demand rail ≡ []) where
  same_left : left_from built demand ask rail ≡ left_from built demand ask (rail + 1)
  same_left = next_uses built demand ask rail low_rail ∙ ap (λ (l : List ℕ). l ++ left_from built demand ask (rail + 1)) no_reads

  pub held_skipped : (draft : PlainDraft) (hand : List (ℕ × ℕ)) → IsHeld built demand ask rail hand draft → readers_of draft rail ≡ 0 → IsHeld built demand ask (rail + 1) hand draft
  held_skipped draft hand h none = record {
    is_draft = subst (λ (l : List ℕ). IsDraft draft (map (λ (p : ℕ × ℕ). p.0) hand) (map (λ (p : ℕ × ℕ). 0) draft.pending) l) same_left h.is_draft;
    is_at = record {
      spread = λ below low. elim (cases_eq below rail) [ inl e ↦ ap (readers_of draft) e ∙ none | inr ne ↦ h.is_at.spread below (omega arith) ];
      bare = λ above low. h.is_at.bare above (omega arith);
    };
    planned = λ other low. h.planned other (omega arith);
    stock_size = h.stock_size;
    counts_size = h.counts_size;
    labels = h.labels;
    one_each = h.one_each;
    tracked = h.tracked;
  }

  pub held_grown : (before after : PlainDraft) (root : ℕ) (hand : List (ℕ × ℕ)) → IsHeld built demand ask rail ((root, rail) ∷ hand) before → 1 ≤ readers_of before rail → Grows rail root before after
      → IsHeld built demand ask (rail + 1) hand after
  held_grown before after root hand h some grow = record {
    is_draft = subst (λ (p : List (ℕ × ℕ)). IsDraft after (map (λ (q : ℕ × ℕ). q.0) hand) (map (λ (q : ℕ × ℕ). 0) p) (left_from built demand ask (rail + 1))) (sym grow.same_pending)
        (grow_step before after (map (λ (q : ℕ × ℕ). q.0) hand) (map (λ (q : ℕ × ℕ). 0) before.pending) (left_from built demand ask (rail + 1)) rail root
        (subst (λ (l : List ℕ). IsDraft before (root ∷ map (λ (q : ℕ × ℕ). q.0) hand) (map (λ (q : ℕ × ℕ). 0) before.pending) l) same_left h.is_draft)
        (h.is_at.bare rail (omega arith)) place counter grow);
    is_at = record {
      spread = λ below low. ap (λ (c : List ℕ). get_or c below 0) grow.counted ∙ elim (cases_eq below rail) [
        | inl e ↦ ap (λ (r : ℕ). get_or (set before.counts rail 0) r 0) e ∙ get_or-set_same before.counts rail 0 0 counter
        | inr ne ↦ get_or-set_other before.counts rail below 0 0 ne ∙ h.is_at.spread below (omega arith)
      ];
      bare = λ above low. ap (λ (s : List (List ℕ)). get_or s above []) grow.stocked ∙ get_or-set_other before.stock rail above grow.leaves [] (λ e. absurd (omega arith))
          ∙ h.is_at.bare above (omega arith);
    };
    planned = λ other low. ap (λ (c : List ℕ). get_or c other 0) grow.counted ∙ get_or-set_other before.counts rail other 0 0 (λ e. absurd (omega arith)) ∙ h.planned other (omega arith);
    stock_size = ap (λ (l : List (List ℕ)). length l) grow.stocked ∙ length-set before.stock rail grow.leaves ∙ h.stock_size;
    counts_size = ap (λ (l : List ℕ). length l) grow.counted ∙ length-set before.counts rail 0 ∙ h.counts_size;
    labels = h.labels ++ replicate (2 * (readers_of before rail - 1)) rail;
    one_each = length-append h.labels (replicate (2 * (readers_of before rail - 1)) rail) ∙ ap (λ (k : ℕ). length h.labels + k) (length-replicate (2 * (readers_of before rail - 1)) rail)
        ∙ ap (λ (k : ℕ). k + 2 * (readers_of before rail - 1)) h.one_each ∙ sym grow.spread.wires;
    tracked = λ label f.
        let t = h.tracked label (follows_front h.labels (replicate (2 * (readers_of before rail - 1)) rail) label f) in (
          subst (λ (p : List (ℕ × ℕ)). IsTracked built label p after) (sym grow.same_pending)
              (grow_tracked built label before.pending before after rail root t.0 grow place (t.1 root rail (inl refl))
              (λ wire low high. follows_last h.labels (2 * (readers_of before rail - 1)) rail label f wire (omega (arith, h.one_each)) (omega (arith, h.one_each, grow.spread.wires)))),
          λ wire its m. t.1 wire its (inr m),
        );
  }
    where
      place : rail < length before.stock
      place = omega (arith, h.stock_size)

      counter : rail < length before.counts
      counter = omega (arith, h.counts_size)

  pub held_grown_if : (before after : PlainDraft) (root : ℕ) (hand more : List (ℕ × ℕ)) → IsHeld built demand ask rail hand before
      → (1 ≤ readers_of before rail → hand ≡ (root, rail) ∷ more) → (readers_of before rail ≡ 0 → hand ≡ more)
      → GrowsIf rail root before after → IsHeld built demand ask (rail + 1) more after
  held_grown_if before after root hand more h with_root without (grown some grow) =
      held_grown before after root more (subst (λ (l : List (ℕ × ℕ)). IsHeld built demand ask rail l before) (with_root some) h) some grow
  held_grown_if before after root hand more h with_root without (bare none e) =
      subst (λ (d : PlainDraft). IsHeld built demand ask (rail + 1) more d) (sym e)
      (held_skipped before more (subst (λ (l : List (ℕ × ℕ)). IsHeld built demand ask rail l before) (without none) h) none)

-- with nothing in hand
pub held_stage : (built : PlainBuilt) (demand : PlainDemand) (ask : Ask) (rail : ℕ) (draft : PlainDraft) → IsStage built demand ask rail draft → IsHeld built demand ask rail [] draft
held_stage built demand ask rail draft h = record {
  is_draft = h.is_draft;
  is_at = h.is_at;
  planned = h.planned;
  stock_size = h.stock_size;
  counts_size = h.counts_size;
  labels = h.labels;
  one_each = h.one_each;
  tracked = λ label f. (h.tracked label f, λ wire its m. absurd m);
}

pub stage_held : (built : PlainBuilt) (demand : PlainDemand) (ask : Ask) (rail : ℕ) (draft : PlainDraft) → IsHeld built demand ask rail [] draft → HasRoom spare draft
    → IsStage built demand ask rail draft
stage_held built demand ask rail draft h room = record {
  is_draft = h.is_draft;
  is_at = h.is_at;
  planned = h.planned;
  stock_size = h.stock_size;
  counts_size = h.counts_size;
  room = room;
  labels = h.labels;
  one_each = h.one_each;
  tracked = λ label f. (h.tracked label f).0;
}

-- a latch's rails read nothing at once
pub no_latch_reads : (built : PlainBuilt) (demand : PlainDemand) (node latch : ℕ) (sign : Sign) → slice_get (nodes_of built.graph) node ≡ Some (nodes.Latch latch)
    → rail_uses built demand (rail_number node sign) ≡ []
no_latch_reads built demand node latch sign stands =
    ap (λ (k : ℕ). if is_needed demand k (sign_in (rail_number node sign)) then fan_in (slice_get (nodes_of built.graph) k) (sign_in (rail_number node sign)) else []) (node_of node sign)
    ∙ ap (λ (o : Option Node). if is_needed demand node (sign_in (rail_number node sign)) then fan_in o (sign_in (rail_number node sign)) else []) stands
    ∙ none (is_needed demand node (sign_in (rail_number node sign)))
  where
    none : (b : Bool) → (if b then fan_in (Some (nodes.Latch latch)) (sign_in (rail_number node sign)) else []) ≡ []
    none true = refl
    none false = refl

abbrev pub label_if : Bool → ℕ → List ℕ
label_if asked rail = if asked then rail ∷ [] else []

abbrev pub begun : PlainDraft → ℕ → Bool → Bool → Bool → PlainDraft
begun draft latch init q n = begun_draft draft latch init q n

-- a ledger doesn't tell of state lines
other_lines : (net : PlainNetlist) (states : List StateLine) (open_wires debts : List ℕ) → IsLedger net open_wires debts → IsLedger (record net { states = states }) open_wires debts
other_lines net states open_wires debts h = record { in_order = h.in_order; once = h.once; inside = h.inside; rise = h.rise }

held_wires : (q n : Bool) (next pos neg : ℕ) → map (λ (p : ℕ × ℕ). p.0) (held_if q next pos ++ held_if n (next + wires_for q) neg) ≡ back_wires next q n
held_wires true true next pos neg = refl
held_wires true false next pos neg = refl
held_wires false true next pos neg = refl
held_wires false false next pos neg = refl

label_count : (q n : Bool) (pos neg : ℕ) → length (label_if q pos ++ label_if n neg) ≡ wires_for q + wires_for n
label_count true true pos neg = refl
label_count true false pos neg = refl
label_count false true pos neg = refl
label_count false false pos neg = refl

pub get_or-behind : (xs ys : List ℕ) (k : ℕ) → get_or (xs ++ ys) (length xs + k) 0 ≡ get_or ys k 0
get_or-behind [] ys k = let z : 0 + k ≡ k = omega arith in rw z refl
get_or-behind (x ∷ xs) ys k = let z : suc (length xs) + k ≡ suc (length xs + k) = omega arith in rw z (get_or-behind xs ys k)

same_debts : (net : PlainNetlist) (open_wires before after : List ℕ) → IsLedger net open_wires before → ((wire : ℕ) → occurrences wire after ≡ occurrences wire before) → IsLedger net open_wires after
same_debts net open_wires before after ledger same =
    record { in_order = ledger.in_order; once = λ wire. let o = ledger.once wire in let s = same wire in omega arith; inside = ledger.inside; rise = ledger.rise }

pub held_begun : (built : PlainBuilt) (demand : PlainDemand) (ask : Ask) (node latch : ℕ) (draft : PlainDraft) (init q n : Bool) → IsHeld built demand ask (rail_number node Pos) [] draft
    → slice_get (nodes_of built.graph) node ≡ Some (nodes.Latch latch) → slice_get built.inits latch ≡ Some init → (q ≡ true) ⊎ (n ≡ true)
    → IsHeld built demand ask (rail_number node Pos) (held_if q (number_of_wires draft.net) (rail_number node Pos)
    ++ held_if n (number_of_wires draft.net + wires_for q) (rail_number node Neg)) (begun draft latch init q n)
held_begun built demand ask node latch draft init q n h stands first asked = record {
  is_draft = record {
    ledger = other_lines (with_cells draft.net (begun_back (number_of_wires draft.net) init q n ∷ [])) (draft.net.states ++ line_if draft.net.version latch (length draft.net.cells)) _ _
        (same_debts (with_cells draft.net (begun_back (number_of_wires draft.net) init q n ∷ []))
        (open_in draft ++ map (λ (p : ℕ × ℕ). p.0) (held_if q (number_of_wires draft.net) (rail_number node Pos)
        ++ held_if n (number_of_wires draft.net + wires_for q) (rail_number node Neg))) (0 ∷ map (λ (p : ℕ × ℕ). 0) draft.pending) (map (λ (p : ℕ × ℕ). 0) (draft.pending
        ++ (let half : ℕ × ℕ = (length draft.net.cells, latch) in half) ∷ []))
        (same_open (with_cells draft.net (begun_back (number_of_wires draft.net) init q n ∷ [])) (back_wires (number_of_wires draft.net) q n ++ (open_in draft ++ []))
        (open_in draft ++ map (λ (p : ℕ × ℕ). p.0) (held_if q (number_of_wires draft.net) (rail_number node Pos)
        ++ held_if n (number_of_wires draft.net + wires_for q) (rail_number node Neg))) (0 ∷ map (λ (p : ℕ × ℕ). 0) draft.pending)
        (begin_step draft.net init q n (open_in draft ++ []) (map (λ (p : ℕ × ℕ). 0) draft.pending) h.is_draft.ledger asked)
        (λ wire.
        let a = occurrences-append wire (back_wires (number_of_wires draft.net) q n) (open_in draft ++ []) in
        let b = occurrences-append wire (open_in draft) [] in
        let c = occurrences-append wire (open_in draft) (map (λ (p : ℕ × ℕ). p.0)
        (held_if q (number_of_wires draft.net) (rail_number node Pos) ++ held_if n (number_of_wires draft.net + wires_for q) (rail_number node Neg))) in
        let d = ap (occurrences wire) (held_wires q n (number_of_wires draft.net) (rail_number node Pos) (rail_number node Neg)) in omega arith))
        (λ wire.
        let a = ap (occurrences wire) (map-append (λ (p : ℕ × ℕ). 0) draft.pending ((let half : ℕ × ℕ = (length draft.net.cells, latch) in half) ∷ [])) in
        let b = occurrences-append wire (map (λ (p : ℕ × ℕ). 0) draft.pending) (0 ∷ []) in omega arith));
    exact = h.is_draft.exact;
  };
  is_at = record { spread = h.is_at.spread; bare = h.is_at.bare };
  planned = h.planned;
  stock_size = h.stock_size;
  counts_size = h.counts_size;
  labels = h.labels ++ (label_if q (rail_number node Pos) ++ label_if n (rail_number node Neg));
  one_each = length-append h.labels (label_if q (rail_number node Pos) ++ label_if n (rail_number node Neg))
      ∙ ap (λ (k : ℕ). length h.labels + k) (label_count q n (rail_number node Pos) (rail_number node Neg))
      ∙ ap (λ (k : ℕ). k + (wires_for q + wires_for n)) h.one_each ∙ sym (back_number draft.net init q n asked);
  tracked = λ label f. (
    moved label (begin_tracked built label draft.pending draft latch init q n
        (h.tracked label (follows_front h.labels (label_if q (rail_number node Pos) ++ label_if n (rail_number node Neg)) label f)).0 (begun_for label f)),
    held label f,
  );
}
  where
    wire_label : (label : ℕ → ℕ) → Follows (h.labels ++ (label_if q (rail_number node Pos) ++ label_if n (rail_number node Neg))) label → (k : ℕ) → k < wires_for q + wires_for n
        → label (number_of_wires draft.net + k) ≡ get_or (label_if q (rail_number node Pos) ++ label_if n (rail_number node Neg)) k 0
    wire_label label f k low =
        let e : number_of_wires draft.net + k ≡ length h.labels + k = omega (arith, h.one_each) in
        f (number_of_wires draft.net + k) (omega (
          arith,
          h.one_each,
          length-append h.labels (label_if q (rail_number node Pos) ++ label_if n (rail_number node Neg)),
          label_count q n
              (rail_number node Pos) (rail_number node Neg),
        ))
        ∙ ap (λ (w : ℕ). get_or (h.labels ++ (label_if q (rail_number node Pos) ++ label_if n (rail_number node Neg))) w 0) e
        ∙ get_or-behind h.labels (label_if q (rail_number node Pos) ++ label_if n (rail_number node Neg)) k

    its_q : (label : ℕ → ℕ) (q n : Bool) → ((k : ℕ) → k < wires_for q + wires_for n
        → label (number_of_wires draft.net + k) ≡ get_or (label_if q (rail_number node Pos) ++ label_if n (rail_number node Neg)) k 0)
        → IsLabelledIfUsed label (asked_output q (number_of_wires draft.net)) (rail_number node Pos)
    its_q label false n w = tt
    its_q label true true w = (let z : number_of_wires draft.net ≡ number_of_wires draft.net + 0 = omega arith in ap label z) ∙ w 0 (omega arith)
    its_q label true false w = (let z : number_of_wires draft.net ≡ number_of_wires draft.net + 0 = omega arith in ap label z) ∙ w 0 (omega arith)

    its_n : (label : ℕ → ℕ) (q n : Bool) → ((k : ℕ) → k < wires_for q + wires_for n
        → label (number_of_wires draft.net + k) ≡ get_or (label_if q (rail_number node Pos) ++ label_if n (rail_number node Neg)) k 0)
        → IsLabelledIfUsed label (asked_output n (number_of_wires draft.net + wires_for q)) (rail_number node Neg)
    its_n label q false w = tt
    its_n label true true w = w 1 (omega arith)
    its_n label false true w = w 0 (omega arith)

    begun_for : (label : ℕ → ℕ) → Follows (h.labels ++ (label_if q (rail_number node Pos) ++ label_if n (rail_number node Neg))) label
        → IsBegunFor built label latch init (asked_output q (number_of_wires draft.net)) (asked_output n (number_of_wires draft.net + wires_for q))
    begun_for label f = record { node = node; stands = stands; first = first; q_is = its_q label q n (wire_label label f); n_is = its_n label q n (wire_label label f) }

    one_line : (version : Version) (line : StateLine) → IsIn line (line_if version latch (length draft.net.cells))
        → IsIn line (lines_of version ((let half : ℕ × ℕ = (length draft.net.cells, latch) in half) ∷ []))
    one_line One line m = m
    one_line Two line m = m

    moved : (label : ℕ → ℕ) → IsTracked built label (draft.pending ++ (let half : ℕ × ℕ = (length draft.net.cells, latch) in half) ∷ [])
        (with_cell draft (begun_back (number_of_wires draft.net) init q n))
        → IsTracked built label (draft.pending ++ (let half : ℕ × ℕ = (length draft.net.cells, latch) in half) ∷ []) (begun draft latch init q n)
    moved label t = record {
      stocked = t.stocked;
      inputs = t.inputs;
      gates = t.gates;
      backs = t.backs;
      fronts = t.fronts;
      waits = t.waits;
      constants = λ preload feed q_on n_on m. same_const label (with_cells draft.net (begun_back (number_of_wires draft.net) init q n ∷ [])) (begun draft latch init q n).net (λ cell k d. k)
          preload feed q_on n_on (t.constants preload feed q_on n_on m);
      outputs = t.outputs;
      states = λ line m. elim (IsIn-append line draft.net.states (line_if draft.net.version latch (length draft.net.cells)) m) [
        | inl k ↦ t.states line k
        | inr k ↦ inl (IsIn-right (line.cell.number, line.latch) draft.pending ((let half : ℕ × ℕ = (length draft.net.cells, latch) in half) ∷ [])
            (line_pair draft.net.version ((let half : ℕ × ℕ = (length draft.net.cells, latch) in half) ∷ []) line (one_line draft.net.version line k)))
      ];
    }

    in_hand : (label : ℕ → ℕ) (q n : Bool) → IsLabelledIfUsed label (asked_output q (number_of_wires draft.net)) (rail_number node Pos)
        → IsLabelledIfUsed label (asked_output n (number_of_wires draft.net + wires_for q)) (rail_number node Neg)
        → (wire its : ℕ) → IsIn {X = ℕ × ℕ} (wire, its) (held_if q (number_of_wires draft.net) (rail_number node Pos)
        ++ held_if n (number_of_wires draft.net + wires_for q) (rail_number node Neg)) → label wire ≡ its
    in_hand label true true a b wire its (inl e) = ap label (sym (ap (λ (p : ℕ × ℕ). p.0) e)) ∙ a ∙ ap (λ (p : ℕ × ℕ). p.1) e
    in_hand label true true a b wire its (inr (inl e)) = ap label (sym (ap (λ (p : ℕ × ℕ). p.0) e)) ∙ b ∙ ap (λ (p : ℕ × ℕ). p.1) e
    in_hand label true true a b wire its (inr (inr m)) = absurd m
    in_hand label true false a b wire its (inl e) = ap label (sym (ap (λ (p : ℕ × ℕ). p.0) e)) ∙ a ∙ ap (λ (p : ℕ × ℕ). p.1) e
    in_hand label true false a b wire its (inr m) = absurd m
    in_hand label false true a b wire its (inl e) = ap label (sym (ap (λ (p : ℕ × ℕ). p.0) e)) ∙ b ∙ ap (λ (p : ℕ × ℕ). p.1) e
    in_hand label false true a b wire its (inr m) = absurd m
    in_hand label false false a b wire its m = absurd m

    held : (label : ℕ → ℕ) → Follows (h.labels ++ (label_if q (rail_number node Pos) ++ label_if n (rail_number node Neg))) label
        → (wire its : ℕ) → IsIn {X = ℕ × ℕ} (wire, its) (held_if q (number_of_wires draft.net) (rail_number node Pos)
        ++ held_if n (number_of_wires draft.net + wires_for q) (rail_number node Neg)) → label wire ≡ its
    held label f = in_hand label q n (its_q label q n (wire_label label f)) (its_n label q n (wire_label label f))
