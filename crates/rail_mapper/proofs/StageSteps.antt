-- One rail of a conjunction further.
use Rattle.std.proofs.Common.{◌≡◌, ◌≤◌, ◌<◌, ◌+◌, ◌*◌, ◌-◌, ◌/◌, ◌%◌, ◌==◌, inl, inr, ℕ, zero, suc, Bool, true, false, Option, List, [], ◌∷◌, ◌++◌, map, length, slice_get, get_or, set}
use Rattle.std.proofs.Common.{replicate, ap, sym, subst, ◌∙◌, refl, arith, append_assoc, if◌then◌else◌}
use Rattle.std.proofs.lemmas.Bool.{cases_eq, eq-eqb, ne_eqb}
use Rattle.std.proofs.lemmas.List.{get_or-set_same, get_or-set_other, length-set, length-append, length-replicate}
use Rattle.pulse_ids.specs.Ids.{NodeLit}
use Rattle.pulse_ids.specs.declared.literals.Sign.{Sign}
use Rattle.pulse_ids.specs.declared.literals.Sign.TheVariants.{Pos, Neg}
use Rattle.cell_netlist.specs.declared.kinds.Ask.{Ask}
use Rattle.cell_netlist.specs.declared.kinds.Gate.{Gate}
use Rattle.pulse_ids.specs.Lists.{IsIn, occurrences}
use Rattle.cell_netlist.specs.Netlists.{PlainNetlist, number_of_wires}
use Rattle.aig_core.specs.declared.nodes.Node.{Node}
use Rattle.aig_core.specs.Graphs.{nodes_of}
use Rattle.graph_build.specs.Built.{PlainBuilt}
use Rattle.pulse_ids.specs.Literals.{rail_sign}
use Rattle.rail_demand.specs.Demands.{PlainDemand, is_needed}
use Rattle.splitter_trees.specs.Spreading.{with_cells}
use Rattle.pulse_ids.proofs.CallerLemmasOnCounts.{occurrences-append}
use Rattle.rail_mapper.specs.Drafts.{PlainDraft, leaves_of, readers_of, open_in, gate_cell, with_cell, Gated, IsDraft, HasRoom, spare}
use Rattle.rail_mapper.specs.Labels.{rail_number, literal_number, sign_in, rails_in}
use Rattle.rail_mapper.specs.Plans.{fan_in, rail_uses, gate_uses, front_uses, output_uses, left_from, uses}
use Rattle.rail_mapper.specs.Stages.{Follows, IsStage, MapsRail, skipped, made}
use Rattle.rail_mapper.specs.Tracks.{gate_sign, IsNodeGate, IsTracked}
use Rattle.rail_mapper.proofs.DraftSteps.{take_step, gated_step}
use Rattle.rail_mapper.proofs.DraftLedgers.{gate_wires}
use Rattle.rail_mapper.proofs.Stocks.{among_all, counted_place}
use Rattle.rail_mapper.proofs.Tracking.{gated_tracked}

-- the number of a rail tells its node and sign
pub node_of : (node : ℕ) (sign : Sign) → rail_number node sign / 2 ≡ node
node_of node Pos = omega arith
node_of node Neg = omega arith

pub sign_of : (node : ℕ) (sign : Sign) → sign_in (rail_number node sign) ≡ sign
sign_of node Pos = let even : (2 * node % 2 == 0) ≡ true = eq-eqb (2 * node % 2) 0 (omega arith) in rw even refl
sign_of node Neg = let odd : ((2 * node + 1) % 2 == 0) ≡ false = ne_eqb ((2 * node + 1) % 2) 0 (omega arith) in rw odd refl

-- the reads of one rail come first
pub next_uses : (built : PlainBuilt) (demand : PlainDemand) (ask : Ask) (rail : ℕ) → rail < rails_in built
    → left_from built demand ask rail ≡ rail_uses built demand rail ++ left_from built demand ask (rail + 1)
next_uses built demand ask rail low =
    let e : rails_in built - rail ≡ suc (rails_in built - (rail + 1)) = omega arith in
    rw e (append_assoc (rail_uses built demand rail) (gate_uses built demand (rail + 1)) (front_uses built demand ++ output_uses built ask))

-- a label that follows a longer list
pub follows_front : (labels more : List ℕ) (label : ℕ → ℕ) → Follows (labels ++ more) label → Follows labels label
follows_front labels more label f wire low = f wire (omega (arith, length-append labels more)) ∙ get_or-left labels more wire low
  where
    get_or-left : (xs ys : List ℕ) (k : ℕ) → k < length xs → get_or (xs ++ ys) k 0 ≡ get_or xs k 0
    get_or-left [] ys k low = absurd (omega arith)
    get_or-left (x ∷ xs) ys zero low = refl
    get_or-left (x ∷ xs) ys (suc k) low = get_or-left xs ys k (omega arith)

pub follows_last : (labels : List ℕ) (count rail : ℕ) (label : ℕ → ℕ) → Follows (labels ++ replicate count rail) label → (wire : ℕ) → length labels ≤ wire → wire < length labels + count
    → label wire ≡ rail
follows_last labels count rail label f wire low high =
    f wire (omega (arith, length-append labels (replicate count rail), length-replicate count rail)) ∙ behind labels wire low high
  where
    alike : (n k : ℕ) → k < n → get_or (replicate n rail) k 0 ≡ rail
    alike zero k low = absurd (omega arith)
    alike (suc n) zero low = refl
    alike (suc n) (suc k) low = alike n k (omega arith)

    behind : (xs : List ℕ) (k : ℕ) → length xs ≤ k → k < length xs + count → get_or (xs ++ replicate count rail) k 0 ≡ rail
    behind [] k low high = alike count k (omega arith)
    behind (x ∷ xs) zero low high = absurd (omega arith)
    behind (x ∷ xs) (suc k) low high = behind xs k (omega arith) (omega arith)

pub literal_below : (literal : NodeLit) (sign : Sign) (node : ℕ) (its : Sign) → literal.id.number < node → literal_number literal sign < rail_number node its
literal_below literal sign node its low = by (rail_sign literal sign) its
  where
    by : (s t : Sign) → rail_number literal.id.number s < rail_number node t
    by Pos Pos = omega arith
    by Pos Neg = omega arith
    by Neg Pos = omega arith
    by Neg Neg = omega arith

pub leaves_inside : (draft : PlainDraft) (hand debts left : List ℕ) → IsDraft draft hand debts left → (rail wire : ℕ) → IsIn wire (leaves_of draft rail) → wire < number_of_wires draft.net
leaves_inside draft hand debts left h rail wire m =
    let a = among_all draft.stock rail wire m in
    let o = occurrences-append wire (open_in draft) hand in h.ledger.inside wire (omega arith)

module _ (built : PlainBuilt) (demand : PlainDemand) (ask : Ask) (rail : ℕ) (low_rail : rail < rails_in built)
    (needed : is_needed demand (rail / 2) (sign_in rail) ≡ true → 1 ≤ occurrences rail (uses built demand ask))
    (used : 1 ≤ occurrences rail (uses built demand ask) → is_needed demand (rail / 2) (sign_in rail) ≡ true) where
  unneeded_uses : occurrences rail (uses built demand ask) ≡ 0 → rail_uses built demand rail ≡ []
  unneeded_uses none = by (is_needed demand (rail / 2) (sign_in rail)) refl
    where
      by : (b : Bool) → is_needed demand (rail / 2) (sign_in rail) ≡ b → (if b then fan_in (slice_get (nodes_of built.graph) (rail / 2)) (sign_in rail) else []) ≡ []
      by true e = absurd (omega (arith, needed e))
      by false e = refl

  needed_uses : (gate : Gate) (low high : ℕ) → 1 ≤ occurrences rail (uses built demand ask) → IsNodeGate built gate low high rail → rail_uses built demand rail ≡ low ∷ high ∷ []
  needed_uses gate low high some node =
      let n : rail / 2 ≡ node.node = ap (λ (r : ℕ). r / 2) node.rail_is ∙ node_of node.node (gate_sign gate) in
      let s : sign_in rail ≡ gate_sign gate = ap sign_in node.rail_is ∙ sign_of node.node (gate_sign gate) in
      ap (λ (b : Bool). if b then fan_in (slice_get (nodes_of built.graph) (rail / 2)) (sign_in rail) else []) (used some)
      ∙ ap (λ (k : ℕ). fan_in (slice_get (nodes_of built.graph) k) (sign_in rail)) n ∙ ap (fan_in (slice_get (nodes_of built.graph) node.node)) s
      ∙ ap (λ (o : Option Node). fan_in o (gate_sign gate)) node.stands
      ∙ ap (λ (k : ℕ). k ∷ literal_number node.high_literal (gate_sign gate) ∷ []) (sym node.low_is) ∙ ap (λ (k : ℕ). low ∷ k ∷ []) (sym node.high_is)

  module _ (before after : PlainDraft) (h : IsStage built demand ask rail before) (gate : Gate) (low high : ℕ) (some : 1 ≤ readers_of before rail) (node : IsNodeGate built gate low high rail)
      (gated : Gated gate low high rail before after) (room : HasRoom spare after) where
    low_below : low < rail
    low_below = rw (node.low_is, node.rail_is) (literal_below node.low_literal (gate_sign gate) node.node (gate_sign gate) node.low_before)

    high_below : high < rail
    high_below = rw (node.high_is, node.rail_is) (literal_below node.high_literal (gate_sign gate) node.node (gate_sign gate) node.high_before)

    place : rail < length before.stock
    place = omega (arith, h.stock_size)

    with_uses : IsDraft before [] (map (λ (p : ℕ × ℕ). 0) before.pending) (low ∷ high ∷ left_from built demand ask (rail + 1))
    with_uses = subst (λ (l : List ℕ). IsDraft before [] (map (λ (p : ℕ × ℕ). 0) before.pending) l)
        (next_uses built demand ask rail low_rail ∙ ap (λ (l : List ℕ). l ++ left_from built demand ask (rail + 1))
        (needed_uses gate low high (rw (← h.planned rail (omega arith)) some) node)) h.is_draft

    same_pending : after.pending ≡ before.pending
    same_pending = gated.grown.same_pending ∙ ap (λ (d : PlainDraft). d.pending) gated.high_taken.taken ∙ ap (λ (d : PlainDraft). d.pending) gated.low_taken.taken

    same_counts : gated.two.counts ≡ before.counts
    same_counts = ap (λ (d : PlainDraft). d.counts) gated.high_taken.taken ∙ ap (λ (d : PlainDraft). d.counts) gated.low_taken.taken

    same_net : gated.two.net ≡ before.net
    same_net = ap (λ (d : PlainDraft). d.net) gated.high_taken.taken ∙ ap (λ (d : PlainDraft). d.net) gated.low_taken.taken

    counts_are : after.counts ≡ set before.counts rail 0
    counts_are = gated.grown.counted ∙ ap (λ (c : List ℕ). set c rail 0) same_counts

    stock_one : gated.one.stock ≡ set before.stock low gated.low_taken.rest
    stock_one = ap (λ (d : PlainDraft). d.stock) gated.low_taken.taken

    stock_two : gated.two.stock ≡ set gated.one.stock high gated.high_taken.rest
    stock_two = ap (λ (d : PlainDraft). d.stock) gated.high_taken.taken

    above_bare : (above : ℕ) → rail < above → leaves_of after above ≡ []
    above_bare above high_rail =
        ap (λ (t : List (List ℕ)). get_or t above []) gated.grown.stocked ∙ get_or-set_other gated.two.stock rail above gated.grown.leaves [] (λ e. absurd (omega arith))
        ∙ ap (λ (t : List (List ℕ)). get_or t above []) stock_two ∙ get_or-set_other gated.one.stock high above gated.high_taken.rest [] (λ e. let b = high_below in absurd (omega arith))
        ∙ ap (λ (t : List (List ℕ)). get_or t above []) stock_one ∙ get_or-set_other before.stock low above gated.low_taken.rest [] (λ e. let b = low_below in absurd (omega arith))
        ∙ h.is_at.bare above (omega arith)

    sizes : length after.stock ≡ length before.stock
    sizes = ap (λ (l : List (List ℕ)). length l) gated.grown.stocked ∙ length-set gated.two.stock rail gated.grown.leaves ∙ ap (λ (l : List (List ℕ)). length l) stock_two
        ∙ length-set gated.one.stock high gated.high_taken.rest
        ∙ ap (λ (l : List (List ℕ)). length l) stock_one ∙ length-set before.stock low gated.low_taken.rest

    one_more : number_of_wires (with_cell gated.two (gate_cell gate gated.a gated.b (number_of_wires before.net))).net ≡ number_of_wires before.net + 1
    one_more = subst (λ (net : PlainNetlist). number_of_wires (with_cells net (gate_cell gate gated.a gated.b (number_of_wires before.net) ∷ [])) ≡ number_of_wires before.net + 1) (sym same_net)
        (gate_wires gate before.net gated.a gated.b a_low b_low)
      where
        one_draft : IsDraft gated.one (gated.a ∷ []) (map (λ (p : ℕ × ℕ). 0) before.pending) (high ∷ left_from built demand ask (rail + 1))
        one_draft = take_step before gated.one [] (map (λ (p : ℕ × ℕ). 0) before.pending) (high ∷ left_from built demand ask (rail + 1)) low gated.a with_uses gated.low_taken

        a_low : gated.a < number_of_wires before.net
        a_low = leaves_inside before [] (map (λ (p : ℕ × ℕ). 0) before.pending) (low ∷ high ∷ left_from built demand ask (rail + 1)) with_uses low gated.a (rw gated.low_taken.first (inl refl))

        b_low : gated.b < number_of_wires before.net
        b_low = subst (λ (net : PlainNetlist). gated.b < number_of_wires net) (ap (λ (d : PlainDraft). d.net) gated.low_taken.taken)
            (leaves_inside gated.one (gated.a ∷ []) (map (λ (p : ℕ × ℕ). 0) before.pending) (high ∷ left_from built demand ask (rail + 1)) one_draft high gated.b
            (rw gated.high_taken.first (inl refl)))

    wires_after : number_of_wires after.net ≡ number_of_wires before.net + (1 + 2 * (readers_of gated.two rail - 1))
    wires_after = gated.grown.spread.wires ∙ ap (λ (k : ℕ). k + 2 * (readers_of gated.two rail - 1)) one_more ∙ omega arith

    pub stage_made : IsStage built demand ask (rail + 1) after
    stage_made = record {
      is_draft = subst (λ (p : List (ℕ × ℕ)). IsDraft after [] (map (λ (q : ℕ × ℕ). 0) p) (left_from built demand ask (rail + 1))) (sym same_pending)
          (gated_step before after [] (map (λ (p : ℕ × ℕ). 0) before.pending) (left_from built demand ask (rail + 1)) gate low high rail with_uses (h.is_at.bare rail (omega arith))
          (λ e. let b = low_below in absurd (omega arith)) (λ e. let b = high_below in absurd (omega arith)) place (counted_place before.counts rail some) gated);
      is_at = record {
        spread = λ below low. ap (λ (c : List ℕ). get_or c below 0) counts_are ∙ elim (cases_eq below rail) [
          | inl e ↦ ap (λ (r : ℕ). get_or (set before.counts rail 0) r 0) e ∙ get_or-set_same before.counts rail 0 0 (counted_place before.counts rail some)
          | inr ne ↦ get_or-set_other before.counts rail below 0 0 ne ∙ h.is_at.spread below (omega arith)
        ];
        bare = λ above low. above_bare above (omega arith);
      };
      planned = λ other low. ap (λ (c : List ℕ). get_or c other 0) counts_are ∙ get_or-set_other before.counts rail other 0 0 (λ e. absurd (omega arith)) ∙ h.planned other (omega arith);
      stock_size = sizes ∙ h.stock_size;
      counts_size = ap (λ (c : List ℕ). length c) counts_are ∙ length-set before.counts rail 0 ∙ h.counts_size;
      room = room;
      labels = h.labels ++ replicate (1 + 2 * (readers_of gated.two rail - 1)) rail;
      one_each = length-append h.labels (replicate (1 + 2 * (readers_of gated.two rail - 1)) rail)
          ∙ ap (λ (k : ℕ). length h.labels + k) (length-replicate (1 + 2 * (readers_of gated.two rail - 1)) rail)
          ∙ ap (λ (k : ℕ). k + (1 + 2 * (readers_of gated.two rail - 1))) h.one_each ∙ sym wires_after;
      tracked = λ label f. subst (λ (p : List (ℕ × ℕ)). IsTracked built label p after) (sym same_pending)
          (gated_tracked built label before.pending before after gate low high rail
          (h.tracked label (follows_front h.labels (replicate (1 + 2 * (readers_of gated.two rail - 1)) rail) label f)) gated place node one_more
          (λ wire low high. follows_last h.labels (1 + 2 * (readers_of gated.two rail - 1)) rail label f wire (omega (arith, h.one_each)) (omega (arith, h.one_each, wires_after))));
    }

  pub stage_skipped : (draft : PlainDraft) → IsStage built demand ask rail draft → readers_of draft rail ≡ 0 → IsStage built demand ask (rail + 1) draft
  stage_skipped draft h none = record {
    is_draft = subst (λ (l : List ℕ). IsDraft draft [] (map (λ (p : ℕ × ℕ). 0) draft.pending) l)
        (next_uses built demand ask rail low_rail ∙ ap (λ (l : List ℕ). l ++ left_from built demand ask (rail + 1)) (unneeded_uses (sym (h.planned rail (omega arith)) ∙ none))) h.is_draft;
    is_at = record {
      spread = λ below low. elim (cases_eq below rail) [ inl e ↦ ap (readers_of draft) e ∙ none | inr ne ↦ h.is_at.spread below (omega arith) ];
      bare = λ above low. h.is_at.bare above (omega arith);
    };
    planned = λ other low. h.planned other (omega arith);
    stock_size = h.stock_size;
    counts_size = h.counts_size;
    room = h.room;
    labels = h.labels;
    one_each = h.one_each;
    tracked = h.tracked;
  }

  pub stage_mapped : (before after : PlainDraft) → IsStage built demand ask rail before → MapsRail built rail before after → IsStage built demand ask (rail + 1) after
  stage_mapped before after h (skipped none e) = subst (IsStage built demand ask (rail + 1)) (sym e) (stage_skipped before h none)
  stage_mapped before after h (made gate low high some node gated room) = stage_made before after h gate low high some node gated room
