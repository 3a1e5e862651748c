-- The constant at its stage.
use Rattle.std.proofs.Common.{◌≡◌, ◌≤◌, ◌<◌, ◌+◌, ◌*◌, ◌-◌, inl, inr, ℕ, Bool, true, false, List, [], ◌∷◌, ◌++◌, map, length, get_or, set, replicate, nat_lt, ap, sym, subst, ◌∙◌, refl, arith}
use Rattle.std.proofs.lemmas.Bool.{cases_eq, lt-ltb}
use Rattle.std.proofs.lemmas.List.{get_or-set_same, get_or-set_other, length-set, length-append, length-replicate}
use Rattle.cell_netlist.specs.declared.kinds.Ask.{Ask}
use Rattle.pulse_ids.specs.Lists.{occurrences}
use Rattle.cell_netlist.specs.Netlists.{number_of_wires}
use Rattle.graph_build.specs.Built.{PlainBuilt}
use Rattle.rail_demand.specs.Demands.{PlainDemand}
use Rattle.pulse_ids.proofs.CallerLemmasOnCounts.{occurrences-append}
use Rattle.droc_pairs.specs.Pairs.{asked_output, wires_for}
use Rattle.rail_mapper.specs.Drafts.{PlainDraft, leaves_of, readers_of, open_in, IsDraft}
use Rattle.rail_mapper.specs.Labels.{IsLabelledIfUsed, rails_in}
use Rattle.rail_mapper.specs.Plans.{rail_uses, left_from}
use Rattle.rail_mapper.specs.Stages.{Follows, IsHeld}
use Rattle.rail_mapper.specs.Tracks.{IsTracked}
use Rattle.rail_mapper.proofs.ConstSteps.{const_tracked}
use Rattle.rail_mapper.proofs.HeldSteps.{label_if, get_or-behind}
use Rattle.rail_mapper.proofs.DraftLedgers.{constant_step}
use Rattle.wire_ledgers.proofs.CallerLemmas.{same_open}
use Rattle.rail_mapper.proofs.StageSteps.{next_uses, follows_front, follows_last}
use Rattle.rail_mapper.proofs.Stocks.{all_of-set}
use Rattle.droc_pairs.specs.Constants.{ones_from, zeros_from, HasTreeIfRead, with_tree, without, IsConstant}

module _ (built : PlainBuilt) (demand : PlainDemand) (ask : Ask) (hand : List (ℕ × ℕ)) (before after : PlainDraft) (one none : List ℕ) (h : IsHeld built demand ask 0 hand before)
    (c : IsConstant before.net after.net (readers_of before 1) (readers_of before 0) one none) (stocked : after.stock ≡ set (set before.stock 1 one) 0 none)
    (counted : after.counts ≡ set (set before.counts 1 0) 0 0)
    (same : after.pending ≡ before.pending) (none_first : rail_uses built demand 0 ≡ []) (none_second : rail_uses built demand 1 ≡ []) (roomy : 2 ≤ rails_in built) where
  q : Bool
  q = nat_lt 0 (readers_of before 1)

  same_left : left_from built demand ask 0 ≡ left_from built demand ask 2
  same_left = next_uses built demand ask 0 (omega arith) ∙ ap (λ (l : List ℕ). l ++ left_from built demand ask (0 + 1)) none_first
      ∙ (let z : 0 + 1 ≡ 1 = refl in next_uses built demand ask 1 (omega arith)) ∙ ap (λ (l : List ℕ). l ++ left_from built demand ask (1 + 1)) none_second

  one_count : HasTreeIfRead (ones_from (number_of_wires before.net) (readers_of before 1)) (number_of_wires before.net) (readers_of before 1) c.one_cells one → length one ≡ readers_of before 1
  one_count (with_tree some t s) = s.one_each
  one_count (without idle e l) = ap (λ (k : List ℕ). length k) l ∙ sym idle

  none_count : length none ≡ readers_of before 0
  none_count = omega (arith, c.zero_spreads.one_each)

  stock_at : (rail : ℕ) → leaves_of after rail ≡ get_or (set (set before.stock 1 one) 0 none) rail []
  stock_at rail = ap (λ (s : List (List ℕ)). get_or s rail []) stocked

  count_at : (rail : ℕ) → readers_of after rail ≡ get_or (set (set before.counts 1 0) 0 0) rail 0
  count_at rail = ap (λ (s : List ℕ). get_or s rail 0) counted

  others : (rail : ℕ) → 2 ≤ rail → (leaves_of after rail ≡ leaves_of before rail) × (readers_of after rail ≡ readers_of before rail)
  others rail low = (
    stock_at rail ∙ get_or-set_other (set before.stock 1 one) 0 rail none [] (λ e. absurd (omega arith)) ∙ get_or-set_other before.stock 1 rail one [] (λ e. absurd (omega arith)),
    count_at rail ∙ get_or-set_other (set before.counts 1 0) 0 rail 0 0 (λ e. absurd (omega arith)) ∙ get_or-set_other before.counts 1 rail 0 0 (λ e. absurd (omega arith)),
  )

  at_zero : (leaves_of after 0 ≡ none) × (readers_of after 0 ≡ 0)
  at_zero = (
    stock_at 0 ∙ get_or-set_same (set before.stock 1 one) 0 none [] (omega (arith, length-set before.stock 1 one, h.stock_size)),
    count_at 0 ∙ get_or-set_same (set before.counts 1 0) 0 0 0 (omega (arith, length-set before.counts 1 0, h.counts_size)),
  )

  at_one : (leaves_of after 1 ≡ one) × (readers_of after 1 ≡ 0)
  at_one = (
    stock_at 1 ∙ get_or-set_other (set before.stock 1 one) 0 1 none [] (λ e. absurd (omega arith)) ∙ get_or-set_same before.stock 1 one [] (omega (arith, h.stock_size)),
    count_at 1 ∙ get_or-set_other (set before.counts 1 0) 0 1 0 0 (λ e. absurd (omega arith)) ∙ get_or-set_same before.counts 1 0 0 (omega (arith, h.counts_size)),
  )

  exact_after : (rail : ℕ) → length (leaves_of after rail) + readers_of after rail ≡ occurrences rail (left_from built demand ask 0)
  exact_after rail = elim (cases_eq rail 0) [
    | inl e ↦ subst (λ (r : ℕ). length (leaves_of after r) + readers_of after r ≡ occurrences r (left_from built demand ask 0)) (sym e)
        (omega (arith, h.is_draft.exact 0, ap (λ (l : List ℕ). length l) (h.is_at.bare 0 (omega arith)), ap (λ (l : List ℕ). length l) at_zero.0, at_zero.1, none_count))
    | inr ne ↦ elim (cases_eq rail 1) [
      | inl e ↦ subst (λ (r : ℕ). length (leaves_of after r) + readers_of after r ≡ occurrences r (left_from built demand ask 0)) (sym e)
          (omega (arith, h.is_draft.exact 1, ap (λ (l : List ℕ). length l) (h.is_at.bare 1 (omega arith)), ap (λ (l : List ℕ). length l) at_one.0, at_one.1, one_count c.one_tree))
      | inr other ↦ let o = others rail (omega arith) in omega (arith, h.is_draft.exact rail, ap (λ (l : List ℕ). length l) o.0, o.1)
    ]
  ]

  open_after : (wire : ℕ) → occurrences wire (open_in after ++ map (λ (p : ℕ × ℕ). p.0) hand) ≡ occurrences wire (one ++ (none ++ (open_in before ++ map (λ (p : ℕ × ℕ). p.0) hand)))
  open_after wire =
      let a = occurrences-append wire (open_in after) (map (λ (p : ℕ × ℕ). p.0) hand) in
      let b = occurrences-append wire one (none ++ (open_in before ++ map (λ (p : ℕ × ℕ). p.0) hand)) in
      let d = occurrences-append wire none (open_in before ++ map (λ (p : ℕ × ℕ). p.0) hand) in
      let e = occurrences-append wire (open_in before) (map (λ (p : ℕ × ℕ). p.0) hand) in
      let f = all_of-set (set before.stock 1 one) 0 none wire (omega (arith, length-set before.stock 1 one, h.stock_size)) in
      let g = all_of-set before.stock 1 one wire (omega (arith, h.stock_size)) in
      let i = ap (occurrences wire) (h.is_at.bare 1 (omega arith)) in
      let j = ap (occurrences wire) (get_or-set_other before.stock 1 0 one [] (λ e. absurd (omega arith)) ∙ h.is_at.bare 0 (omega arith)) in
      let k = ap (λ (s : List (List ℕ)). occurrences wire (open_in (record before { stock = s }))) stocked in omega arith

  -- the labels of the new wires
  abbrev drives : List ℕ
  drives = label_if (nat_lt 0 (readers_of before 1)) 1 ++ 0 ∷ []

  drives_count : (b : Bool) → length (label_if b 1 ++ 0 ∷ []) ≡ wires_for b + 1
  drives_count true = refl
  drives_count false = refl

  abbrev ones_more : ℕ
  ones_more = 2 * (readers_of before 1 - 1)

  abbrev zeros_more : ℕ
  zeros_more = 2 * readers_of before 0

  abbrev new_labels : List ℕ
  new_labels = ((h.labels ++ drives) ++ replicate ones_more 1) ++ replicate zeros_more 0

  first_is : length (h.labels ++ drives) ≡ ones_from (number_of_wires before.net) (readers_of before 1)
  first_is = length-append h.labels drives ∙ omega (arith, h.one_each, drives_count (nat_lt 0 (readers_of before 1)))

  middle_is : length ((h.labels ++ drives) ++ replicate ones_more 1) ≡ zeros_from (number_of_wires before.net) (readers_of before 1)
  middle_is = length-append (h.labels ++ drives) (replicate ones_more 1) ∙ omega (arith, first_is, length-replicate {A = ℕ} ones_more 1)

  last_is : length new_labels ≡ number_of_wires after.net
  last_is = length-append ((h.labels ++ drives) ++ replicate ones_more 1) (replicate zeros_more 0) ∙ omega (arith, middle_is, length-replicate {A = ℕ} zeros_more 0, c.wires)

  module _ (label : ℕ → ℕ) (f : Follows new_labels label) where
    f_middle : Follows ((h.labels ++ drives) ++ replicate ones_more 1) label
    f_middle = follows_front ((h.labels ++ drives) ++ replicate ones_more 1) (replicate zeros_more 0) label f

    f_first : Follows (h.labels ++ drives) label
    f_first = follows_front (h.labels ++ drives) (replicate ones_more 1) label f_middle

    f_before : Follows h.labels label
    f_before = follows_front h.labels drives label f_first

    placed_label : (k : ℕ) → k < wires_for (nat_lt 0 (readers_of before 1)) + 1 → label (number_of_wires before.net + k) ≡ get_or drives k 0
    placed_label k low =
        let e : number_of_wires before.net + k ≡ length h.labels + k = omega (arith, h.one_each) in
        f_first (number_of_wires before.net + k) (omega (arith, h.one_each, length-append h.labels drives, drives_count (nat_lt 0 (readers_of before 1))))
        ∙ ap (λ (w : ℕ). get_or (h.labels ++ drives) w 0) e ∙ get_or-behind h.labels drives k

    by_q : (b : Bool) → ((k : ℕ) → k < wires_for b + 1 → label (number_of_wires before.net + k) ≡ get_or (label_if b 1 ++ 0 ∷ []) k 0)
        → IsLabelledIfUsed label (asked_output b (number_of_wires before.net)) 1 × (label (number_of_wires before.net + wires_for b) ≡ 0)
    by_q true w = ((let z : number_of_wires before.net ≡ number_of_wires before.net + 0 = omega arith in ap label z) ∙ w 0 (omega arith), w 1 (omega arith))
    by_q false w = (tt, w 0 (omega arith))

    root_one : 1 ≤ readers_of before 1 → label (number_of_wires before.net) ≡ 1
    root_one some = by (nat_lt 0 (readers_of before 1)) (lt-ltb 0 (readers_of before 1) (omega arith)) (by_q (nat_lt 0 (readers_of before 1)) placed_label).0
      where
        by : (b : Bool) → b ≡ true → IsLabelledIfUsed label (asked_output b (number_of_wires before.net)) 1 → label (number_of_wires before.net) ≡ 1
        by true e l = l
        by false e l = absurd cc

    tracked_after : IsTracked built label before.pending after
    tracked_after =
        let p = by_q (nat_lt 0 (readers_of before 1)) placed_label in
        const_tracked built label before after (readers_of before 1) (readers_of before 0) one none (h.tracked label f_before).0 c p.0 p.1
        (λ wire low high. follows_last (h.labels ++ drives) ones_more 1 label f_middle wire (omega (arith, first_is)) (omega (arith, first_is)))
        (λ wire low high. follows_last ((h.labels ++ drives) ++ replicate ones_more 1) zeros_more 0 label f wire (omega (arith, middle_is)) (omega (arith, middle_is, c.wires)))
        root_one stocked (omega (arith, h.stock_size))

  pub held_constant : IsHeld built demand ask 2 hand after
  held_constant = record {
    is_draft = subst (λ (p : List (ℕ × ℕ)). IsDraft after (map (λ (x : ℕ × ℕ). x.0) hand) (map (λ (x : ℕ × ℕ). 0) p) (left_from built demand ask 2)) (sym same)
        (subst (λ (l : List ℕ). IsDraft after (map (λ (x : ℕ × ℕ). x.0) hand) (map (λ (x : ℕ × ℕ). 0) before.pending) l) same_left (record {
          ledger = same_open after.net (one ++ (none ++ (open_in before ++ map (λ (p : ℕ × ℕ). p.0) hand))) (open_in after ++ map (λ (p : ℕ × ℕ). p.0) hand) (map (λ (x : ℕ × ℕ). 0) before.pending)
              (constant_step before.net after.net (readers_of before 1) (readers_of before 0) one none c (open_in before ++ map (λ (p : ℕ × ℕ). p.0) hand)
              (map (λ (x : ℕ × ℕ). 0) before.pending) h.is_draft.ledger) open_after;
          exact = exact_after;
        }));
    is_at = record {
      spread = λ below low. elim (cases_eq below 0) [
        | inl e ↦ ap (readers_of after) e ∙ at_zero.1
        | inr ne ↦ let e : below ≡ 1 = omega arith in ap (readers_of after) e ∙ at_one.1
      ];
      bare = λ above low. (others above low).0 ∙ h.is_at.bare above (omega arith);
    };
    planned = λ other low. (others other low).1 ∙ h.planned other (omega arith);
    stock_size = ap (λ (s : List (List ℕ)). length s) stocked ∙ length-set (set before.stock 1 one) 0 none ∙ length-set before.stock 1 one ∙ h.stock_size;
    counts_size = ap (λ (s : List ℕ). length s) counted ∙ length-set (set before.counts 1 0) 0 0 ∙ length-set before.counts 1 0 ∙ h.counts_size;
    labels = new_labels;
    one_each = last_is;
    tracked = λ label f. (subst (λ (p : List (ℕ × ℕ)). IsTracked built label p after) (sym same) (tracked_after label f), λ wire its m. (h.tracked label (f_before label f)).1 wire its m);
  }
