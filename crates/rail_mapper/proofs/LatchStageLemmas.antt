-- Backs with their trees, one latch after the other.
use Rattle.std.proofs.Common.{◌≡◌, ◌≤◌, ◌<◌, ◌+◌, ◌*◌, ◌-◌, ◌||◌, ◌⊎◌, inl, inr, ℕ, Bool, true, false, Some, List, [], ◌∷◌, ◌++◌, map, length, slice_get, get_or, nat_lt, ap, sym, subst, ◌∙◌}
use Rattle.std.proofs.Common.{refl, arith, append-nil, if◌then◌else◌}
use Rattle.std.specs.List.{flat_map, range_with_len}
use Rattle.std.proofs.lemmas.Bool.{or_left, or_right, lt-ltb}
use Rattle.std.proofs.lemmas.Grind.{flat_map-append}
use Rattle.std.proofs.lemmas.List.{map-append, length-append}
use Rattle.pulse_ids.specs.Ids.{numbered}
use Rattle.pulse_ids.specs.Lists.{IsIn, occurrences}
use Rattle.pulse_ids.proofs.CallerLemmas.{IsIn-append, IsIn-map, IsIn-from_flat_map}
use Rattle.pulse_ids.specs.declared.literals.Sign.{Sign}
use Rattle.pulse_ids.specs.declared.literals.Sign.TheVariants.{Pos, Neg}
use Rattle.cell_netlist.specs.declared.kinds.Ask.{Ask}
use Rattle.cell_netlist.specs.declared.kinds.Version.{Version}
use Rattle.cell_netlist.specs.declared.lines.StateLine.{StateLine}
use Rattle.cell_netlist.specs.declared.kinds.Role.TheVariants.{Back}
use Rattle.cell_netlist.specs.declared.lines.Cell.TheVariants.{Droc}
use Rattle.cell_netlist.specs.Netlists.{PlainNetlist, number_of_wires}
use Rattle.cell_netlist.specs.States.{IsAboveStates}
use Rattle.aig_core.specs.declared.nodes.Node.TheVariants.{Latch}
use Rattle.aig_core.specs.Graphs.{nodes_of, count_of}
use Rattle.graph_build.specs.Built.{PlainBuilt}
use Rattle.rail_demand.specs.Demands.{PlainDemand, is_needed}
use Rattle.splitter_trees.proofs.CallerLemmas.{place_within}
use Rattle.droc_pairs.specs.Pairs.{wires_for, begun_back}
use Rattle.splitter_trees.proofs.CallerLemmasOnRanges.{range-append}
use Rattle.rail_mapper.specs.Drafts.{PlainDraft, readers_of, HasRoom, spare}
use Rattle.rail_mapper.specs.InputStages.{held_if}
use Rattle.rail_mapper.specs.Labels.{rail_number, sign_in, rails_in}
use Rattle.rail_mapper.specs.LatchStages.{latches_needed, AreApart, latches_of, BacksAt}
use Rattle.rail_mapper.specs.Plans.{uses}
use Rattle.rail_mapper.specs.Stages.{IsHeld, IsStage, IsPlan, GrowsIf, begun_draft, grown, bare, BeginsLatch, unread, started}
use Rattle.rail_mapper.specs.StateLines.{line_if, lines_of, backs_from}
use Rattle.wire_ledgers.proofs.CallerLemmasOnRanges.{in_range}
use Rattle.rail_mapper.proofs.BackPlaces.{backs-append, backs_stay, no_back, lines_next, line_pair}
use Rattle.rail_mapper.proofs.DraftLedgers.{back_number}
use Rattle.rail_mapper.proofs.HeldSteps.{held_begun, held_stage, stage_held, held_grown_if, held_skipped, no_latch_reads}
use Rattle.rail_mapper.proofs.InputStageLemmas.{grows_pending}
use Rattle.rail_mapper.proofs.Rooms.{less_room, room_grown}
use Rattle.rail_mapper.proofs.StageSteps.{node_of, sign_of}
use Rattle.rail_mapper.proofs.Values.{rail_low}

-- a pair more, at a place behind
pub apart-behind : (pairs : List (ℕ × ℕ)) (place latch : ℕ) → ((low other : ℕ) → IsIn {X = ℕ × ℕ} (low, other) pairs → low < place) → AreApart pairs
    → AreApart (pairs ++ (let half : ℕ × ℕ = (place, latch) in half) ∷ [])
apart-behind [] place latch below h = ((λ other m. absurd m), tt)
apart-behind (pair ∷ pairs) place latch below h = (
  λ other m. elim (IsIn-append {X = ℕ × ℕ} (pair.0, other) pairs ((place, latch) ∷ []) m) [
    | inl k ↦ h.0 other k
    | inr k ↦ not_last other k
  ],
  apart-behind pairs place latch (λ low other m. below low other (inr m)) h.1,
)
  where
    not_last : (other : ℕ) → IsIn {X = ℕ × ℕ} (pair.0, other) ((place, latch) ∷ []) → ⊥
    not_last other (inl e) = let low = below pair.0 pair.1 (inl refl) in let same : place ≡ pair.0 = ap (λ (p : ℕ × ℕ). p.0) e in absurd (omega arith)
    not_last other (inr m) = absurd m

-- spreading keeps the state lines and the backs
record KeepsBacks (before after : PlainDraft) : Type 0 where
  states : after.net.states ≡ before.net.states
  version : after.net.version ≡ before.net.version
  backs : backs_from 0 after.net.cells ≡ backs_from 0 before.net.cells

grows_kept : (rail root : ℕ) (before after : PlainDraft) → GrowsIf rail root before after → KeepsBacks before after
grows_kept rail root before after (grown some grow) = record {
  states = ap (λ (net : PlainNetlist). net.states) grow.spread.added;
  version = ap (λ (net : PlainNetlist). net.version) grow.spread.added;
  backs = ap (λ (net : PlainNetlist). backs_from 0 net.cells) grow.spread.added ∙ backs_stay before.net.cells grow.spread.cells (no_back grow.spread.cells grow.spread.spreads.all_split);
}
grows_kept rail root before after (bare none e) = record {
  states = ap (λ (d : PlainDraft). d.net.states) e;
  version = ap (λ (d : PlainDraft). d.net.version) e;
  backs = ap (λ (d : PlainDraft). backs_from 0 d.net.cells) e;
}

-- what spreading takes of the room, where the rail is read
grows_room : (rail root more : ℕ) (before after : PlainDraft) → GrowsIf rail root before after → HasRoom more before → HasRoom (more + 2 * wires_for (nat_lt 0 (readers_of before rail))) after
grows_room rail root more before after (grown some grow) room =
    let one : wires_for (nat_lt 0 (readers_of before rail)) ≡ 1 = ap wires_for (lt-ltb 0 (readers_of before rail) (omega arith)) in
    less_room after (more + 2 * wires_for (nat_lt 0 (readers_of before rail))) (more + 2) (omega arith)
    (room_grown before after root rail (readers_of before rail) grow.leaves more room grow.spread refl some grow.counted)
grows_room rail root more before after (bare none e) room =
    let nothing : wires_for (nat_lt 0 (readers_of before rail)) ≡ 0 = ap (λ (k : ℕ). wires_for (nat_lt 0 k)) none in
    less_room after (more + 2 * wires_for (nat_lt 0 (readers_of before rail))) more (omega arith) (subst (HasRoom more) (sym e) room)

abbrev pick : PlainBuilt → PlainDemand → ℕ → List ℕ
pick built demand latch = if is_needed demand (1 + built.graph.inputs + latch) Pos || is_needed demand (1 + built.graph.inputs + latch) Neg then latch ∷ [] else []

needed_next : (built : PlainBuilt) (demand : PlainDemand) (latch : ℕ) → latches_needed built demand (latch + 1) ≡ latches_needed built demand latch ++ pick built demand latch
needed_next built demand latch =
    ap (flat_map (pick built demand)) (range-append 0 latch 1) ∙ flat_map-append (pick built demand) (range_with_len 0 latch) (range_with_len (0 + latch) 1)
    ∙ (let z : 0 + latch ≡ latch = omega arith in ap (λ (k : ℕ). flat_map (pick built demand) (range_with_len 0 latch) ++ (pick built demand k ++ [])) z)
    ∙ ap (λ (l : List ℕ). latches_needed built demand latch ++ l) (append-nil (pick built demand latch))

-- the latches of state lines are below those that are still to come
picked : (needed : Bool) (latch other : ℕ) → IsIn other (if needed then latch ∷ [] else []) → latch ≡ other
picked true latch other (inl e) = e
picked true latch other (inr m) = absurd m
picked false latch other m = absurd m

needed_below : (built : PlainBuilt) (demand : PlainDemand) (latch other : ℕ) → IsIn other (latches_needed built demand latch) → other < latch
needed_below built demand latch other m =
    let from = IsIn-from_flat_map (pick built demand) other (range_with_len 0 latch) m in
    let range = in_range 0 latch from.0 from.1 in
    let same = picked (is_needed demand (1 + built.graph.inputs + from.0) Pos || is_needed demand (1 + built.graph.inputs + from.0) Neg) from.0 other from.2 in
    omega (arith, range.1, same)

pub states_below : (built : PlainBuilt) (demand : PlainDemand) (ask : Ask) (latch : ℕ) (draft : PlainDraft) → BacksAt built demand ask latch draft → IsAboveStates latch draft.net.states
states_below built demand ask latch draft h line m =
    let pair = line_pair draft.net.version draft.pending line (subst (λ (l : List StateLine). IsIn line l) h.lines m) in
    let among : IsIn line.latch (latches_of draft.pending) = IsIn-map (λ (p : ℕ × ℕ). p.1) (line.cell.number, line.latch) draft.pending pair in
    needed_below built demand latch line.latch (subst (λ (l : List ℕ). IsIn line.latch l) h.waiting among)

module _ (built : PlainBuilt) (demand : PlainDemand) (ask : Ask) (plan : IsPlan built demand ask) (latch : ℕ)
    (stands : slice_get (nodes_of built.graph) (1 + built.graph.inputs + latch) ≡ Some (Latch latch)) (inside : 1 + built.graph.inputs + latch < count_of built.graph) where
  abbrev node : ℕ
  node = 1 + built.graph.inputs + latch

  abbrev pos : ℕ
  pos = rail_number node Pos

  abbrev neg : ℕ
  neg = rail_number node Neg

  low : (sign : Sign) → rail_number node sign < rails_in built
  low sign = rail_low built node sign inside

  -- needed where read
  is_needed_so : (sign : Sign) → 1 ≤ occurrences (rail_number node sign) (uses built demand ask) → is_needed demand node sign ≡ true
  is_needed_so sign some =
      sym (ap (λ (k : ℕ). is_needed demand k (sign_in (rail_number node sign))) (node_of node sign) ∙ ap (is_needed demand node) (sign_of node sign))
      ∙ (plan (rail_number node sign) (low sign)).1 some

  not_needed : (sign : Sign) → occurrences (rail_number node sign) (uses built demand ask) ≡ 0 → is_needed demand node sign ≡ false
  not_needed sign none = by (is_needed demand node sign) refl
    where
      by : (b : Bool) → is_needed demand node sign ≡ b → b ≡ false
      by false e = refl
      by true e =
          let need = ap (λ (k : ℕ). is_needed demand k (sign_in (rail_number node sign))) (node_of node sign) ∙ ap (is_needed demand node) (sign_of node sign) ∙ e in
          let some = (plan (rail_number node sign) (low sign)).0 need in absurd (omega arith)

  either : (q n : Bool) → (q ≡ true) ⊎ (n ≡ true) → (q || n) ≡ true
  either q n (inl e) = or_left q n e
  either q n (inr e) = or_right q n e

  lt-so : (k : ℕ) → 1 ≤ k → nat_lt 0 k ≡ true
  lt-so k some = lt-ltb 0 k (omega arith)

  -- which rails of the latch are read, and the wire of the first
  abbrev q_of : PlainDraft → Bool
  q_of draft = nat_lt 0 (readers_of draft pos)

  abbrev n_of : PlainDraft → Bool
  n_of draft = nat_lt 0 (readers_of draft neg)

  abbrev root_of : PlainDraft → ℕ
  root_of draft = number_of_wires draft.net

  pub backs_one : (init : Bool) (before after : PlainDraft) → slice_get built.inits latch ≡ Some init → BacksAt built demand ask latch before → BeginsLatch latch init pos neg before after
      → BacksAt built demand ask (latch + 1) after
  backs_one init before after first h (unread no_pos no_neg e) = subst (BacksAt built demand ask (latch + 1)) (sym e) (record {
    stage = subst (λ (r : ℕ). IsStage built demand ask r before) (let z : neg + 1 ≡ 2 * (1 + built.graph.inputs + (latch + 1)) = omega arith in z)
        (stage_held built demand ask (neg + 1) before (held_skipped built demand ask neg (low Neg) (no_latch_reads built demand node latch Neg stands) before [] past_pos (no_neg)) h.stage.room);
    waiting = h.waiting ∙ sym (needed_next built demand latch
        ∙ ap (λ (b : Bool). latches_needed built demand latch ++ (if b || is_needed demand node Neg then latch ∷ [] else [])) (not_needed Pos (sym (h.stage.planned pos (omega arith)) ∙ no_pos))
        ∙ ap (λ (b : Bool). latches_needed built demand latch ++ (if b then latch ∷ [] else [])) (not_needed Neg (sym (h.stage.planned neg (omega arith)) ∙ no_neg))
        ∙ append-nil (latches_needed built demand latch));
    apart = h.apart;
    lines = h.lines;
    places = h.places;
  })
    where
      past_pos : IsHeld built demand ask neg [] before
      past_pos = subst (λ (r : ℕ). IsHeld built demand ask r [] before) (let z : pos + 1 ≡ neg = omega arith in z)
          (held_skipped built demand ask pos (low Pos) (no_latch_reads built demand node latch Pos stands) before [] (held_stage built demand ask pos before h.stage) no_pos)
  backs_one init before after first h (started b) = record {
    stage = subst (λ (r : ℕ). IsStage built demand ask r after) (let z : neg + 1 ≡ 2 * (1 + built.graph.inputs + (latch + 1)) = omega arith in z)
        (stage_held built demand ask (neg + 1) after past_neg room);
    waiting = ap latches_of pending_after ∙ map-append (λ (p : ℕ × ℕ). p.1) before.pending ((let half : ℕ × ℕ = (length before.net.cells, latch) in half) ∷ [])
        ∙ ap (λ (l : List ℕ). l ++ latch ∷ []) h.waiting
        ∙ sym (needed_next built demand latch ∙ ap (λ (b : Bool). latches_needed built demand latch ++ (if b then latch ∷ [] else [])) (one_needed b.some));
    apart = subst AreApart (sym pending_after) (apart-behind before.pending (length before.net.cells) latch places h.apart);
    lines = second.states ∙ first_kept.states ∙ ap (λ (l : List StateLine). l ++ line_if before.net.version latch (length before.net.cells)) h.lines
        ∙ lines_next before.net.version before.pending (length before.net.cells) latch
        ∙ ap (lines_of before.net.version) (sym pending_after) ∙ ap (λ (v : Version). lines_of v after.pending) (sym (second.version ∙ first_kept.version));
    places = second.backs ∙ first_kept.backs
        ∙ backs-append 0 before.net.cells (begun_back (number_of_wires before.net) init (q_of before) (n_of before) ∷ [])
        ∙ (let z : 0 + length before.net.cells ≡ length before.net.cells = omega arith in ap (λ (k : ℕ). backs_from 0 before.net.cells ++ k ∷ []) z)
        ∙ ap (λ (l : List ℕ). l ++ length before.net.cells ∷ []) h.places
        ∙ sym (ap (map (λ (p : ℕ × ℕ). p.0)) pending_after ∙ map-append (λ (p : ℕ × ℕ). p.0) before.pending ((let half : ℕ × ℕ = (length before.net.cells, latch) in half) ∷ []));
  }
    where
      first_kept : KeepsBacks (begun_draft before latch init (q_of before) (n_of before)) b.middle
      first_kept = grows_kept pos (root_of before) (begun_draft before latch init (q_of before) (n_of before)) b.middle b.first

      second : KeepsBacks b.middle after
      second = grows_kept neg (root_of before + wires_for (q_of before)) b.middle after b.second

      asked : (1 ≤ readers_of before pos) ⊎ (1 ≤ readers_of before neg) → (q_of before ≡ true) ⊎ (n_of before ≡ true)
      asked (inl k) = inl (lt-so (readers_of before pos) k)
      asked (inr k) = inr (lt-so (readers_of before neg) k)

      one_needed : (1 ≤ readers_of before pos) ⊎ (1 ≤ readers_of before neg) → (is_needed demand node Pos || is_needed demand node Neg) ≡ true
      one_needed (inl k) = or_left _ _ (is_needed_so Pos (omega (arith, h.stage.planned pos (omega arith))))
      one_needed (inr k) = or_right _ _ (is_needed_so Neg (omega (arith, h.stage.planned neg (omega arith))))

      begun_held : IsHeld built demand ask pos (held_if (q_of before) (root_of before) pos ++ held_if (n_of before) (root_of before + wires_for (q_of before)) neg)
          (begun_draft before latch init (q_of before) (n_of before))
      begun_held = held_begun built demand ask node latch before init (q_of before) (n_of before) (held_stage built demand ask pos before h.stage) stands first (asked b.some)

      past_pos : IsHeld built demand ask neg (held_if (n_of before) (root_of before + wires_for (q_of before)) neg) b.middle
      past_pos = subst (λ (r : ℕ). IsHeld built demand ask r (held_if (n_of before) (root_of before + wires_for (q_of before)) neg) b.middle) (let z : pos + 1 ≡ neg = omega arith in z)
          (held_grown_if built demand ask pos (low Pos) (no_latch_reads built demand node latch Pos stands) (begun_draft before latch init (q_of before) (n_of before)) b.middle
          (root_of before) (held_if (q_of before) (root_of before) pos ++ held_if (n_of before) (root_of before + wires_for (q_of before)) neg)
          (held_if (n_of before) (root_of before + wires_for (q_of before)) neg) begun_held
          (λ k. ap (λ (b : Bool). held_if b (root_of before) pos ++ held_if (n_of before) (root_of before + wires_for (q_of before)) neg) (lt-so (readers_of before pos) k))
          (λ k. ap (λ (r : ℕ). held_if (nat_lt 0 r) (root_of before) pos ++ held_if (n_of before) (root_of before + wires_for (q_of before)) neg) k) b.first)

      same_neg : readers_of b.middle neg ≡ readers_of before neg
      same_neg = past_pos.planned neg (omega arith) ∙ sym (h.stage.planned neg (omega arith))

      past_neg : IsHeld built demand ask (neg + 1) [] after
      past_neg = held_grown_if built demand ask neg (low Neg) (no_latch_reads built demand node latch Neg stands) b.middle after (root_of before + wires_for (q_of before))
          (held_if (n_of before) (root_of before + wires_for (q_of before)) neg) [] past_pos
          (λ k. ap (λ (b : Bool). held_if b (root_of before + wires_for (q_of before)) neg) (lt-so (readers_of before neg) (omega (arith, same_neg))))
          (λ k. ap (λ (r : ℕ). held_if (nat_lt 0 r) (root_of before + wires_for (q_of before)) neg) (sym same_neg ∙ k)) b.second

      pending_after : after.pending ≡ before.pending ++ (let half : ℕ × ℕ = (length before.net.cells, latch) in half) ∷ []
      pending_after = grows_pending neg (root_of before + wires_for (q_of before)) b.middle after b.second
          ∙ grows_pending pos (root_of before) (begun_draft before latch init (q_of before) (n_of before)) b.middle b.first

      places : (place other : ℕ) → IsIn {X = ℕ × ℕ} (place, other) before.pending → place < length before.net.cells
      places place other m =
          let t = h.stage.tracked (λ wire. get_or h.stage.labels wire 0) (λ wire k. refl) in
          let w = t.waits place other m in place_within before.net.cells place (Droc Back w.init (numbered 0) w.q w.n) w.is

      few_wires : (b : Bool) → wires_for b ≤ 1
      few_wires true = omega arith
      few_wires false = omega arith

      some_wires : (q n : Bool) → (q ≡ true) ⊎ (n ≡ true) → 1 ≤ wires_for q + wires_for n
      some_wires true n a = omega arith
      some_wires false true a = omega arith
      some_wires false false (inl e) = absurd cc
      some_wires false false (inr e) = absurd cc

      begun_wires : number_of_wires (begun_draft before latch init (q_of before) (n_of before)).net ≡ number_of_wires before.net + (wires_for (q_of before) + wires_for (n_of before))
      begun_wires = back_number before.net init (q_of before) (n_of before) (asked b.some)

      left_room : ℕ
      left_room = spare - (wires_for (q_of before) + wires_for (n_of before))

      begun_room : HasRoom left_room (begun_draft before latch init (q_of before) (n_of before))
      begun_room =
          let w = h.stage.room.wires in let k = h.stage.room.cells in
          record {
            wires = omega (arith, w, begun_wires, few_wires (q_of before), few_wires (n_of before));
            cells = omega (
              arith,
              k,
              begun_wires,
              some_wires (q_of before) (n_of before) (asked b.some),
              length-append before.net.cells
                  (begun_back (number_of_wires before.net) init (q_of before) (n_of before) ∷ []),
            );
          }

      middle_room : HasRoom (left_room + 2 * wires_for (q_of before)) b.middle
      middle_room = grows_room pos (root_of before) left_room (begun_draft before latch init (q_of before) (n_of before)) b.middle b.first begun_room

      room : HasRoom spare after
      room =
          less_room after spare (left_room + 2 * wires_for (q_of before) + 2 * wires_for (n_of b.middle))
          (omega (arith, few_wires (q_of before), few_wires (n_of before), ap (λ (r : ℕ). wires_for (nat_lt 0 r)) same_neg))
          (grows_room neg (root_of before + wires_for (q_of before)) (left_room + 2 * wires_for (q_of before)) b.middle after b.second middle_room)
