-- Fronts, one pending pair after the other.
use Rattle.std.proofs.Common.{◌≡◌, ◌≤◌, ◌<◌, ◌+◌, ◌||◌, inl, inr, ℕ, zero, suc, Bool, true, false, Option, Some, List, [], ◌∷◌, ◌++◌, map, length, slice_get, get_or, ap, sym, subst, ◌∙◌, refl}
use Rattle.std.proofs.Common.{arith, append-nil, if◌then◌else◌}
use Rattle.std.specs.List.{flat_map, range_with_len}
use Rattle.std.proofs.lemmas.Grind.{flat_map-append}
use Rattle.std.proofs.lemmas.List.{length-append, length-map}
use Rattle.pulse_ids.specs.Ids.{NodeLit, numbered}
use Rattle.pulse_ids.specs.Lists.{IsIn}
use Rattle.pulse_ids.specs.declared.literals.Sign.TheVariants.{Pos, Neg}
use Rattle.pulse_ids.proofs.CallerLemmas.{IsIn-from_flat_map, IsIn-map}
use Rattle.cell_netlist.specs.declared.kinds.Ask.{Ask}
use Rattle.cell_netlist.specs.declared.kinds.Role.TheVariants.{Back}
use Rattle.cell_netlist.specs.declared.lines.Cell.{Cell}
use Rattle.cell_netlist.specs.declared.lines.Cell.TheVariants.{Droc}
use Rattle.cell_netlist.specs.Netlists.{PlainNetlist, number_of_wires}
use Rattle.aig_core.specs.Graphs.{count_of}
use Rattle.graph_build.specs.Built.{PlainBuilt, IsWithinGraph}
use Rattle.rail_demand.specs.Demands.{PlainDemand, is_needed}
use Rattle.droc_pairs.specs.Pairs.{IsPair, front_of, with_front}
use Rattle.wire_ledgers.proofs.CallerLemmasOnRanges.{in_range}
use Rattle.rail_mapper.specs.Drafts.{PlainDraft, readers_of, Takes}
use Rattle.rail_mapper.specs.FrontStages.{WaitsFirst, CanFinish, FinishesFirst}
use Rattle.rail_mapper.specs.Labels.{literal_number, rails_in}
use Rattle.rail_mapper.specs.LatchStages.{latches_needed, fronts_of, latches_of, AreApart, FrontsAt}
use Rattle.rail_mapper.specs.Plans.{front_use, front_uses, output_uses}
use Rattle.rail_mapper.specs.Stages.{IsStage, IsClosing, Finishes}
use Rattle.rail_mapper.specs.Tracks.{IsWaiting}
use Rattle.rail_mapper.proofs.Closing.{finished_closing}
use Rattle.rail_mapper.proofs.DraftSteps.{can_take}
use Rattle.rail_mapper.proofs.Feeds.{length-fed}
use Rattle.rail_mapper.proofs.OutputSteps.{stage_closing}
use Rattle.rail_mapper.proofs.StageSteps.{leaves_inside}

-- drafts with the same parts are the same
same_parts : (a b : PlainDraft) → a.net ≡ b.net → a.counts ≡ b.counts → a.stock ≡ b.stock → a.pending ≡ b.pending → a ≡ b
same_parts a b net counts stock pending =
    ap (λ (x : PlainNetlist). record { net = x; counts = a.counts; stock = a.stock; pending = a.pending }) net
    ∙ ap (λ (x : List ℕ). record { net = b.net; counts = x; stock = a.stock; pending = a.pending }) counts
    ∙ ap (λ (x : List (List ℕ)). record { net = b.net; counts = b.counts; stock = x; pending = a.pending }) stock
    ∙ ap (λ (x : List (ℕ × ℕ)). record { net = b.net; counts = b.counts; stock = b.stock; pending = x }) pending

-- a leaf, the first pair and its front are one step
pub front_finishes : (rail : ℕ) (init : Bool) (before middle after : PlainDraft) (next place latch : ℕ) (rest : List (ℕ × ℕ)) (net : PlainNetlist) (pending : List (ℕ × ℕ))
    → Takes rail next before middle
    → pending ≡ middle.pending → pending ≡ (let half : ℕ × ℕ = (place, latch) in half) ∷ rest → net ≡ middle.net → IsPair net after.net place init next
    → after.counts ≡ middle.counts → after.stock ≡ middle.stock → after.pending ≡ rest → FinishesFirst rail init before after
front_finishes rail init before middle after next place latch rest net pending taken same_pending first same_net pair counts stock left = record {
  latch = latch;
  waits = record { place = place; rest = rest; first = sym (ap (λ (d : PlainDraft). d.pending) taken.taken) ∙ sym same_pending ∙ first };
  finishes = record {
    next = next;
    middle = middle;
    taken = taken;
    finished = same_parts after (record middle { net = with_front middle.net place init next; pending = rest })
        (pair.is ∙ ap (λ (n : PlainNetlist). with_front n place init next) same_net) counts stock left;
  };
  wires = pair.wires ∙ ap (λ (n : PlainNetlist). number_of_wires n + 1) (same_net ∙ ap (λ (d : PlainDraft). d.net) taken.taken);
}

-- the first of a list of pairs is one pair
same_first : (pending : List (ℕ × ℕ)) (one other : ℕ) → WaitsFirst one pending → WaitsFirst other pending → one ≡ other
same_first pending one other a b = heads (sym a.first ∙ b.first)
  where
    heads : (let half : ℕ × ℕ = (a.place, one) in half) ∷ a.rest ≡ (let half : ℕ × ℕ = (b.place, other) in half) ∷ b.rest → one ≡ other
    heads e = let same : (let half : ℕ × ℕ = (a.place, one) in half) ≡ (let half : ℕ × ℕ = (b.place, other) in half) = cc in ap (λ (p : ℕ × ℕ). p.1) same

module _ (built : PlainBuilt) (ask : Ask) (before : PlainDraft) (h : FrontsAt built ask before) (latch : ℕ) (waits : WaitsFirst latch before.pending) where
  -- The latch of the first pair is one of the graph's.
  pub waits_low : latch < length built.nexts
  waits_low = let low = h.latches waits.place latch (subst (λ (l : List (ℕ × ℕ)). IsIn {X = ℕ × ℕ} (waits.place, latch) l) (sym waits.first) (inl refl)) in omega arith

  module _ (init : Bool) (literal : NodeLit) (holds : slice_get built.nexts latch ≡ Some literal) (first : slice_get built.inits latch ≡ Some init) where
    pub waiting : IsWaiting built before.net.cells waits.place latch
    waiting = (h.closing.tracked (λ wire. get_or h.closing.labels wire 0) (λ wire low. refl)).waits waits.place latch
        (subst (λ (l : List (ℕ × ℕ)). IsIn {X = ℕ × ℕ} (waits.place, latch) l) (sym waits.first) (inl refl))

    same_init : waiting.init ≡ init
    same_init = let e : Some waiting.init ≡ Some init = sym waiting.first ∙ first in cc

    -- the back stands at the place, with the latch's first bit
    back_waits : slice_get before.net.cells waits.place ≡ Some (Droc Back init (numbered 0) waiting.q waiting.n)
    back_waits = subst (λ (b : Bool). slice_get before.net.cells waits.place ≡ Some (Droc Back b (numbered 0) waiting.q waiting.n)) same_init waiting.is

    apart : AreApart ((let half : ℕ × ℕ = (waits.place, latch) in half) ∷ waits.rest)
    apart = subst AreApart waits.first h.apart

    next_read : fronts_of built before.pending ++ output_uses built ask ≡ literal_number literal Pos ∷ (fronts_of built waits.rest ++ output_uses built ask)
    next_read =
        ap (λ (l : List (ℕ × ℕ)). fronts_of built l ++ output_uses built ask) waits.first
        ∙ ap (λ (o : Option NodeLit). (front_use o ++ fronts_of built waits.rest) ++ output_uses built ask) holds

    closing : IsClosing built (literal_number literal Pos ∷ (fronts_of built waits.rest ++ output_uses built ask)) before
    closing = subst (λ (l : List ℕ). IsClosing built l before) next_read h.closing

    -- The front of the first pair can be added.
    pub fronts_ready : CanFinish (literal_number literal Pos) init before
    fronts_ready = record {
      latch = latch;
      waits = waits;
      back = record { feed = numbered 0; q = waiting.q; n = waiting.n; is = back_waits };
      leaf = can_take before [] (map (λ (p : ℕ × ℕ). 0) before.pending) (fronts_of built waits.rest ++ output_uses built ask) (literal_number literal Pos) closing.is_draft
          (h.all_spread (literal_number literal Pos));
      inside = leaves_inside before [] (map (λ (p : ℕ × ℕ). 0) before.pending) (literal_number literal Pos ∷ (fronts_of built waits.rest ++ output_uses built ask)) closing.is_draft;
      wires = let w = h.wires in omega (arith, w);
      cells = let w = h.wires in let k = h.cells in omega (arith, w, k);
    }

    -- one pair more is finished
    fronts_next : (after : PlainDraft) → Finishes (literal_number literal Pos) waits.place latch init waits.rest before after → literal.id.number < count_of built.graph
        → number_of_wires after.net ≡ number_of_wires before.net + 1 → FrontsAt built ask after
    fronts_next after finishes within wires = record {
      closing = subst (λ (l : List (ℕ × ℕ)). IsClosing built (fronts_of built l ++ output_uses built ask) after) (sym rest_is)
          (finished_closing built waits.place latch waits.rest literal (fronts_of built waits.rest ++ output_uses built ask) before after init
          closing waits.first apart.0 holds within waiting.q waiting.n back_waits finishes);
      all_spread = λ rail. ap (λ (d : PlainDraft). readers_of d rail) finishes.finished ∙ ap (λ (d : PlainDraft). readers_of d rail) finishes.taken.taken ∙ h.all_spread rail;
      apart = subst AreApart (sym rest_is) apart.1;
      latches = λ at other m. h.latches at other (subst (λ (l : List (ℕ × ℕ)). IsIn {X = ℕ × ℕ} (at, other) l) (sym waits.first)
          (inr (subst (λ (l : List (ℕ × ℕ)). IsIn {X = ℕ × ℕ} (at, other) l) rest_is m)));
      wires = let w = h.wires in omega (arith, w, wires, ap (λ (l : List (ℕ × ℕ)). length l) waits.first, ap (λ (l : List (ℕ × ℕ)). length l) rest_is);
      cells = let k = h.cells in omega (arith, k, wires, cells);
    }
      where
        rest_is : after.pending ≡ waits.rest
        rest_is = ap (λ (d : PlainDraft). d.pending) finishes.finished

        same_net : finishes.middle.net ≡ before.net
        same_net = ap (λ (d : PlainDraft). d.net) finishes.taken.taken

        front : Cell
        front = front_of init finishes.next (number_of_wires finishes.middle.net)

        cells : length after.net.cells ≡ length before.net.cells + 1
        cells = ap (λ (d : PlainDraft). length d.net.cells) finishes.finished
            ∙ length-fed waits.place (numbered (number_of_wires finishes.middle.net)) _
            ∙ length-append finishes.middle.net.cells _ ∙ ap (λ (n : PlainNetlist). length n.cells + 1) same_net

-- One front further.
pub fronts_one : (built : PlainBuilt) (ask : Ask) (before after : PlainDraft) (latch : ℕ) (init : Bool) (literal : NodeLit) → IsWithinGraph built → FrontsAt built ask before
    → WaitsFirst latch before.pending → slice_get built.nexts latch ≡ Some literal → slice_get built.inits latch ≡ Some init
    → FinishesFirst (literal_number literal Pos) init before after → FrontsAt built ask after
fronts_one built ask before after latch init literal inside h waits holds first f =
    let same : latch ≡ f.latch = same_first before.pending latch f.latch waits f.waits in
    fronts_next built ask before h f.latch f.waits init literal (subst (λ (k : ℕ). slice_get built.nexts k ≡ Some literal) same holds)
    (subst (λ (k : ℕ). slice_get built.inits k ≡ Some init) same first)
    after f.finishes (inside.nexts_within latch literal holds) f.wires

-- What is left after one front: one pair less waits.
pub one_less : (rail : ℕ) (init : Bool) (before after : PlainDraft) → FinishesFirst rail init before after → length before.pending ≡ length after.pending + 1
one_less rail init before after f =
    let e = ap (λ (l : List (ℕ × ℕ)). length l) f.waits.first in
    let g = ap (λ (d : PlainDraft). length d.pending) f.finishes.finished in omega (arith, e, g)

-- items that are picked
picked : (test : ℕ → Bool) (f : ℕ → List ℕ) (xs : List ℕ) → flat_map f (flat_map (λ (k : ℕ). if test k then k ∷ [] else []) xs) ≡ flat_map (λ (k : ℕ). if test k then f k else []) xs
picked test f [] = refl
picked test f (x ∷ xs) =
    flat_map-append f (if test x then x ∷ [] else []) (flat_map (λ (k : ℕ). if test k then k ∷ [] else []) xs)
    ∙ ap (λ (l : List ℕ). l ++ flat_map f (flat_map (λ (k : ℕ). if test k then k ∷ [] else []) xs)) (by (test x))
    ∙ ap (λ (l : List ℕ). (if test x then f x else []) ++ l) (picked test f xs)
  where
    by : (b : Bool) → flat_map f (if b then x ∷ [] else []) ≡ (if b then f x else [])
    by true = append-nil (f x)
    by false = refl

pub picked_few : (test : ℕ → Bool) (first n : ℕ) → length (flat_map (λ (k : ℕ). if test k then k ∷ [] else []) (range_with_len first n)) ≤ n
picked_few test first zero = omega arith
picked_few test first (suc n) =
    let r = picked_few test (first + 1) n in
    let a = length-append (if test first then first ∷ [] else []) (flat_map (λ (k : ℕ). if test k then k ∷ [] else []) (range_with_len (first + 1) n)) in
    let b = by (test first) in omega (arith, r, a, b)
  where
    by : (b : Bool) → length (if b then first ∷ [] else []) ≤ 1
    by true = omega arith
    by false = omega arith

picked_in : (test : ℕ → Bool) (xs : List ℕ) (k : ℕ) → IsIn k (flat_map (λ (k : ℕ). if test k then k ∷ [] else []) xs) → IsIn k xs
picked_in test xs k m =
    let f = IsIn-from_flat_map (λ (k : ℕ). if test k then k ∷ [] else []) k xs m in by f.0 (test f.0) f.1 f.2
  where
    by : (x : ℕ) (b : Bool) → IsIn x xs → IsIn k (if b then x ∷ [] else []) → IsIn k xs
    by x true i (inl e) = subst (λ (y : ℕ). IsIn y xs) e i
    by x true i (inr m) = absurd m
    by x false i m = absurd m

-- All gates stand, and the pairs that wait are those of the latches that are needed.
pub fronts_begin : (built : PlainBuilt) (demand : PlainDemand) (ask : Ask) (draft : PlainDraft) → IsWithinGraph built → IsStage built demand ask (rails_in built) draft
    → latches_of draft.pending ≡ latches_needed built demand built.graph.latches → AreApart draft.pending → FrontsAt built ask draft
fronts_begin built demand ask draft inside stage waiting apart = record {
  closing = subst (λ (l : List ℕ). IsClosing built (l ++ output_uses built ask) draft) same_fronts closing.0;
  all_spread = closing.1;
  apart = apart;
  latches = λ place latch m.
      let i : IsIn latch (latches_of draft.pending) = IsIn-map (λ (p : ℕ × ℕ). p.1) (let half : ℕ × ℕ = (place, latch) in half) draft.pending m in
      let r = in_range 0 built.graph.latches latch (picked_in needed (range_with_len 0 built.graph.latches) latch (subst (λ (l : List ℕ). IsIn latch l) waiting i)) in
      omega (arith, r.1, inside.one_next_each);
  wires =
      let w = stage.room.wires in
      omega (arith, w, length-map draft.pending (λ (p : ℕ × ℕ). p.1), ap (λ (l : List ℕ). length l) waiting, picked_few needed 0 built.graph.latches, inside.kept.latches_fit);
  cells = stage.room.cells;
}
  where
    closing : IsClosing built (front_uses built demand ++ output_uses built ask) draft × ((rail : ℕ) → readers_of draft rail ≡ 0)
    closing = stage_closing built demand ask draft stage

    needed : ℕ → Bool
    needed latch = is_needed demand (1 + built.graph.inputs + latch) Pos || is_needed demand (1 + built.graph.inputs + latch) Neg

    same_fronts : front_uses built demand ≡ fronts_of built draft.pending
    same_fronts = sym (ap (flat_map (λ (latch : ℕ). front_use (slice_get built.nexts latch))) waiting
        ∙ picked needed (λ (latch : ℕ). front_use (slice_get built.nexts latch)) (range_with_len 0 built.graph.latches))
