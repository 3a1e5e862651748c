-- What a back does to the labels of a draft's wires.
use Rattle.std.proofs.Common.{◌≡◌, ◌<◌, ◌+◌, ◌⊎◌, inl, inr, ℕ, zero, suc, Bool, not, Option, Some, List, [], ◌∷◌, ◌++◌, length, slice_get, ap, sym, subst, refl, arith}
use Rattle.pulse_ids.specs.Ids.{WireId}
use Rattle.cell_netlist.specs.declared.kinds.Role.{Role}
use Rattle.cell_netlist.specs.declared.kinds.Role.TheVariants.{Front, Back, Const}
use Rattle.cell_netlist.specs.declared.lines.Cell.{Cell}
use Rattle.cell_netlist.specs.declared.lines.StateLine.{StateLine}
use Rattle.cell_netlist.specs.declared.lines.Cell.TheVariants.{Droc}
use Rattle.pulse_ids.specs.Lists.{IsIn}
use Rattle.cell_netlist.specs.Netlists.{number_of_wires}
use Rattle.pulse_ids.proofs.CallerLemmas.{IsIn-append, IsIn-left, IsIn-right}
use Rattle.graph_build.specs.Built.{PlainBuilt}
use Rattle.splitter_trees.specs.Spreading.{with_cells}
use Rattle.droc_pairs.specs.Pairs.{asked_output, wires_for, begun_back}
use Rattle.rail_mapper.specs.Drafts.{PlainDraft, with_cell}
use Rattle.rail_mapper.specs.Tracks.{FitsGate, IsBegunFor, IsPaired, IsJoined, IsWaiting, IsTracked}
use Rattle.rail_mapper.specs.StateLines.{IsLinked, IsStateOf}
use Rattle.rail_mapper.proofs.Tracking.{more_paired, more_joined, more_waiting, same_const}
use Rattle.rail_mapper.proofs.TrackingStates.{more_state}

pub place_last : {X : Type 0} (xs : List X) (last : X) (place : ℕ) (x : X) → slice_get (xs ++ last ∷ []) place ≡ Some x → (slice_get xs place ≡ Some x) ⊎ ((place ≡ length xs) × (last ≡ x))
place_last [] last zero x e = inr (refl, cc)
place_last [] last (suc place) x e = absurd cc
place_last (z ∷ xs) last zero x e = inl e
place_last (z ∷ xs) last (suc place) x e = elim (place_last xs last place x e) [ inl k ↦ inl k | inr k ↦ inr (ap suc k.0, k.1) ]

pub place_below : {X : Type 0} (xs : List X) (place : ℕ) (x : X) → slice_get xs place ≡ Some x → place < length xs
place_below [] place x e = absurd cc
place_below (y ∷ xs) zero x e = omega arith
place_below (y ∷ xs) (suc place) x e = let r = place_below xs place x e in omega arith

-- more pairs pending
apart : (pending : List (ℕ × ℕ)) (place length latch : ℕ) → place < length → ((other : ℕ) → IsIn {X = ℕ × ℕ} (place, other) pending → ⊥) → (other : ℕ)
    → IsIn {X = ℕ × ℕ} (place, other) (pending ++ (length, latch) ∷ []) → ⊥
apart pending place length latch low done other m = elim (IsIn-append {X = ℕ × ℕ} (place, other) pending ((length, latch) ∷ []) m) [ inl k ↦ done other k | inr k ↦ last k ]
  where
    last : IsIn {X = ℕ × ℕ} (place, other) ((length, latch) ∷ []) → ⊥
    last (inl e) = let p : length ≡ place = ap (λ (x : ℕ × ℕ). x.0) e in absurd (omega arith)
    last (inr m) = absurd m

later_paired : (built : PlainBuilt) (label : ℕ → ℕ) (pending : List (ℕ × ℕ)) (cells : List Cell) (more : ℕ) (place : ℕ) (preload : Bool) (feed : WireId) (q n : Option WireId) → place < length cells
    → IsPaired built label pending cells place preload feed q n → IsPaired built label (pending ++ (length cells, more) ∷ []) cells place preload feed q n
later_paired built label pending cells more place preload feed q n low h = record {
  latch = h.latch;
  begun = h.begun;
  front = elim (h.front) [
    | inl p ↦ inl (IsIn-left (place, h.latch) pending ((length cells, more) ∷ []) p)
    | inr f ↦ inr (apart pending place (length cells) more low f.0, f.1)
  ];
}

later_joined : (built : PlainBuilt) (label : ℕ → ℕ) (pending : List (ℕ × ℕ)) (cells : List Cell) (latch : ℕ) (preload : Bool) (q n : Option WireId)
    → IsJoined built label pending cells preload q n → IsJoined built label (pending ++ (length cells, latch) ∷ []) cells preload q n
later_joined built label pending cells latch preload q n h = record {
  no_n = h.no_n;
  link = h.link;
  on = h.on;
  high = h.high;
  place = h.place;
  done = apart pending h.place (length cells) latch (place_below cells h.place (Droc Back (not preload) h.back_feed h.back_q h.back_n) h.back) h.done;
  back_feed = h.back_feed;
  back_q = h.back_q;
  back_n = h.back_n;
  back = h.back;
  feed_is = h.feed_is;
}

later_state : (built : PlainBuilt) (label : ℕ → ℕ) (pending : List (ℕ × ℕ)) (cells : List Cell) (latch : ℕ) (line : StateLine)
    → IsStateOf built label pending cells line → IsStateOf built label (pending ++ (length cells, latch) ∷ []) cells line
later_state built label pending cells latch line (inl waits) = inl (IsIn-left (line.cell.number, line.latch) pending ((length cells, latch) ∷ []) waits)
later_state built label pending cells latch line (inr its) = inr (record {
  done = apart pending line.cell.number (length cells) latch (place_below cells line.cell.number (Droc Back its.preload its.feed its.q its.n) its.back) its.done;
  preload = its.preload;
  feed = its.feed;
  q = its.q;
  n = its.n;
  back = its.back;
  feed_is = its.feed_is;
})

-- a back that is begun
pub begin_tracked : (built : PlainBuilt) (label : ℕ → ℕ) (pending : List (ℕ × ℕ)) (draft : PlainDraft) (latch : ℕ) (init q n : Bool) → IsTracked built label pending draft
    → IsBegunFor built label latch init (asked_output q (number_of_wires draft.net)) (asked_output n (number_of_wires draft.net + wires_for q))
    → IsTracked built label (pending ++ (length draft.net.cells, latch) ∷ []) (with_cell draft (begun_back (number_of_wires draft.net) init q n))
begin_tracked built label pending draft latch init q n h begun = record {
  stocked = h.stocked;
  inputs = h.inputs;
  gates = λ cell m. elim (IsIn-append cell draft.net.cells (begun_back (number_of_wires draft.net) init q n ∷ []) m) [ inl k ↦ h.gates cell k | inr k ↦ only cell k ];
  backs = λ place preload feed on_q on_n s. elim (place_last draft.net.cells (begun_back (number_of_wires draft.net) init q n) place (Droc Back preload feed on_q on_n) s) [
    | inl k ↦ more_paired built label (pending ++ (length draft.net.cells, latch) ∷ []) draft.net.cells (begun_back (number_of_wires draft.net) init q n ∷ []) place preload feed on_q on_n
        (later_paired built label pending draft.net.cells latch place preload feed on_q on_n (place_below draft.net.cells place (Droc Back preload feed on_q on_n) k)
        (h.backs place preload feed on_q on_n k))
    | inr k ↦ record {
      latch = latch;
      begun = is_begun preload feed on_q on_n k.1;
      front = inl (IsIn-right (place, latch) pending ((length draft.net.cells, latch) ∷ []) (inl (ap (λ (p : ℕ). let pair : ℕ × ℕ = (p, latch) in pair) (sym k.0))));
    }
  ];
  fronts = λ preload feed on_q on_n m. elim (IsIn-append (Droc Front preload feed on_q on_n) draft.net.cells (begun_back (number_of_wires draft.net) init q n ∷ []) m) [
    | inl k ↦ more_joined built label (pending ++ (length draft.net.cells, latch) ∷ []) draft.net.cells (begun_back (number_of_wires draft.net) init q n ∷ []) preload on_q on_n
        (later_joined built label pending draft.net.cells latch preload on_q on_n (h.fronts preload feed on_q on_n k))
    | inr k ↦ absurd (other_role Front preload feed on_q on_n k (λ e. cc))
  ];
  waits = λ place other m. elim (IsIn-append {X = ℕ × ℕ} (place, other) pending ((length draft.net.cells, latch) ∷ []) m) [
    | inl k ↦ more_waiting built draft.net.cells (begun_back (number_of_wires draft.net) init q n ∷ []) place other (h.waits place other k)
    | inr k ↦ waits_now place other k
  ];
  constants = λ preload feed on_q on_n m. elim (IsIn-append (Droc Const preload feed on_q on_n) draft.net.cells (begun_back (number_of_wires draft.net) init q n ∷ []) m) [
    | inl k ↦ same_const label draft.net (with_cells draft.net (begun_back (number_of_wires draft.net) init q n ∷ []))
        (λ cell m d. IsIn-left cell draft.net.cells (begun_back (number_of_wires draft.net) init q n ∷ []) m) preload feed on_q on_n (h.constants preload feed on_q on_n k)
    | inr k ↦ absurd (other_role Const preload feed on_q on_n k (λ e. cc))
  ];
  outputs = h.outputs;
  states = λ line m. more_state built label (pending ++ (length draft.net.cells, latch) ∷ []) draft.net.cells (begun_back (number_of_wires draft.net) init q n ∷ []) line
      (later_state built label pending draft.net.cells latch line (h.states line m));
}
  where
    last_there : {X : Type 0} (xs : List X) (x : X) → slice_get (xs ++ x ∷ []) (length xs) ≡ Some x
    last_there [] x = refl
    last_there (y ∷ xs) x = last_there xs x

    waits_now : (place other : ℕ) → IsIn {X = ℕ × ℕ} (place, other) ((length draft.net.cells, latch) ∷ [])
        → IsWaiting built (draft.net.cells ++ begun_back (number_of_wires draft.net) init q n ∷ []) place other
    waits_now place other (inl e) =
        subst (λ (p : ℕ). IsWaiting built (draft.net.cells ++ begun_back (number_of_wires draft.net) init q n ∷ []) p other) (ap (λ (x : ℕ × ℕ). x.0) e)
        (record {
          init = init;
          first = subst (λ (l : ℕ). slice_get built.inits l ≡ Some init) (ap (λ (x : ℕ × ℕ). x.1) e) begun.first;
          q = asked_output q (number_of_wires draft.net);
          n = asked_output n (number_of_wires draft.net + wires_for q);
          is = last_there draft.net.cells (begun_back (number_of_wires draft.net) init q n);
        })
    waits_now place other (inr m) = absurd m

    only : (cell : Cell) → IsIn cell (begun_back (number_of_wires draft.net) init q n ∷ []) → FitsGate built label cell
    only cell (inl e) = subst (λ (c : Cell). FitsGate built label c) e tt
    only cell (inr m) = absurd m

    is_begun : (preload : Bool) (feed : WireId) (on_q on_n : Option WireId) → begun_back (number_of_wires draft.net) init q n ≡ Droc Back preload feed on_q on_n
        → IsBegunFor built label latch preload on_q on_n
    is_begun preload feed on_q on_n e =
        let a : init ≡ preload = cc in
        let b : asked_output q (number_of_wires draft.net) ≡ on_q = cc in
        let d : asked_output n (number_of_wires draft.net + wires_for q) ≡ on_n = cc in
        subst (λ (o : Option WireId). IsBegunFor built label latch preload on_q o) d
        (subst (λ (o : Option WireId). IsBegunFor built label latch preload o (asked_output n (number_of_wires draft.net + wires_for q))) b
        (subst (λ (p : Bool). IsBegunFor built label latch p (asked_output q (number_of_wires draft.net)) (asked_output n (number_of_wires draft.net + wires_for q))) a begun))

    other_role : (role : Role) (preload : Bool) (feed : WireId) (on_q on_n : Option WireId) → IsIn (Droc role preload feed on_q on_n) (begun_back (number_of_wires draft.net) init q n ∷ [])
        → (Back ≡ role → ⊥) → ⊥
    other_role role preload feed on_q on_n (inl e) ne = ne (let a : Back ≡ role = cc in a)
    other_role role preload feed on_q on_n (inr m) ne = absurd m
