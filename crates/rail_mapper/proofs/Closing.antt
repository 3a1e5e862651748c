-- The fronts, one after the other.
use Rattle.std.proofs.Common.{◌≡◌, ◌<◌, ◌+◌, ℕ, Bool, Option, Some, List, [], ◌∷◌, ◌++◌, map, slice_get, ap, sym, subst, ◌∙◌, arith}
use Rattle.std.proofs.lemmas.List.{length-append}
use Rattle.pulse_ids.specs.Ids.{NodeLit, WireId, numbered}
use Rattle.pulse_ids.specs.declared.literals.Sign.TheVariants.{Pos}
use Rattle.cell_netlist.specs.declared.kinds.Role.TheVariants.{Back}
use Rattle.cell_netlist.specs.declared.lines.Cell.TheVariants.{Droc}
use Rattle.pulse_ids.specs.Lists.{IsIn}
use Rattle.cell_netlist.specs.Netlists.{PlainNetlist, number_of_wires}
use Rattle.aig_core.specs.Graphs.{count_of}
use Rattle.graph_build.specs.Built.{PlainBuilt}
use Rattle.pulse_ids.proofs.CallerLemmasOnCounts.{occurrences-append}
use Rattle.droc_pairs.specs.Pairs.{StandsBack, with_front}
use Rattle.wire_ledgers.specs.Ledgers.{IsLedger}
use Rattle.rail_mapper.specs.Drafts.{PlainDraft, readers_of, open_in, IsDraft}
use Rattle.rail_mapper.specs.Labels.{literal_number, rails_in}
use Rattle.rail_mapper.specs.Stages.{Follows, IsClosing, Finishes}
use Rattle.rail_mapper.specs.Tracks.{IsTracked}
use Rattle.rail_mapper.proofs.DraftSteps.{take_step}
use Rattle.rail_mapper.proofs.DraftLedgers.{finish_step, finish_number}
use Rattle.rail_mapper.proofs.StageSteps.{follows_front, follows_last}
use Rattle.rail_mapper.proofs.Tracking.{take_tracked}
use Rattle.rail_mapper.proofs.TrackingFronts.{finish_tracked}

module _ (built : PlainBuilt) (place latch : ℕ) (rest : List (ℕ × ℕ)) (literal : NodeLit) (left : List ℕ) (before after : PlainDraft) (init : Bool)
    (h : IsClosing built (literal_number literal Pos ∷ left) before) (pending : before.pending ≡ (let half : ℕ × ℕ = (place, latch) in half) ∷ rest)
    (once : (other : ℕ) → IsIn {X = ℕ × ℕ} (place, other) rest → ⊥)
    (holds : slice_get built.nexts latch ≡ Some literal) (within : literal.id.number < count_of built.graph)
    (q n : Option WireId) (waits : slice_get before.net.cells place ≡ Some (Droc Back init (numbered 0) q n))
    (finishes : Finishes (literal_number literal Pos) place latch init rest before after) where
  taken_draft : IsDraft finishes.middle (finishes.next ∷ []) (0 ∷ map (λ (p : ℕ × ℕ). 0) rest) left
  taken_draft = subst (λ (l : List (ℕ × ℕ)). IsDraft finishes.middle (finishes.next ∷ []) (map (λ (p : ℕ × ℕ). 0) l) left) pending
      (take_step before finishes.middle [] (map (λ (p : ℕ × ℕ). 0) before.pending) left (literal_number literal Pos) finishes.next h.is_draft finishes.taken)

  same_net : finishes.middle.net ≡ before.net
  same_net = ap (λ (d : PlainDraft). d.net) finishes.taken.taken

  abbrev back : StandsBack finishes.middle.net place init
  back = record { feed = numbered 0; q = q; n = n; is = ap (λ (net : PlainNetlist). slice_get net.cells place) same_net ∙ waits }

  next_inside : finishes.next < number_of_wires finishes.middle.net
  next_inside = let a = occurrences-append finishes.next (open_in finishes.middle) (finishes.next ∷ []) in taken_draft.ledger.inside finishes.next (grind arith)

  closed_net : IsLedger (with_front finishes.middle.net place init finishes.next) (open_in finishes.middle ++ []) (map (λ (p : ℕ × ℕ). 0) rest)
  closed_net = finish_step finishes.middle.net place init finishes.next back next_inside (open_in finishes.middle ++ finishes.next ∷ []) (open_in finishes.middle ++ [])
      (map (λ (p : ℕ × ℕ). 0) rest) taken_draft.ledger
      (λ wire. let a = occurrences-append wire (open_in finishes.middle) (finishes.next ∷ []) in let b = occurrences-append wire (open_in finishes.middle) [] in omega arith)

  after_draft : IsDraft after [] (map (λ (p : ℕ × ℕ). 0) after.pending) left
  after_draft = subst (λ (d : PlainDraft). IsDraft d [] (map (λ (p : ℕ × ℕ). 0) d.pending) left) (sym finishes.finished) (record { ledger = closed_net; exact = taken_draft.exact })

  number_after : number_of_wires after.net ≡ number_of_wires before.net + 1
  number_after = ap (λ (d : PlainDraft). number_of_wires d.net) finishes.finished ∙ finish_number finishes.middle.net place init finishes.next back next_inside
      ∙ ap (λ (net : PlainNetlist). number_of_wires net + 1) same_net

  pub finished_closing : IsClosing built left after
  finished_closing = record {
    is_draft = after_draft;
    spread = λ rail low. ap (λ (d : PlainDraft). readers_of d rail) finishes.finished ∙ ap (λ (d : PlainDraft). readers_of d rail) finishes.taken.taken ∙ h.spread rail low;
    labels = h.labels ++ (rails_in built + latch) ∷ [];
    one_each = length-append h.labels ((rails_in built + latch) ∷ []) ∙ ap (λ (k : ℕ). k + 1) h.one_each ∙ sym number_after;
    tracked = λ label f. track label f;
  }
    where
      track : (label : ℕ → ℕ) → Follows (h.labels ++ (rails_in built + latch) ∷ []) label → IsTracked built label after.pending after
      track label f =
          let before_tracked = subst (λ (l : List (ℕ × ℕ)). IsTracked built label l before) pending (h.tracked label (follows_front h.labels ((rails_in built + latch) ∷ []) label f)) in
          let t = take_tracked built label ((let half : ℕ × ℕ = (place, latch) in half) ∷ rest) before finishes.middle (literal_number literal Pos) finishes.next before_tracked finishes.taken in
          let link : label (number_of_wires finishes.middle.net) ≡ rails_in built + latch = ap (λ (net : PlainNetlist). label (number_of_wires net)) same_net
          ∙ follows_last h.labels 1 (rails_in built + latch) label f (number_of_wires before.net) (omega (arith, h.one_each)) (omega (arith, h.one_each)) in
          let u = finish_tracked built label place latch rest finishes.middle init finishes.next literal t.0 back once holds within t.1 link in
          subst (λ (d : PlainDraft). IsTracked built label d.pending d) (sym finishes.finished)
          (record { stocked = u.stocked; inputs = u.inputs; gates = u.gates; backs = u.backs; fronts = u.fronts; waits = u.waits; constants = u.constants; outputs = u.outputs; states = u.states })
