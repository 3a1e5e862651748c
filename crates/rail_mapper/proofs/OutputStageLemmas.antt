-- Output rails, one port after the other, and the end.
use Rattle.std.proofs.Common.{◌≡◌, ◌≤◌, ◌<◌, ◌+◌, ◌*◌, inl, inr, ℕ, zero, suc, Bool, Some, List, [], ◌∷◌, ◌++◌, map, drop, length, slice_get, ap, sym, subst, ◌∙◌, refl, arith, append_assoc}
use Rattle.std.proofs.Common.{append-nil}
use Rattle.std.specs.List.{flat_map}
use Rattle.std.proofs.lemmas.Grind.{flat_map-append}
use Rattle.std.proofs.lemmas.List.{length-append, length-map, map-append}
use Rattle.pulse_ids.specs.Ids.{NodeLit, numbered}
use Rattle.pulse_ids.specs.Lists.{IsIn, upto}
use Rattle.pulse_ids.specs.declared.literals.Sign.{Sign}
use Rattle.pulse_ids.proofs.CallerLemmas.{IsIn-map, IsIn-from_map, IsIn-append}
use Rattle.cell_netlist.specs.declared.kinds.Ask.{Ask}
use Rattle.cell_netlist.specs.declared.kinds.Ask.TheVariants as asks
use Rattle.cell_netlist.specs.declared.lines.Rail.{Rail}
use Rattle.cell_netlist.specs.declared.lines.StateLine.{StateLine}
use Rattle.cell_netlist.specs.Asked.{rail_of, signs_of, asked_rails}
use Rattle.cell_netlist.specs.Netlists.{number_of_wires}
use Rattle.cell_netlist.specs.NetRuns.{OutputsCarry}
use Rattle.cell_netlist.specs.RailEquations.{IsNetRun}
use Rattle.cell_netlist.specs.Sound.{IsNamedBefore, IsSound}
use Rattle.aig_core.specs.Graphs.{count_of}
use Rattle.aig_core.specs.Laws.{NodesHaveTheirBits}
use Rattle.aig_core.proofs.CallerLemmas.{slice_get_bound}
use Rattle.graph_build.specs.Built.{PlainBuilt, IsWithinGraph, IsGraphOf}
use Rattle.source_machine.specs.Machines.{PlainMachine}
use Rattle.source_machine.specs.Runs.{IsRun, bit_of}
use Rattle.rail_mapper.specs.Drafts.{PlainDraft, readers_of, AreInside}
use Rattle.rail_mapper.specs.Labels.{literal_number}
use Rattle.rail_mapper.specs.LatchStages.{FrontsAt, fronts_of}
use Rattle.rail_mapper.specs.OutputStages.{PutsOutputs, CanPut, outputs_from, OutputsAt}
use Rattle.rail_mapper.specs.Plans.{output_uses}
use Rattle.rail_mapper.specs.Stages.{IsClosing, Outputs}
use Rattle.rail_mapper.proofs.OutputSteps.{output_draft, output_wires, outputs_closing, closed_sound, IsClosed, all_closed, closed_carries, closed_follow}
use Rattle.rail_mapper.specs.Mapped.{StatesFollow}
use Rattle.rail_mapper.proofs.StageSteps.{leaves_inside}

-- what an output rail leaves
out_counts : (rail port : ℕ) (sign : Sign) (before after : PlainDraft) → Outputs rail port sign before after → (other : ℕ) → readers_of after other ≡ readers_of before other
out_counts rail port sign before after out other = ap (λ (d : PlainDraft). readers_of d other) out.added ∙ ap (λ (d : PlainDraft). readers_of d other) out.taken.taken

out_pending : (rail port : ℕ) (sign : Sign) (before after : PlainDraft) → Outputs rail port sign before after → after.pending ≡ before.pending
out_pending rail port sign before after out = ap (λ (d : PlainDraft). d.pending) out.added ∙ ap (λ (d : PlainDraft). d.pending) out.taken.taken

out_rails : (rail port : ℕ) (sign : Sign) (before after : PlainDraft) → (out : Outputs rail port sign before after)
    → after.net.output_rails ≡ before.net.output_rails ++ record { port = port; sign = sign; wire = numbered out.wire } ∷ []
out_rails rail port sign before after out =
    ap (λ (d : PlainDraft). d.net.output_rails) out.added
    ∙ ap (λ (d : PlainDraft). d.net.output_rails ++ record { port = port; sign = sign; wire = numbered out.wire } ∷ []) out.taken.taken

-- a leaf of a rail is a wire of the netlist
pub put_inside : (literal : NodeLit) (signs : List Sign) (draft : PlainDraft) → CanPut literal signs draft → AreInside draft
put_inside literal signs draft h rail wire m = leaves_inside draft [] (map (λ (p : ℕ × ℕ). 0) draft.pending) (map (literal_number literal) signs ++ h.left) h.is_draft rail wire m

-- the next sign can be put after the first
pub put_next : (literal : NodeLit) (port : ℕ) (sign : Sign) (signs : List Sign) (before after : PlainDraft) → CanPut literal (sign ∷ signs) before
    → Outputs (literal_number literal sign) port sign before after → CanPut literal signs after
put_next literal port sign signs before after h out = record {
  left = h.left;
  is_draft = output_draft (literal_number literal sign) port sign (map (literal_number literal) signs ++ h.left) before after h.is_draft out;
  spread = λ rail. out_counts (literal_number literal sign) port sign before after out rail ∙ h.spread rail;
  wires = let w = h.wires in omega (arith, output_wires (literal_number literal sign) port sign (map (literal_number literal) signs ++ h.left) before after h.is_draft out);
  few =
      let f = h.few in
      omega (
        arith,
        ap (λ (l : List Rail). length l) (out_rails (literal_number literal sign) port sign before after out),
        length-append before.net.output_rails
            ((record { port = port; sign = sign; wire = numbered out.wire }) ∷ []),
      );
  node = h.node;
}

-- the output rails of one port are put
record HasPut (built : PlainBuilt) (port : ℕ) (signs : List Sign) (left : List ℕ) (before after : PlainDraft) : Type 0 where
  pub closing : IsClosing built left after
  pub pending : after.pending ≡ before.pending
  pub counts : (rail : ℕ) → readers_of after rail ≡ readers_of before rail
  pub wires : number_of_wires after.net ≡ number_of_wires before.net
  pub rails : map rail_of after.net.output_rails ≡ map rail_of before.net.output_rails ++ map (λ (sign : Sign). (let its : ℕ × Sign = (port, sign) in its)) signs

all_put : (built : PlainBuilt) (port : ℕ) (literal : NodeLit) (signs : List Sign) (left : List ℕ) (before after : PlainDraft) → slice_get built.outputs port ≡ Some literal
    → literal.id.number < count_of built.graph
    → IsClosing built (map (literal_number literal) signs ++ left) before → PutsOutputs literal port signs before after → HasPut built port signs left before after
all_put built port literal [] left before after stands within h e = record {
  closing = subst (IsClosing built left) (sym e) h;
  pending = ap (λ (d : PlainDraft). d.pending) e;
  counts = λ rail. ap (λ (d : PlainDraft). readers_of d rail) e;
  wires = ap (λ (d : PlainDraft). number_of_wires d.net) e;
  rails = ap (λ (d : PlainDraft). map rail_of d.net.output_rails) e ∙ sym (append-nil (map rail_of before.net.output_rails));
}
all_put built port literal (sign ∷ signs) left before after stands within h (middle, out, more) =
    let rest : HasPut built port signs left middle after = all_put built port literal signs left middle after stands within
    (outputs_closing built port literal sign (map (literal_number literal) signs ++ left) before middle h stands within out) more in
    record {
      closing = rest.closing;
      pending = rest.pending ∙ out_pending (literal_number literal sign) port sign before middle out;
      counts = λ rail. rest.counts rail ∙ out_counts (literal_number literal sign) port sign before middle out rail;
      wires = rest.wires ∙ output_wires (literal_number literal sign) port sign (map (literal_number literal) signs ++ left) before middle h.is_draft out;
      rails = rest.rails ∙ ap (λ (l : List (ℕ × Sign)). l ++ map (λ (s : Sign). (let its : ℕ × Sign = (port, s) in its)) signs)
          (ap (map rail_of) (out_rails (literal_number literal sign) port sign before middle out) ∙ map-append rail_of before.net.output_rails _)
          ∙ append_assoc (map rail_of before.net.output_rails) ((let its : ℕ × Sign = (port, sign) in its) ∷ []) _;
    }

-- the literals from a port on
drop_one : {X : Type 0} (xs : List X) (place : ℕ) (x : X) → slice_get xs place ≡ Some x → drop place xs ≡ x ∷ drop (place + 1) xs
drop_one [] place x e = absurd cc
drop_one (y ∷ xs) zero x e = let same : y ≡ x = cc in ap (λ z. z ∷ xs) same
drop_one (y ∷ xs) (suc place) x e = let same : suc place + 1 ≡ suc (place + 1) = omega arith in rw same (drop_one xs place x e)

drop_all : {X : Type 0} (xs : List X) → drop (length xs) xs ≡ []
drop_all [] = refl
drop_all (x ∷ xs) = drop_all xs

next_outputs : (built : PlainBuilt) (ask : Ask) (port : ℕ) (literal : NodeLit) → slice_get built.outputs port ≡ Some literal
    → outputs_from built ask port ≡ map (literal_number literal) (signs_of ask) ++ outputs_from built ask (port + 1)
next_outputs built ask port literal e = ap (flat_map (λ (its : NodeLit). map (literal_number its) (signs_of ask))) (drop_one built.outputs port literal e)

asked_next : (ask : Ask) (port : ℕ) → asked_rails ask (port + 1) ≡ asked_rails ask port ++ map (λ (sign : Sign). (let its : ℕ × Sign = (port, sign) in its)) (signs_of ask)
asked_next ask port =
    (let one : port + 1 ≡ suc port = omega arith in ap (asked_rails ask) one)
    ∙ flat_map-append _ (upto port) (port ∷ []) ∙ ap (λ (l : List (ℕ × Sign)). asked_rails ask port ++ l) (append-nil _)

few_signs : (ask : Ask) → length (signs_of ask) ≤ 2
few_signs asks.Pos = omega arith
few_signs asks.Neg = omega arith
few_signs asks.Both = omega arith

asked_few : (ask : Ask) (count : ℕ) → length (asked_rails ask count) ≤ 2 * count
asked_few ask zero = omega arith
asked_few ask (suc count) =
    let r = asked_few ask count in
    let e = ap (λ (l : List (ℕ × Sign)). length l) (asked_next ask count) in
    let one : asked_rails ask (count + 1) ≡ asked_rails ask (suc count) = (let z : count + 1 ≡ suc count = omega arith in ap (asked_rails ask) z) in
    omega (
      arith,
      r,
      e,
      ap (λ (l : List (ℕ × Sign)). length l) one,
      length-append (asked_rails ask count) (map (λ (sign : Sign). (let its : ℕ × Sign = (count, sign) in its)) (signs_of ask)),
      length-map (signs_of ask) (λ (sign : Sign). (let its : ℕ × Sign = (count, sign) in its)),
      few_signs ask,
    )

-- All fronts stand, and no output rail.
pub outputs_begin : (built : PlainBuilt) (ask : Ask) (draft : PlainDraft) → FrontsAt built ask draft → draft.pending ≡ [] → draft.net.output_rails ≡ [] → OutputsAt built ask 0 draft
outputs_begin built ask draft h none bare = record {
  closing = subst (λ (l : List (ℕ × ℕ)). IsClosing built (fronts_of built l ++ output_uses built ask) draft) none h.closing;
  no_pending = none;
  all_spread = h.all_spread;
  rails = ap (map rail_of) bare;
  wires = let w = h.wires in omega (arith, w);
}

module _ (built : PlainBuilt) (ask : Ask) (port : ℕ) (literal : NodeLit) (stands : slice_get built.outputs port ≡ Some literal) (inside : IsWithinGraph built) where
  within : literal.id.number < count_of built.graph
  within = inside.outputs_within port literal stands

  -- The output rails of the next port can be put.
  pub outputs_ready : (draft : PlainDraft) → OutputsAt built ask port draft → CanPut literal (signs_of ask) draft
  outputs_ready draft h = record {
    left = outputs_from built ask (port + 1);
    is_draft = (subst (λ (l : List ℕ). IsClosing built l draft) (next_outputs built ask port literal stands) h.closing).is_draft;
    spread = h.all_spread;
    wires = h.wires;
    few = omega (
      arith,
      sym (length-map draft.net.output_rails rail_of),
      ap (λ (l : List (ℕ × Sign)). length l)
          h.rails,
      asked_few ask port,
      few_signs ask,
      slice_get_bound built.outputs port literal stands,
      inside.outputs_fit,
    );
    node = omega (arith, within, inside.kept.inputs_fit, inside.kept.latches_fit, inside.kept.pairs_fit);
  }

  -- One port further.
  pub outputs_one : (before after : PlainDraft) → OutputsAt built ask port before → PutsOutputs literal port (signs_of ask) before after → OutputsAt built ask (port + 1) after
  outputs_one before after h puts = record {
    closing = put.closing;
    no_pending = put.pending ∙ h.no_pending;
    all_spread = λ rail. put.counts rail ∙ h.all_spread rail;
    rails = put.rails ∙ ap (λ (l : List (ℕ × Sign)). l ++ map (λ (sign : Sign). (let its : ℕ × Sign = (port, sign) in its)) (signs_of ask)) h.rails ∙ sym (asked_next ask port);
    wires = let w = h.wires in omega (arith, put.wires);
  }
    where
      put : HasPut built port (signs_of ask) (outputs_from built ask (port + 1)) before after
      put = all_put built port literal (signs_of ask) (outputs_from built ask (port + 1)) before after stands within
          (subst (λ (l : List ℕ). IsClosing built l before) (next_outputs built ask port literal stands) h.closing) puts

-- the ports of asked rails
asked_within : (ask : Ask) (count : ℕ) (rail : ℕ × Sign) → IsIn rail (asked_rails ask count) → rail.0 < count
asked_within ask zero rail m = absurd m
asked_within ask (suc count) rail m =
    elim (IsIn-append rail (asked_rails ask count) _ (subst (λ (l : List (ℕ × Sign)). IsIn rail l) (one ∙ asked_next ask count) m)) [
      | inl k ↦ let r = asked_within ask count rail k in omega arith
      | inr k ↦ let f = IsIn-from_map (λ (sign : Sign). (let its : ℕ × Sign = (count, sign) in its)) rail (signs_of ask) k in let e : count ≡ rail.0 = ap (λ (p : ℕ × Sign). p.0) f.2 in omega arith
    ]
  where
    one : asked_rails ask (suc count) ≡ asked_rails ask (count + 1)
    one = let z : suc count ≡ count + 1 = omega arith in ap (asked_rails ask) z

-- With all output rails the netlist is sound, and they carry the machine's bits.
module _ (built : PlainBuilt) (ask : Ask) (draft : PlainDraft) (h : OutputsAt built ask (length built.outputs) draft) where
  closed : IsClosing built [] draft
  closed = subst (λ (l : List ℕ). IsClosing built l draft) (ap (flat_map (λ (literal : NodeLit). map (literal_number literal) (signs_of ask))) (drop_all built.outputs)) h.closing

  pub ends_sound : draft.net.outputs ≡ length built.outputs → ((rail : Rail) → IsIn rail draft.net.input_rails → rail.port < draft.net.inputs)
      → ((first later : ℕ) (rail other : Rail) → first < later → slice_get draft.net.input_rails first ≡ Some rail → slice_get draft.net.input_rails later ≡ Some other
      → rail.port ≡ other.port → rail.sign ≡ other.sign → ⊥)
      → ((k : ℕ) (line : StateLine) → slice_get draft.net.states k ≡ Some line → IsNamedBefore draft.net k line → ⊥) → IsSound draft.net
  ends_sound ports ins twice states_apart = closed_sound built draft closed h.no_pending h.all_spread ins
      (λ rail m. rw ports (asked_within ask (length built.outputs) (rail_of rail)
      (subst (λ (l : List (ℕ × Sign)). IsIn (rail_of rail) l) h.rails (IsIn-map rail_of rail draft.net.output_rails m)))) twice states_apart

  pub ends_closed : IsClosed built draft
  ends_closed = all_closed built draft closed h.no_pending h.all_spread

  pub ends_carries : (machine : PlainMachine) → IsGraphOf machine built → NodesHaveTheirBits → (vectors run valuations : List (List Bool)) → IsNetRun draft.net vectors run
      → IsRun machine vectors valuations
      → OutputsCarry draft.net vectors run (bit_of machine valuations)
  ends_carries = closed_carries built draft closed h.no_pending h.all_spread

  pub ends_follow : (machine : PlainMachine) → IsGraphOf machine built → NodesHaveTheirBits → (vectors run valuations : List (List Bool)) → IsNetRun draft.net vectors run
      → IsRun machine vectors valuations → StatesFollow machine draft.net vectors valuations run
  ends_follow = closed_follow built draft closed h.no_pending h.all_spread
