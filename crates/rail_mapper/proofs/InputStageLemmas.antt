-- Input rails, the constant and the trees of inputs, one rail after the other.
use Rattle.std.proofs.Common.{◌≡◌, ◌≤◌, ◌<◌, ◌+◌, ◌*◌, ◌-◌, ◌/◌, ◌^◌, ℕ, suc, Bool, true, false, Some, List, [], ◌∷◌, ◌++◌, map, length, slice_get, nat_lt, ap, sym, subst, ◌∙◌, refl, arith}
use Rattle.std.proofs.Common.{append_assoc, append-nil, if◌then◌else◌}
use Rattle.std.specs.List.{flat_map, range_with_len}
use Rattle.std.proofs.lemmas.Bool.{lt-ltb}
use Rattle.std.proofs.lemmas.Grind.{flat_map-append}
use Rattle.std.proofs.lemmas.List.{length-append, map-append}
use Rattle.pulse_ids.specs.Lists.{occurrences}
use Rattle.pulse_ids.specs.declared.literals.Sign.{Sign}
use Rattle.pulse_ids.specs.declared.literals.Sign.TheVariants.{Pos, Neg}
use Rattle.cell_netlist.specs.declared.kinds.Ask.{Ask}
use Rattle.cell_netlist.specs.declared.kinds.Version.{Version}
use Rattle.cell_netlist.specs.declared.lines.Rail.{Rail}
use Rattle.cell_netlist.specs.Asked.{rail_of}
use Rattle.cell_netlist.specs.Netlists.{PlainNetlist, number_of_wires}
use Rattle.cell_netlist.proofs.CallerLemmas.{number_of_wires-input}
use Rattle.aig_core.specs.declared.nodes.Node.TheVariants.{False, Input}
use Rattle.aig_core.specs.Graphs.{nodes_of}
use Rattle.graph_build.specs.Built.{PlainBuilt}
use Rattle.rail_demand.specs.Demands.{PlainDemand}
use Rattle.droc_pairs.specs.Pairs.{wires_for}
use Rattle.splitter_trees.proofs.CallerLemmasOnRanges.{range-append}
use Rattle.pulse_ids.proofs.CallerLemmasOnCounts.{occurrences-append, occurrences-head}
use Rattle.rail_mapper.specs.Drafts.{PlainDraft, open_in, readers_of, HasRoom}
use Rattle.rail_mapper.specs.InputStages.{next_rail, with_input, AddsInput, unread, added, is_read, held_if, held_from, input_if, inputs_read, InputsAt, AddsConstant, TreesAt}
use Rattle.rail_mapper.specs.InputStages.{unread as nothing, added as constant}
use Rattle.rail_mapper.specs.Labels.{rail_number, sign_in}
use Rattle.rail_mapper.specs.Plans.{rail_uses, uses}
use Rattle.rail_mapper.specs.Stages.{IsHeld, IsStage, GrowsIf, grown, bare}
use Rattle.rail_mapper.proofs.ConstStage.{held_constant}
use Rattle.rail_mapper.proofs.RailUses.{other_rail}
use Rattle.rail_mapper.proofs.HeldSteps.{held_skipped, held_grown_if, stage_held}
use Rattle.rail_mapper.proofs.InputSteps.{held_added}
use Rattle.rail_mapper.proofs.PortSteps.{constant_keeps, grow_if_keeps}
use Rattle.rail_mapper.proofs.Rooms.{less_room, constant_room}
use Rattle.rail_mapper.proofs.StageSteps.{node_of, sign_of}

-- spreading leaves the pending pairs
pub grows_pending : (rail root : ℕ) (before after : PlainDraft) → GrowsIf rail root before after → after.pending ≡ before.pending
grows_pending rail root before after (grown some grow) = grow.same_pending
grows_pending rail root before after (bare none e) = ap (λ (d : PlainDraft). d.pending) e

-- a rail that is read
pub read_so : (reads : List ℕ) (rail : ℕ) → 1 ≤ occurrences rail reads → is_read reads rail ≡ true
read_so reads rail some = lt-ltb 0 (occurrences rail reads) (omega arith)

pub unread_so : (reads : List ℕ) (rail : ℕ) → occurrences rail reads ≡ 0 → is_read reads rail ≡ false
unread_so reads rail none = ap (nat_lt 0) none

held_if-length : (b : Bool) (wire rail : ℕ) → length (held_if b wire rail) ≡ wires_for b
held_if-length true wire rail = refl
held_if-length false wire rail = refl

held_from-append : (reads : List ℕ) (wire : ℕ) (xs ys : List ℕ) → held_from reads wire (xs ++ ys) ≡ held_from reads wire xs ++ held_from reads (wire + length (held_from reads wire xs)) ys
held_from-append reads wire [] ys = (let z : wire ≡ wire + 0 = omega arith in ap (λ (w : ℕ). held_from reads w ys) z)
held_from-append reads wire (x ∷ xs) ys =
    ap (λ (l : List (ℕ × ℕ)). held_if (is_read reads x) wire x ++ l) (held_from-append reads (wire + wires_for (is_read reads x)) xs ys)
    ∙ sym (append_assoc (held_if (is_read reads x) wire x) (held_from reads (wire + wires_for (is_read reads x)) xs) _)
    ∙ (let e : wire + wires_for (is_read reads x) + length (held_from reads (wire + wires_for (is_read reads x)) xs)
    ≡ wire + length (held_if (is_read reads x) wire x ++ held_from reads (wire + wires_for (is_read reads x)) xs) =
    omega (arith, length-append (held_if (is_read reads x) wire x) (held_from reads (wire + wires_for (is_read reads x)) xs), held_if-length (is_read reads x) wire x) in
    ap (λ (w : ℕ). (held_if (is_read reads x) wire x ++ held_from reads (wire + wires_for (is_read reads x)) xs) ++ held_from reads w ys) e)

-- one rail more
held_next : (reads : List ℕ) (count : ℕ) → held_from reads 0 (range_with_len 2 (count + 1)) ≡ held_from reads 0 (range_with_len 2 count)
    ++ held_if (is_read reads (2 + count)) (length (held_from reads 0 (range_with_len 2 count))) (2 + count)
held_next reads count =
    ap (held_from reads 0) (range-append 2 count 1) ∙ held_from-append reads 0 (range_with_len 2 count) ((2 + count) ∷ [])
    ∙ ap (λ (l : List (ℕ × ℕ)). held_from reads 0 (range_with_len 2 count) ++ l) (append-nil _)
    ∙ (let z : 0 + length (held_from reads 0 (range_with_len 2 count)) ≡ length (held_from reads 0 (range_with_len 2 count)) = omega arith in
    ap (λ (w : ℕ). held_from reads 0 (range_with_len 2 count) ++ held_if (is_read reads (2 + count)) w (2 + count)) z)

pub inputs_next : (reads : List ℕ) (count : ℕ) → inputs_read reads (count + 1) ≡ inputs_read reads count ++ input_if reads (2 + count)
inputs_next reads count = ap (flat_map (input_if reads)) (range-append 2 count 1) ∙ flat_map-append (input_if reads) (range_with_len 2 count) ((2 + count) ∷ [])
    ∙ ap (λ (l : List (ℕ × Sign)). inputs_read reads count ++ l) (append-nil (input_if reads (2 + count)))

module _ (built : PlainBuilt) (demand : PlainDemand) (ask : Ask) where
  abbrev all_uses : List ℕ
  all_uses = uses built demand ask

  abbrev hand : ℕ → List (ℕ × ℕ)
  hand count = held_from all_uses 0 (range_with_len 2 count)

  pub input_one : {version : Version} (count port : ℕ) (sign : Sign) (before after : PlainDraft) → rail_number (1 + port) sign ≡ 2 + count
      → slice_get (nodes_of built.graph) (1 + port) ≡ Some (Input port)
      → count < 2 ^ 16
      → InputsAt built demand ask version count before → AddsInput port sign before after → InputsAt built demand ask version (count + 1) after
  input_one {version = version} count port sign before after number stands few h (unread none e) = subst (InputsAt built demand ask version (count + 1)) (sym e) (record {
    held = subst (λ (l : List (ℕ × ℕ)). IsHeld built demand ask 0 l before) (sym same_hand) h.held;
    wires = h.wires ∙ sym (ap (λ (l : List (ℕ × ℕ)). length l) same_hand);
    each = h.each;
    rails = h.rails ∙ sym (inputs_next all_uses count ∙ ap
        (λ (b : Bool). inputs_read all_uses count ++ (if b then (let its : ℕ × Sign = ((2 + count) / 2 - 1, sign_in (2 + count)) in its) ∷ [] else [])) not_read
        ∙ append-nil (inputs_read all_uses count));
    frame = h.frame;
    no_pending = h.no_pending;
    room = less_room before (2 ^ 17 - (count + 1)) (2 ^ 17 - count) (omega arith) h.room;
  })
    where
      not_read : is_read all_uses (2 + count) ≡ false
      not_read = unread_so all_uses (2 + count) (sym (h.held.planned (2 + count) (omega arith)) ∙ ap (readers_of before) (sym number) ∙ none)

      same_hand : hand (count + 1) ≡ hand count
      same_hand = held_next all_uses count ∙ ap (λ (b : Bool). hand count ++ held_if b (length (hand count)) (2 + count)) not_read ∙ append-nil (hand count)
  input_one {version = version} count port sign before after number stands few h (added some e) = subst (InputsAt built demand ask version (count + 1)) (sym e) (record {
    held = subst (λ (l : List (ℕ × ℕ)). IsHeld built demand ask 0 l (with_input before (next_rail before port sign))) (sym longer)
        (held_added built demand ask 0 (hand count) before port (1 + port) sign h.held (ap (λ (n : PlainNetlist). n.cells) h.frame) stands);
    wires = number_after ∙ sym (ap (λ (l : List (ℕ × ℕ)). length l) longer ∙ length-append (hand count) _ ∙ ap (λ (k : ℕ). k + 1) (sym h.wires));
    each = length-append before.net.input_rails (next_rail before port sign ∷ []) ∙ ap (λ (k : ℕ). k + 1) h.each ∙ sym number_after;
    rails = map-append rail_of before.net.input_rails (next_rail before port sign ∷ []) ∙ ap (λ (l : List (ℕ × Sign)). l ++ (let its : ℕ × Sign = (port, sign) in its) ∷ []) h.rails
        ∙ sym (inputs_next all_uses count ∙ ap (λ (b : Bool). inputs_read all_uses count ++ (if b then (let its : ℕ × Sign = ((2 + count) / 2 - 1, sign_in (2 + count)) in its) ∷ [] else [])) is_so
        ∙ ap (λ (r : ℕ). inputs_read all_uses count ++ (let its : ℕ × Sign = (r / 2 - 1, sign_in r) in its) ∷ []) (sym number)
        ∙ ap (λ (s : Sign). inputs_read all_uses count ++ (let its : ℕ × Sign = (rail_number (1 + port) sign / 2 - 1, s) in its) ∷ []) (sign_of (1 + port) sign)
        ∙ ap (λ (k : ℕ). inputs_read all_uses count ++ (let its : ℕ × Sign = (k - 1, sign) in its) ∷ []) (node_of (1 + port) sign)
        ∙ (let z : 1 + port - 1 ≡ port = omega arith in ap (λ (k : ℕ). inputs_read all_uses count ++ (let its : ℕ × Sign = (k, sign) in its) ∷ []) z));
    frame = ap (λ (n : PlainNetlist). record n { input_rails = before.net.input_rails ++ next_rail before port sign ∷ [] }) h.frame;
    no_pending = h.no_pending;
    room = record { wires = let w = h.room.wires in omega (arith, number_after); cells = let k = h.room.cells in omega (arith, number_after) };
  })
    where
      is_so : is_read all_uses (2 + count) ≡ true
      is_so = read_so all_uses (2 + count) (omega (arith, h.held.planned (2 + count) (omega arith), ap (readers_of before) number, some))

      longer : hand (count + 1) ≡ hand count ++ (let held : ℕ × ℕ = (number_of_wires before.net, rail_number (1 + port) sign) in held) ∷ []
      longer = held_next all_uses count ∙ ap (λ (b : Bool). hand count ++ held_if b (length (hand count)) (2 + count)) is_so
          ∙ ap (λ (k : ℕ). hand count ++ (let held : ℕ × ℕ = (k, 2 + count) in held) ∷ []) (sym h.wires)
          ∙ ap (λ (k : ℕ). hand count ++ (let held : ℕ × ℕ = (number_of_wires before.net, k) in held) ∷ []) (sym number)

      number_after : number_of_wires (with_input before (next_rail before port sign)).net ≡ number_of_wires before.net + 1
      number_after = number_of_wires-input before.net (next_rail before port sign) ∙ omega arith

  -- the rails of the constant
  no_const_reads : (sign : Sign) → rail_uses built demand (rail_number 0 sign) ≡ []
  no_const_reads sign = other_rail built demand 0 sign False refl refl

  no_input_reads : (port : ℕ) (sign : Sign) → slice_get (nodes_of built.graph) (1 + port) ≡ Some (Input port) → rail_uses built demand (rail_number (1 + port) sign) ≡ []
  no_input_reads port sign stands = other_rail built demand (1 + port) sign (Input port) stands refl

  held_length : (b : Bool) (wire rail : ℕ) → length (held_if b wire rail) ≡ wires_for b
  held_length true wire rail = refl
  held_length false wire rail = refl

  -- a tree of an input's rail, where it is to be read
  pub tree_one : (count port wire next : ℕ) (sign : Sign) (before after : PlainDraft) → rail_number (1 + port) sign ≡ 2 + count
      → slice_get (nodes_of built.graph) (1 + port) ≡ Some (Input port) → count < 2 * built.graph.inputs
      → next ≡ wire + wires_for (nat_lt 0 (readers_of before (rail_number (1 + port) sign))) → TreesAt built demand ask count wire before
      → GrowsIf (rail_number (1 + port) sign) wire before after → HasRoom (2 ^ 16) after
      → TreesAt built demand ask (count + 1) next after
  tree_one count port wire next sign before after number stands low e h grows room = record {
    held = subst (λ (r : ℕ). IsHeld built demand ask r (held_from all_uses next (range_with_len r (2 * built.graph.inputs - (count + 1)))) after)
        (let z : 2 + count + 1 ≡ 2 + (count + 1) = omega arith in z)
        (held_grown_if built demand ask (2 + count) (omega arith) (subst (λ (r : ℕ). rail_uses built demand r ≡ []) number (no_input_reads port sign stands)) before after wire
        (held_from all_uses wire (range_with_len (2 + count) (2 * built.graph.inputs - count)))
        (held_from all_uses next (range_with_len (2 + count + 1) (2 * built.graph.inputs - (count + 1)))) h.held with_root without (subst (λ (r : ℕ). GrowsIf r wire before after) number grows));
    all_inputs = let whole = ap (λ (l : List (ℕ × ℕ)). length l) opened in let one = held_length (is_read all_uses (2 + count)) wire (2 + count) in
        let both = length-append (held_if (is_read all_uses (2 + count)) wire (2 + count)) (held_from all_uses next (range_with_len (2 + count + 1) (2 * built.graph.inputs - (count + 1)))) in
        let kept = ap (λ (l : List Rail). length l) (grow_if_keeps (rail_number (1 + port) sign) wire before after grows).others.input_rails in
        let was = h.all_inputs in
        let turned : length (held_from all_uses next (range_with_len (2 + (count + 1)) (2 * built.graph.inputs - (count + 1))))
        ≡ length (held_from all_uses next (range_with_len (2 + count + 1) (2 * built.graph.inputs - (count + 1)))) =
        (let z : 2 + (count + 1) ≡ 2 + count + 1 = omega arith in ap (λ (r : ℕ). length (held_from all_uses next (range_with_len r (2 * built.graph.inputs - (count + 1))))) z) in
        omega (arith, next_is, whole, one, both, kept, was, turned);
    no_pending = grows_pending (rail_number (1 + port) sign) wire before after grows ∙ h.no_pending;
    room = room;
  }
    where
      planned : readers_of before (2 + count) ≡ occurrences (2 + count) all_uses
      planned = h.held.planned (2 + count) (omega arith)

      next_is : next ≡ wire + wires_for (is_read all_uses (2 + count))
      next_is = e ∙ ap (λ (r : ℕ). wire + wires_for (nat_lt 0 (readers_of before r))) number ∙ ap (λ (k : ℕ). wire + wires_for (nat_lt 0 k)) planned

      opened : held_from all_uses wire (range_with_len (2 + count) (2 * built.graph.inputs - count)) ≡ held_if (is_read all_uses (2 + count)) wire (2 + count)
          ++ held_from all_uses next (range_with_len (2 + count + 1) (2 * built.graph.inputs - (count + 1)))
      opened = (let z : 2 * built.graph.inputs - count ≡ suc (2 * built.graph.inputs - (count + 1)) = omega arith in ap (λ (k : ℕ). held_from all_uses wire (range_with_len (2 + count) k)) z)
          ∙ ap (λ (w : ℕ). held_if (is_read all_uses (2 + count)) wire (2 + count) ++ held_from all_uses w (range_with_len (2 + count + 1) (2 * built.graph.inputs - (count + 1)))) (sym next_is)

      with_root : 1 ≤ readers_of before (2 + count) → held_from all_uses wire (range_with_len (2 + count) (2 * built.graph.inputs - count))
          ≡ (let held : ℕ × ℕ = (wire, 2 + count) in held) ∷ held_from all_uses next (range_with_len (2 + count + 1) (2 * built.graph.inputs - (count + 1)))
      with_root some = opened ∙ ap (λ (b : Bool). held_if b wire (2 + count) ++ held_from all_uses next (range_with_len (2 + count + 1) (2 * built.graph.inputs - (count + 1))))
          (read_so all_uses (2 + count) (omega (arith, planned)))

      without : readers_of before (2 + count) ≡ 0 → held_from all_uses wire (range_with_len (2 + count) (2 * built.graph.inputs - count))
          ≡ held_from all_uses next (range_with_len (2 + count + 1) (2 * built.graph.inputs - (count + 1)))
      without none = opened ∙ ap (λ (b : Bool). held_if b wire (2 + count) ++ held_from all_uses next (range_with_len (2 + count + 1) (2 * built.graph.inputs - (count + 1))))
          (unread_so all_uses (2 + count) (sym planned ∙ none))

  pub trees_done : (count wire : ℕ) (draft : PlainDraft) → count ≡ 2 * built.graph.inputs → TreesAt built demand ask count wire draft → IsStage built demand ask (2 * (1 + built.graph.inputs)) draft
  trees_done count wire draft e h =
      stage_held built demand ask (2 * (1 + built.graph.inputs)) draft
      (subst (λ (r : ℕ). IsHeld built demand ask r [] draft) (let z : 2 + count ≡ 2 * (1 + built.graph.inputs) = omega arith in z)
      (subst (λ (k : ℕ). IsHeld built demand ask (2 + count) (held_from all_uses wire (range_with_len (2 + count) k)) draft) (let z : 2 * built.graph.inputs - count ≡ 0 = omega arith in z) h.held))
      h.room

  -- the root of the next tree is one of the netlist's wires
  pub tree_root : (count port wire : ℕ) (sign : Sign) (draft : PlainDraft) → rail_number (1 + port) sign ≡ 2 + count → count < 2 * built.graph.inputs → TreesAt built demand ask count wire draft
      → 1 ≤ readers_of draft (rail_number (1 + port) sign) → wire < number_of_wires draft.net
  tree_root count port wire sign draft number low h some =
      let planned = h.held.planned (2 + count) (omega arith) in
      let reads : 1 ≤ occurrences (2 + count) all_uses = omega (arith, planned, ap (readers_of draft) number) in
      let opened : held_from all_uses wire (range_with_len (2 + count) (2 * built.graph.inputs - count))
      ≡ (let held : ℕ × ℕ = (wire, 2 + count) in held) ∷ held_from all_uses (wire + wires_for (is_read all_uses (2 + count)))
      (range_with_len (2 + count + 1) (2 * built.graph.inputs - (count + 1))) =
      (let z : 2 * built.graph.inputs - count ≡ suc (2 * built.graph.inputs - (count + 1)) = omega arith in ap (λ (k : ℕ). held_from all_uses wire (range_with_len (2 + count) k)) z)
      ∙ ap (λ (b : Bool). held_if b wire (2 + count) ++ held_from all_uses (wire + wires_for (is_read all_uses (2 + count)))
      (range_with_len (2 + count + 1) (2 * built.graph.inputs - (count + 1)))) (read_so all_uses (2 + count) reads) in
      let all = ap (λ (l : List (ℕ × ℕ)). occurrences wire (map (λ (p : ℕ × ℕ). p.0) l)) opened in
      let first = occurrences-head wire wire (map (λ (p : ℕ × ℕ). p.0)
      (held_from all_uses (wire + wires_for (is_read all_uses (2 + count))) (range_with_len (2 + count + 1) (2 * built.graph.inputs - (count + 1))))) refl in
      let both = occurrences-append wire (open_in draft) (map (λ (p : ℕ × ℕ). p.0) (held_from all_uses wire (range_with_len (2 + count) (2 * built.graph.inputs - count)))) in
      h.held.is_draft.ledger.inside wire (omega arith)

  -- The constant, where it is to be read, and then the trees of inputs.
  pub const_one : {version : Version} (before after : PlainDraft) → built.graph.inputs ≤ 2 ^ 14 → InputsAt built demand ask version (2 * built.graph.inputs) before → AddsConstant before after
      → TreesAt built demand ask 0 0 after
  const_one before after few h adds = record {
    held = subst (λ (k : ℕ). IsHeld built demand ask 2 (held_from all_uses 0 (range_with_len 2 k)) after) (let z : 2 * built.graph.inputs ≡ 2 * built.graph.inputs - 0 = omega arith in z) (by adds);
    all_inputs = let z : 2 * built.graph.inputs - 0 ≡ 2 * built.graph.inputs = omega arith in
        let same = ap (λ (k : ℕ). length (held_from all_uses 0 (range_with_len 2 k))) z in
        let kept = ap (λ (l : List Rail). length l) (constant_keeps before after adds).others.input_rails in omega (arith, h.wires, h.each, same, kept);
    no_pending = same_pending adds ∙ h.no_pending;
    room = roomy adds;
  }
    where
      by : AddsConstant before after → IsHeld built demand ask 2 (hand (2 * built.graph.inputs)) after
      by (nothing no_zeros no_ones e) = subst (IsHeld built demand ask 2 (hand (2 * built.graph.inputs))) (sym e)
          (held_skipped built demand ask 1 (omega arith) (no_const_reads Neg) before (hand (2 * built.graph.inputs))
          (held_skipped built demand ask 0 (omega arith) (no_const_reads Pos) before (hand (2 * built.graph.inputs)) h.held no_zeros) no_ones)
      by (constant c) = held_constant built demand ask (hand (2 * built.graph.inputs)) before after c.one c.none h.held c.constant c.stocked c.counted c.same_pending
          (no_const_reads Pos) (no_const_reads Neg) (omega arith)

      same_pending : AddsConstant before after → after.pending ≡ before.pending
      same_pending (nothing no_zeros no_ones e) = ap (λ (d : PlainDraft). d.pending) e
      same_pending (constant c) = c.same_pending

      roomy : AddsConstant before after → HasRoom (2 ^ 16) after
      roomy (nothing no_zeros no_ones e) = subst (HasRoom (2 ^ 16)) (sym e) (less_room before (2 ^ 16) (2 ^ 17 - 2 * built.graph.inputs) (omega arith) h.room)
      roomy (constant c) = constant_room before after (2 ^ 16) c (omega (arith, h.held.counts_size)) (less_room before (2 ^ 16 + 1) (2 ^ 17 - 2 * built.graph.inputs) (omega arith) h.room)

  -- what adding the constant wants
  pub const_ready : {version : Version} (draft : PlainDraft) → built.graph.inputs ≤ 2 ^ 14 → InputsAt built demand ask version (2 * built.graph.inputs) draft
      → (2 ≤ length draft.stock) × (2 ≤ length draft.counts) × HasRoom 8 draft
  const_ready draft few h = (omega (arith, h.held.stock_size), omega (arith, h.held.counts_size), less_room draft 8 (2 ^ 17 - 2 * built.graph.inputs) (omega arith) h.room)
