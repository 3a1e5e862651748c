use Rattle.std.proofs.Common.{◌≡◌, ◌≤◌, ◌<◌, ◌+◌, ◌-◌, ◌∙◌, ap, sym, subst, arith, refl, Result, Ok, Err, OnOk, slice_get, Some, ℕ}
use Rattle.pulse_ids.specs.Ids.{NodeLit}
use Rattle.pulse_ids.specs.declared.literals.Sign.{Sign}
use Rattle.pulse_ids.specs.declared.literals.Sign.TheVariants.{Pos, Neg}
use Rattle.cell_netlist.specs.declared.kinds.Gate.{Gate}
use Rattle.aig_core.specs.declared.nodes.Node.TheVariants.{And}
use Rattle.aig_core.specs.Graphs.{PlainGraph, nodes_of, count_of}
use Rattle.graph_build.specs.Built.{PlainBuilt}
use Rattle.rail_mapper.specs.Drafts.{PlainDraft, readers_of, Gated, HasRoom, spare}
use Rattle.rail_mapper.specs.Labels.{rail_number, literal_number}
use Rattle.rail_mapper.specs.Stages.{MapsRail, made}
use Rattle.rail_mapper.specs.Tracks.{sign_gate, gate_sign}
use Rattle.rail_mapper.proofs.Rooms.{less_room}
use Rattle.rail_mapper.proofs.gates.map_rail.Goals as goal

its_sign : (sign : Sign) → gate_sign (sign_gate sign) ≡ sign
its_sign Pos = refl
its_sign Neg = refl

made_from : (built : PlainBuilt) (before after : PlainDraft) (node : ℕ) (low high : NodeLit) (sign : Sign) (gate : Gate) (l h rail : ℕ) → node < count_of built.graph
    → slice_get (nodes_of built.graph) node ≡ Some (And low high)
    → low.id.number < node → high.id.number < node → gate ≡ sign_gate sign → l ≡ literal_number low sign → h ≡ literal_number high sign → rail ≡ rail_number node sign
    → 1 ≤ readers_of before rail → Gated gate l h rail before after → HasRoom spare after → MapsRail built (rail_number node sign) before after
made_from built before after node low high sign gate l h rail inside stands low_before high_before eg el eh er some gated room =
    made gate l h (subst (λ (r : ℕ). 1 ≤ readers_of before r) er some)
    (record {
      node = node;
      low_literal = low;
      high_literal = high;
      stands = stands;
      inside = inside;
      low_before = low_before;
      high_before = high_before;
      rail_is = ap (rail_number node) (sym same);
      low_is = el ∙ ap (literal_number low) (sym same);
      high_is = eh ∙ ap (literal_number high) (sym same);
    })
    (subst (λ (r : ℕ). Gated gate l h r before after) er gated) room
  where
    same : gate_sign gate ≡ sign
    same = ap gate_sign eg ∙ its_sign sign

both : {A E : Type 0} (r : Result A E) (P Q R : Type 0) → (P → Q → R) → OnOk r P → OnOk r Q → OnOk r R
both (Ok a) P Q R f p q = f p q
both (Err e) P Q R f p q = tt

pub returns-in-And : goal.returns-in-And
returns-in-And c =
    let node : slice_get (nodes_of c.args.built.now.graph) c.args.node.number ≡ Some (And c.in-And.low c.in-And.high) =
    subst (λ (g : PlainGraph). slice_get (nodes_of g) c.args.node.number ≡ Some c.node.result) c.graph.ensures.graph c.node.ensures ∙ ap Some c.in-And.is in
    let same : And c.requires.ready.low c.requires.ready.high ≡ And c.in-And.low c.in-And.high = cc (node, c.requires.ready.stands) in
    let low : c.requires.ready.low ≡ c.in-And.low = cc in
    let high : c.requires.ready.high ≡ c.in-And.high = cc in
    let some : 1 ≤ readers_of c.args.draft.now c.rail_of-rail.result = omega (arith, c.readers.ensures) in
    both c.add_gate.result _ _ _
    (λ (gated : Gated c.gate_of.result c.literal_rail.result c.literal_rail-in-And.result c.rail_of-rail.result c.args.draft.now c.add_gate.new.self)
    (room : (more : ℕ) → HasRoom (more + 1) c.args.draft.now → HasRoom (more + 2) c.add_gate.new.self).
    made_from c.args.built.now c.args.draft.now c.add_gate.new.self c.args.node.number c.in-And.low c.in-And.high c.args.sign c.gate_of.result c.literal_rail.result c.literal_rail-in-And.result
    c.rail_of-rail.result
    c.requires.inside node (subst (λ (l : NodeLit). l.id.number < c.args.node.number) low c.requires.ready.low_before)
    (subst (λ (l : NodeLit). l.id.number < c.args.node.number) high c.requires.ready.high_before)
    c.gate_of.ensures c.literal_rail.ensures c.literal_rail-in-And.ensures (c.rail_of-rail.ensures
    ∙ ap (λ (k : ℕ). rail_number k c.args.sign) c.number.ensures) some gated (less_room c.add_gate.new.self spare (spare - 1 + 2) (omega arith) (room (spare - 1) c.requires.ready.room)))
    c.add_gate.ensures.gated c.add_gate.ensures.room
