-- What each step adds to the lines of a draft.
use Rattle.std.proofs.Common.{◌≡◌, ◌≤◌, ◌+◌, inl, inr, ℕ, zero, suc, Bool, List, [], ◌∷◌, ◌++◌, length, replicate, nat_lt, ap, sym, subst, ◌∙◌, refl, arith, append_assoc, append-nil}
use Rattle.std.specs.List.{flat_map}
use Rattle.std.proofs.lemmas.Grind.{flat_map-append}
use Rattle.std.proofs.lemmas.List.{length-append}
use Rattle.pulse_ids.specs.Ids.{NodeLit, WireId, numbered}
use Rattle.pulse_ids.specs.Lists.{IsIn}
use Rattle.pulse_ids.proofs.CallerLemmas.{IsIn-left, IsIn-right}
use Rattle.pulse_ids.specs.declared.literals.Sign.{Sign}
use Rattle.cell_netlist.specs.declared.kinds.Gate.{Gate}
use Rattle.cell_netlist.specs.declared.kinds.Role.{Role}
use Rattle.cell_netlist.specs.declared.kinds.Role.TheVariants.{Front, Back, Const}
use Rattle.cell_netlist.specs.declared.lines.Cell.{Cell}
use Rattle.cell_netlist.specs.declared.lines.Cell.TheVariants.{La, Fa, Split, Droc}
use Rattle.cell_netlist.specs.Netlists.{PlainNetlist, number_of_wires, with_feed, cells_with_feed}
use Rattle.splitter_trees.specs.Spreading.{IsSplitter, with_cells}
use Rattle.droc_pairs.specs.Pairs.{begun_back, front_of}
use Rattle.droc_pairs.specs.Constants.{HasTreeIfRead, with_tree, without}
use Rattle.rail_mapper.specs.Cells.{gate_in, role_in}
use Rattle.rail_mapper.specs.Drafts.{PlainDraft, readers_of, Takes, Grows, Gated, gate_cell, with_cell}
use Rattle.rail_mapper.specs.FanOuts.{AreFannedOut}
use Rattle.rail_mapper.specs.FrontStages.{FinishesFirst}
use Rattle.rail_mapper.specs.InputStages.{HasConstant}
use Rattle.rail_mapper.specs.Lines.{AddsLines, KeepsCells}
use Rattle.rail_mapper.specs.OutputStages.{PutsOutputs}
use Rattle.rail_mapper.specs.Stages.{GrowsIf, grown, bare, begun_draft, BeginsLatch, unread, started}
use Rattle.rail_mapper.specs.StateLines.{backs_from}
use Rattle.rail_mapper.proofs.BackPlaces.{backs_stay, backs_fed}
use Rattle.rail_mapper.proofs.ConstantFanOuts.{constant_fanned_out}
use Rattle.rail_mapper.proofs.FanOuts.{IsBare}
use Rattle.rail_mapper.proofs.FanOutCells.{front_fanned_out}
use Rattle.rail_mapper.proofs.FanOutSteps.{grow_fanned_out, gate_line_fanned_out, gate_bare, first_bare, second_bare, back_fanned_out}
use Rattle.rail_mapper.proofs.InputStageLemmas.{grows_pending}
use Rattle.rail_mapper.proofs.PortSteps.{ports_same, ports_on, cells_keep, begun_keeps, take_keeps, inputs_same, inputs_on, output_keeps}
use Rattle.rail_mapper.proofs.ShelfLemmas.{replicate_last}
use Rattle.cell_netlist.specs.declared.kinds.Gate.TheVariants as gates

-- nothing, and one step after another
pub lines_same : (draft : PlainDraft) → AddsLines [] [] draft draft
lines_same draft = record {
  ports = ports_same draft;
  gates_added = sym (append-nil (flat_map gate_in draft.net.cells));
  roles_added = sym (append-nil (flat_map role_in draft.net.cells));
  fanned_out = λ h. h;
  states_kept = λ none. record { states = refl; backs = refl };
}

pub lines_on : (gates more : List Gate) (roles rest : List Role) (one two three : PlainDraft) → AddsLines gates roles one two → AddsLines more rest two three
    → AddsLines (gates ++ more) (roles ++ rest) one three
lines_on gates more roles rest one two three a b = record {
  ports = ports_on one two three a.ports b.ports;
  gates_added = b.gates_added ∙ ap (λ (l : List Gate). l ++ more) a.gates_added ∙ append_assoc (flat_map gate_in one.net.cells) gates more;
  roles_added = b.roles_added ∙ ap (λ (l : List Role). l ++ rest) a.roles_added ∙ append_assoc (flat_map role_in one.net.cells) roles rest;
  fanned_out = λ h. b.fanned_out (a.fanned_out h);
  states_kept = λ none.
      let first = a.states_kept (λ m. none (IsIn-left Back roles rest m)) in
      let second = b.states_kept (λ m. none (IsIn-right Back roles rest m)) in record { states = second.states ∙ first.states; backs = second.backs ∙ first.backs };
}

-- cells behind the others
cells_lines : (before after : PlainDraft) (cells : List Cell) → after.net ≡ with_cells before.net cells → (AreFannedOut before.net → AreFannedOut after.net)
    → AddsLines (flat_map gate_in cells) (flat_map role_in cells) before after
cells_lines before after cells e fan = record {
  ports = cells_keep before after (before.net.cells ++ cells) e;
  gates_added = ap (λ (net : PlainNetlist). flat_map gate_in net.cells) e ∙ flat_map-append gate_in before.net.cells cells;
  roles_added = ap (λ (net : PlainNetlist). flat_map role_in net.cells) e ∙ flat_map-append role_in before.net.cells cells;
  fanned_out = fan;
  states_kept = λ none. record {
    states = ap (λ (net : PlainNetlist). net.states) e;
    backs = ap (λ (net : PlainNetlist). backs_from 0 net.cells) e ∙ backs_stay before.net.cells cells none;
  };
}

-- splitters are no gates and have no role
splitters_alone : (cells : List Cell) → ((cell : Cell) → IsIn cell cells → IsSplitter cell) → (flat_map gate_in cells ≡ []) × (flat_map role_in cells ≡ [])
splitters_alone [] all = (refl, refl)
splitters_alone ((La a b out) ∷ cells) all = absurd (all (La a b out) (inl refl))
splitters_alone ((Fa a b out) ∷ cells) all = absurd (all (Fa a b out) (inl refl))
splitters_alone ((Split from left right) ∷ cells) all = splitters_alone cells (λ cell m. all cell (inr m))
splitters_alone ((Droc role preload feed q n) ∷ cells) all = absurd (all (Droc role preload feed q n) (inl refl))

splitters_lines : (before after : PlainDraft) (cells : List Cell) → after.net ≡ with_cells before.net cells → ((cell : Cell) → IsIn cell cells → IsSplitter cell)
    → (AreFannedOut before.net → AreFannedOut after.net) → AddsLines [] [] before after
splitters_lines before after cells e all fan =
    let s = splitters_alone cells all in
    subst (λ (l : List Gate). AddsLines l [] before after) s.0
    (subst (λ (l : List Role). AddsLines (flat_map gate_in cells) l before after) s.1 (cells_lines before after cells e fan))

equal_lines : (before after : PlainDraft) → after ≡ before → AddsLines [] [] before after
equal_lines before after e = subst (λ (d : PlainDraft). AddsLines [] [] before d) (sym e) (lines_same before)

take_lines : (rail wire : ℕ) (before after : PlainDraft) → Takes rail wire before after → AddsLines [] [] before after
take_lines rail wire before after take = record {
  ports = take_keeps rail wire before after take;
  gates_added = ap (λ (d : PlainDraft). flat_map gate_in d.net.cells) take.taken ∙ sym (append-nil (flat_map gate_in before.net.cells));
  roles_added = ap (λ (d : PlainDraft). flat_map role_in d.net.cells) take.taken ∙ sym (append-nil (flat_map role_in before.net.cells));
  fanned_out = λ h. subst (λ (d : PlainDraft). AreFannedOut d.net) (sym take.taken) h;
  states_kept = λ none. record { states = ap (λ (d : PlainDraft). d.net.states) take.taken; backs = ap (λ (d : PlainDraft). backs_from 0 d.net.cells) take.taken };
}

grow_lines : (rail root : ℕ) (before after : PlainDraft) → Grows rail root before after → IsBare before.net root → AddsLines [] [] before after
grow_lines rail root before after grow is =
    splitters_lines before after grow.spread.cells grow.spread.added grow.spread.spreads.all_split (grow_fanned_out rail root before after grow is)

pub grow_if_lines : (rail root : ℕ) (before after : PlainDraft) → GrowsIf rail root before after → (1 ≤ readers_of before rail → IsBare before.net root) → AddsLines [] [] before after
grow_if_lines rail root before after (grown some grow) is = grow_lines rail root before after grow (is some)
grow_if_lines rail root before after (bare none e) is = equal_lines before after e

-- a gate
one_gate : (gate : Gate) (a b out : ℕ) → (flat_map gate_in (gate_cell gate a b out ∷ []) ≡ gate ∷ []) × (flat_map role_in (gate_cell gate a b out ∷ []) ≡ [])
one_gate gates.La a b out = (refl, refl)
one_gate gates.Fa a b out = (refl, refl)

gate_line : (gate : Gate) (a b out : ℕ) (draft : PlainDraft) → out ≡ number_of_wires draft.net → AddsLines (gate ∷ []) [] draft (with_cell draft (gate_cell gate a b out))
gate_line gate a b out draft is =
    let o = one_gate gate a b out in
    subst (λ (l : List Gate). AddsLines l [] draft (with_cell draft (gate_cell gate a b out))) o.0
    (subst (λ (l : List Role). AddsLines (flat_map gate_in (gate_cell gate a b out ∷ [])) l draft (with_cell draft (gate_cell gate a b out))) o.1
    (cells_lines draft (with_cell draft (gate_cell gate a b out)) (gate_cell gate a b out ∷ []) refl (gate_line_fanned_out gate a b out draft is)))

pub gate_lines : (gate : Gate) (low high rail : ℕ) (before after : PlainDraft) → Gated gate low high rail before after → AddsLines (gate ∷ []) [] before after
gate_lines gate low high rail before after gated =
    let out = number_of_wires before.net in
    let made = with_cell gated.two (gate_cell gate gated.a gated.b out) in
    let is : out ≡ number_of_wires gated.two.net = sym (ap (λ (d : PlainDraft). number_of_wires d.net) gated.high_taken.taken
    ∙ ap (λ (d : PlainDraft). number_of_wires d.net) gated.low_taken.taken) in
    lines_on [] (gate ∷ []) [] [] before gated.one after (take_lines low gated.a before gated.one gated.low_taken)
    (lines_on [] (gate ∷ []) [] [] gated.one gated.two after (take_lines high gated.b gated.one gated.two gated.high_taken)
    (lines_on (gate ∷ []) [] [] [] gated.two made after (gate_line gate gated.a gated.b out gated.two is)
    (grow_lines rail out made after gated.grown (gate_bare gate gated.a gated.b out gated.two is))))

-- a constant with its trees
tree_alone : (next from readers : ℕ) (cells : List Cell) (leaves : List ℕ) → HasTreeIfRead next from readers cells leaves → (flat_map gate_in cells ≡ []) × (flat_map role_in cells ≡ [])
tree_alone next from readers cells leaves (with_tree some tree spreads) = splitters_alone cells spreads.all_split
tree_alone next from readers cells leaves (without none empty bare_leaves) = (ap (flat_map gate_in) empty, ap (flat_map role_in) empty)

pub constant_lines : (before after : PlainDraft) → HasConstant before after → AddsLines [] (Const ∷ []) before after
constant_lines before after h =
    let c = h.constant in
    let one = tree_alone _ _ _ c.one_cells h.one c.one_tree in
    let none = splitters_alone c.zero_cells c.zero_spreads.all_split in
    let gates_are : flat_map gate_in (c.one_cells ++ c.zero_cells) ≡ [] = flat_map-append gate_in c.one_cells c.zero_cells ∙ ap (λ (l : List Gate). l ++ flat_map gate_in c.zero_cells) one.0
    ∙ none.0 in
    let roles_are : flat_map role_in (c.one_cells ++ c.zero_cells) ≡ [] = flat_map-append role_in c.one_cells c.zero_cells ∙ ap (λ (l : List Role). l ++ flat_map role_in c.zero_cells) one.1
    ∙ none.1 in
    subst (λ (l : List Gate). AddsLines l (Const ∷ []) before after) gates_are
    (subst (λ (l : List Role). AddsLines (flat_map gate_in (c.one_cells ++ c.zero_cells)) (Const ∷ l) before after) roles_are
    (cells_lines before after _ c.added (constant_fanned_out before.net after.net _ _ h.one h.none c)))

-- the backs of all pairs that wait, where a rail of a latch is read
pub backs_lines : (latch : ℕ) (init : Bool) (pos neg : ℕ) (first before after : PlainDraft) → (pos ≡ neg → ⊥) → AddsLines [] (replicate (length before.pending) Back) first before
    → BeginsLatch latch init pos neg before after → AddsLines [] (replicate (length after.pending) Back) first after
backs_lines latch init pos neg first before after apart h (unread no_pos no_neg e) = subst (λ (d : PlainDraft). AddsLines [] (replicate (length d.pending) Back) first d) (sym e) h
backs_lines latch init pos neg first before after apart h (started b) =
    subst (λ (l : List Role). AddsLines [] l first after) (replicate_last (length before.pending) Back ∙ ap (λ (k : ℕ). replicate k Back) (sym one_more))
    (lines_on [] [] (replicate (length before.pending) Back) (Back ∷ []) first before after h
    (lines_on [] [] (Back ∷ []) [] before b.middle after
    (lines_on [] [] (Back ∷ []) [] before (begun_draft before latch init _ _) b.middle begun_lines
    (grow_if_lines pos _ _ b.middle b.first (first_bare latch init pos neg before after b apart)))
    (grow_if_lines neg _ b.middle after b.second (second_bare latch init pos neg before after b apart))))
  where
    begun_lines : AddsLines [] (Back ∷ []) before (begun_draft before latch init (nat_lt 0 (readers_of before pos)) (nat_lt 0 (readers_of before neg)))
    begun_lines =
        let back = begun_back (number_of_wires before.net) init (nat_lt 0 (readers_of before pos)) (nat_lt 0 (readers_of before neg)) in
        record {
          ports = begun_keeps before latch init (nat_lt 0 (readers_of before pos)) (nat_lt 0 (readers_of before neg));
          gates_added = flat_map-append gate_in before.net.cells (back ∷ []);
          roles_added = flat_map-append role_in before.net.cells (back ∷ []);
          fanned_out = back_fanned_out latch init pos neg before after b apart;
          states_kept = λ none. absurd (none (inl refl));
        }

    one_more : length after.pending ≡ length before.pending + 1
    one_more =
        let a = ap (λ (l : List (ℕ × ℕ)). length l) (grows_pending neg _ b.middle after b.second ∙ grows_pending pos _ (begun_draft before latch init _ _) b.middle b.first) in
        let c = length-append before.pending ((let half : ℕ × ℕ = (length before.net.cells, latch) in half) ∷ []) in omega arith

-- another feed changes no gate and no role
fed_alone : (wire : WireId) (cell : Cell) → (gate_in (with_feed wire cell) ≡ gate_in cell) × (role_in (with_feed wire cell) ≡ role_in cell)
fed_alone wire (La a b out) = (refl, refl)
fed_alone wire (Fa a b out) = (refl, refl)
fed_alone wire (Split from left right) = (refl, refl)
fed_alone wire (Droc role preload feed q n) = (refl, refl)

fed_lines : (place : ℕ) (wire : WireId) (cells : List Cell)
    → (flat_map gate_in (cells_with_feed place wire cells) ≡ flat_map gate_in cells) × (flat_map role_in (cells_with_feed place wire cells) ≡ flat_map role_in cells)
fed_lines place wire [] = (refl, refl)
fed_lines zero wire (cell ∷ cells) =
    let f = fed_alone wire cell in (ap (λ (l : List Gate). l ++ flat_map gate_in cells) f.0, ap (λ (l : List Role). l ++ flat_map role_in cells) f.1)
fed_lines (suc place) wire (cell ∷ cells) = let r = fed_lines place wire cells in (ap (λ (l : List Gate). gate_in cell ++ l) r.0, ap (λ (l : List Role). role_in cell ++ l) r.1)

-- a front
pub front_lines : (rail : ℕ) (init : Bool) (before after : PlainDraft) → FinishesFirst rail init before after → AddsLines [] (Front ∷ []) before after
front_lines rail init before after f =
    lines_on [] [] [] (Front ∷ []) before f.finishes.middle after (take_lines rail f.finishes.next before f.finishes.middle f.finishes.taken) (record {
      ports = cells_keep f.finishes.middle after _ same;
      gates_added = ap (λ (net : PlainNetlist). flat_map gate_in net.cells) same
          ∙ (fed_lines f.waits.place (numbered (number_of_wires f.finishes.middle.net)) (f.finishes.middle.net.cells ++ front ∷ [])).0
          ∙ flat_map-append gate_in f.finishes.middle.net.cells (front ∷ []);
      roles_added = ap (λ (net : PlainNetlist). flat_map role_in net.cells) same
          ∙ (fed_lines f.waits.place (numbered (number_of_wires f.finishes.middle.net)) (f.finishes.middle.net.cells ++ front ∷ [])).1
          ∙ flat_map-append role_in f.finishes.middle.net.cells (front ∷ []);
      fanned_out = λ h. subst AreFannedOut (sym same) (front_fanned_out f.finishes.middle.net f.waits.place init f.finishes.next h);
      states_kept = λ none. record {
        states = ap (λ (net : PlainNetlist). net.states) same;
        backs = ap (λ (net : PlainNetlist). backs_from 0 net.cells) same
            ∙ backs_fed 0 f.waits.place (numbered (number_of_wires f.finishes.middle.net)) (f.finishes.middle.net.cells ++ front ∷ [])
            ∙ backs_stay f.finishes.middle.net.cells (front ∷ []) none;
      };
    })
  where
    front : Cell
    front = front_of init f.finishes.next (number_of_wires f.finishes.middle.net)

    same : after.net ≡ record f.finishes.middle.net { cells = cells_with_feed f.waits.place (numbered (number_of_wires f.finishes.middle.net)) (f.finishes.middle.net.cells ++ front ∷ []) }
    same = ap (λ (d : PlainDraft). d.net) f.finishes.finished

-- output rails
pub cells_same : (draft : PlainDraft) → KeepsCells draft draft
cells_same draft = record { ports = inputs_same draft; cells = refl; states = refl }

pub cells_on : (one two three : PlainDraft) → KeepsCells one two → KeepsCells two three → KeepsCells one three
cells_on one two three a b = record { ports = inputs_on one two three a.ports b.ports; cells = b.cells ∙ a.cells; states = b.states ∙ a.states }

pub puts_cells : (literal : NodeLit) (port : ℕ) (signs : List Sign) (before after : PlainDraft) → PutsOutputs literal port signs before after → KeepsCells before after
puts_cells literal port [] before after e = subst (λ (d : PlainDraft). KeepsCells before d) (sym e) (cells_same before)
puts_cells literal port (sign ∷ signs) before after (middle, out, more) =
    cells_on before middle after (record {
      ports = output_keeps _ port sign before middle out;
      cells = ap (λ (d : PlainDraft). d.net.cells) out.added ∙ ap (λ (d : PlainDraft). d.net.cells) out.taken.taken;
      states = ap (λ (d : PlainDraft). d.net.states) out.added ∙ ap (λ (d : PlainDraft). d.net.states) out.taken.taken;
    }) (puts_cells literal port signs middle after more)
