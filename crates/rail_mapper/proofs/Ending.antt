-- A draft without pending pairs, open wires and wires in hand is a sound netlist, each of whose lines does what its labels say.
use Rattle.std.proofs.Common.{◌≡◌, ◌<◌, ◌⊎◌, inl, inr, ℕ, Bool, true, false, not, Option, Some, None, [], slice_get, ap, sym, subst, ◌∙◌, refl}
use Rattle.pulse_ids.specs.Ids.{WireId}
use Rattle.cell_netlist.specs.declared.kinds.Role.TheVariants.{Front, Back, Const}
use Rattle.cell_netlist.specs.declared.lines.Rail.{Rail}
use Rattle.cell_netlist.specs.declared.lines.Cell.{Cell}
use Rattle.cell_netlist.specs.declared.lines.StateLine.{StateLine}
use Rattle.cell_netlist.specs.declared.lines.Cell.TheVariants.{La, Fa, Split, Droc}
use Rattle.pulse_ids.specs.Lists.{IsIn}
use Rattle.cell_netlist.specs.Netlists.{outs}
use Rattle.cell_netlist.specs.Sound.{IsDrocOf, HasQ, IsFrontTo, IsBackFrom, FitsRole, NamesBack, IsNamedBefore, IsSound}
use Rattle.pulse_ids.proofs.CallerLemmas.{IsIn-place, place_of}
use Rattle.graph_build.specs.Built.{PlainBuilt}
use Rattle.wire_ledgers.specs.Ledgers.{IsLedger}
use Rattle.rail_mapper.specs.Drafts.{PlainDraft}
use Rattle.rail_mapper.specs.Labels.{FitsLabels, IsLabelled}
use Rattle.rail_mapper.specs.StateLines.{IsLinked, IsStateOf}
use Rattle.rail_mapper.specs.Tracks.{HasFront, IsPaired, IsJoined, IsTracked}
use Rattle.wire_ledgers.proofs.CallerLemmasOnEnds.{closed_sound}
use Rattle.rail_mapper.proofs.NetRuns.{same_cell, cells_few}

module _ (built : PlainBuilt) (label : ℕ → ℕ) (draft : PlainDraft) (h : IsTracked built label [] draft) where
  its_front : (place : ℕ) (preload : Bool) (feed : WireId) (q n : Option WireId) → slice_get draft.net.cells place ≡ Some (Droc Back preload feed q n)
      → (p : IsPaired built label [] draft.net.cells place preload feed q n) × HasFront built label draft.net.cells p.latch preload feed.number
  its_front place preload feed q n e = (h.backs place preload feed q n e, by (h.backs place preload feed q n e).front)
    where
      by : IsIn {X = ℕ × ℕ} (place, (h.backs place preload feed q n e).latch) []
          ⊎ (((other : ℕ) → IsIn {X = ℕ × ℕ} (place, other) [] → ⊥) × HasFront built label draft.net.cells (h.backs place preload feed q n e).latch preload feed.number)
          → HasFront built label draft.net.cells (h.backs place preload feed q n e).latch preload feed.number
      by (inl m) = absurd m
      by (inr f) = f.1

  its_back : (preload : Bool) (q n : Option WireId) → (j : IsJoined built label [] draft.net.cells preload q n) → IsBackFrom draft.net j.link (not preload)
  its_back preload q n j = record {
    back = Droc Back (not preload) j.back_feed j.back_q j.back_n;
    among = IsIn-place (Droc Back (not preload) j.back_feed j.back_q j.back_n)
        draft.net.cells j.place j.back;
    role = (refl, refl, j.feed_is);
  }

  cell_labelled : (cell : Cell) → IsIn cell draft.net.cells → FitsLabels built label draft.net cell
  cell_labelled (La a b out) m = h.gates (La a b out) m
  cell_labelled (Fa a b out) m = h.gates (Fa a b out) m
  cell_labelled (Split from left right) m = h.gates (Split from left right) m
  cell_labelled (Droc Front preload feed q n) m = let j = h.fronts preload feed q n m in (j.no_n, j.link, j.on, j.high, its_back preload q n j)
  cell_labelled (Droc Back preload feed q n) m =
      let at = place_of (Droc Back preload feed q n) draft.net.cells m in
      let f = its_front at.0 preload feed q n at.1 in
      record {
        latch = f.0.latch;
        node = f.0.begun.node;
        stands = f.0.begun.stands;
        first = f.0.begun.first;
        q_is = f.0.begun.q_is;
        n_is = f.0.begun.n_is;
        link_is = f.1.link_is;
        next = f.1.next;
        holds = f.1.holds;
        within = f.1.within;
        front = f.1.front;
        feed = f.1.feed;
        among = f.1.among;
        role = f.1.role;
        joined = f.1.joined;
        feed_is = f.1.feed_is;
      }
  cell_labelled (Droc Const preload feed q n) m = let c = h.constants preload feed q n m in (c.one, c.q_is, c.n_is, c.own, c.on_own, c.splitters, c.chain)

  pub tracked_labelled : IsLabelled built label draft.net
  tracked_labelled = record { inputs = h.inputs; cells = cell_labelled; outputs = h.outputs }

  cell_fits : (cell : Cell) → IsIn cell draft.net.cells → FitsRole draft.net cell
  cell_fits (La a b out) m = tt
  cell_fits (Fa a b out) m = tt
  cell_fits (Split from left right) m = tt
  cell_fits (Droc Front preload feed q n) m = let j = h.fronts preload feed q n m in (j.no_n, j.link, j.on, not preload, its_back preload q n j)
  cell_fits (Droc Back preload feed q n) m =
      let at = place_of (Droc Back preload feed q n) draft.net.cells m in
      let f = (its_front at.0 preload feed q n at.1).1 in
      (not preload, record { front = f.front; among = f.among; feed = f.feed; role = f.role; q = f.joined })
  cell_fits (Droc Const preload feed q n) m = let c = h.constants preload feed q n m in (c.own, c.on_own, c.splitters, c.chain)

  q_drives : (cell : Cell) (link : ℕ) → HasQ cell link → IsIn link (outs cell)
  q_drives (La a b out) link q = absurd q
  q_drives (Fa a b out) link q = absurd q
  q_drives (Split from left right) link q = absurd q
  q_drives (Droc role preload feed None n) link q = absurd q
  q_drives (Droc role preload feed (Some w) n) link q = inl q

  preload_is : (one other : Cell) (a b : Bool) (f g : ℕ) → one ≡ other → IsDrocOf one Front a f → IsDrocOf other Front b g → a ≡ b
  preload_is (La x y out) other a b f g e d k = absurd d
  preload_is (Fa x y out) other a b f g e d k = absurd d
  preload_is (Split from left right) other a b f g e d k = absurd d
  preload_is (Droc role preload feed q n) other a b f g e d k = sym d.1 ∙ (subst (λ (c : Cell). IsDrocOf c Front b g) (sym e) k).1

  not_not : (a b : Bool) → a ≡ not b → b ≡ not a
  not_not true true e = cc
  not_not true false e = refl
  not_not false true e = refl
  not_not false false e = cc

  pairs_complement : (ledger : IsLedger draft.net [] []) (link : ℕ) (front back : Bool) → IsFrontTo draft.net link front → IsBackFrom draft.net link back → back ≡ not front
  pairs_complement ledger link front back f b = by b.back b.among b.role
    where
      by : (cell : Cell) → IsIn cell draft.net.cells → IsDrocOf cell Back back link → back ≡ not front
      by (La x y out) m d = absurd d
      by (Fa x y out) m d = absurd d
      by (Split from left right) m d = absurd d
      by (Droc role preload feed q n) m d =
          let m2 : IsIn (Droc Back preload feed q n) draft.net.cells = subst (λ r. IsIn (Droc r preload feed q n) draft.net.cells) d.0 m in
          let at = place_of (Droc Back preload feed q n) draft.net.cells m2 in
          let g = (its_front at.0 preload feed q n at.1).1 in
          let joined : HasQ g.front link = subst (λ (k : ℕ). HasQ g.front k) d.2 g.joined in
          let same = same_cell outs draft.net.cells link f.front g.front (cells_few draft.net ledger link) f.among g.among (q_drives f.front link f.q) (q_drives g.front link joined) in
          not_not front back (preload_is f.front g.front front (not preload) f.feed g.feed same f.role g.role ∙ ap not d.1)

  -- each state line names a back, whose feed carries the line's latch
  pub state_linked : (line : StateLine) → IsIn line draft.net.states → IsLinked built label [] draft.net.cells line
  state_linked line m = by (h.states line m)
    where
      by : IsStateOf built label [] draft.net.cells line → IsLinked built label [] draft.net.cells line
      by (inl waits) = absurd waits
      by (inr its) = its

  state_back : (line : StateLine) → IsIn line draft.net.states → NamesBack draft.net line
  state_back line m = let its = state_linked line m in (Droc Back its.preload its.feed its.q its.n, its.back, tt)

  -- with rails of ports in range, none of them twice, and no cell named twice
  pub tracked_sound : IsLedger draft.net [] [] → ((rail : Rail) → IsIn rail draft.net.input_rails → rail.port < draft.net.inputs)
      → ((rail : Rail) → IsIn rail draft.net.output_rails → rail.port < draft.net.outputs)
      → ((first later : ℕ) (rail other : Rail) → first < later → slice_get draft.net.input_rails first ≡ Some rail → slice_get draft.net.input_rails later ≡ Some other
      → rail.port ≡ other.port → rail.sign ≡ other.sign → ⊥)
      → ((k : ℕ) (line : StateLine) → slice_get draft.net.states k ≡ Some line → IsNamedBefore draft.net k line → ⊥) → IsSound draft.net
  tracked_sound ledger ins outs_in twice states_apart =
      closed_sound draft.net ledger (record {
        input_ports = ins;
        output_ports = outs_in;
        none_twice = twice;
        roles = cell_fits;
        preloads = pairs_complement ledger;
        states = record { backs = state_back; apart = states_apart };
      })
