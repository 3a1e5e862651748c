-- What a front does to the labels of a draft's wires.
use Rattle.std.proofs.Common.{◌≡◌, ◌<◌, ◌+◌, ◌⊎◌, inl, inr, ℕ, zero, suc, Bool, true, false, not, Option, Some, None, List, [], ◌∷◌, ◌++◌, slice_get, ap, sym, subst, ◌∙◌, refl, arith}
use Rattle.std.proofs.lemmas.Bool.{cases_eq}
use Rattle.pulse_ids.specs.Ids.{NodeLit, WireId, numbered}
use Rattle.pulse_ids.specs.declared.literals.Sign.TheVariants.{Pos}
use Rattle.cell_netlist.specs.declared.kinds.Role.TheVariants.{Front, Back, Const}
use Rattle.cell_netlist.specs.declared.lines.Cell.{Cell}
use Rattle.cell_netlist.specs.declared.lines.StateLine.{StateLine}
use Rattle.cell_netlist.specs.declared.lines.Cell.TheVariants.{Droc}
use Rattle.pulse_ids.specs.Lists.{IsIn}
use Rattle.cell_netlist.specs.Netlists.{number_of_wires, IsDroc, with_feed, cells_with_feed}
use Rattle.cell_netlist.specs.Sound.{IsDrocOf}
use Rattle.pulse_ids.proofs.CallerLemmas.{IsIn-append, IsIn-left, IsIn-right}
use Rattle.aig_core.specs.Graphs.{count_of}
use Rattle.graph_build.specs.Built.{PlainBuilt}
use Rattle.droc_pairs.specs.Pairs.{StandsBack, front_of, with_front}
use Rattle.rail_mapper.proofs.Feeds.{fed_there, fed_elsewhere, front_place}
use Rattle.rail_mapper.specs.Drafts.{PlainDraft}
use Rattle.rail_mapper.specs.Labels.{literal_number, rails_in}
use Rattle.rail_mapper.specs.Tracks.{FitsGate, IsBegunFor, HasFront, IsPaired, IsJoined, IsWaiting, IsTracked}
use Rattle.rail_mapper.specs.StateLines.{IsLinked, IsStateOf}
use Rattle.rail_mapper.proofs.Tracking.{same_const}
use Rattle.rail_mapper.proofs.TrackingBacks.{place_last}

-- cells that are no backs stay where a back is fed
no_back_stays : (place : ℕ) (wire : WireId) (cells : List Cell) (preload : Bool) (feed : WireId) (q n : Option WireId) (cell : Cell) → slice_get cells place ≡ Some (Droc Back preload feed q n)
    → IsIn cell cells → (Droc Back preload feed q n ≡ cell → ⊥) → IsIn cell (cells_with_feed place wire cells)
no_back_stays place wire [] preload feed q n cell e m other = absurd m
no_back_stays zero wire (first ∷ cells) preload feed q n cell e (inl same) other = let s : first ≡ Droc Back preload feed q n = cc in absurd (other (sym s ∙ same))
no_back_stays zero wire (first ∷ cells) preload feed q n cell e (inr m) other = inr m
no_back_stays (suc place) wire (first ∷ cells) preload feed q n cell e (inl same) other = inl same
no_back_stays (suc place) wire (first ∷ cells) preload feed q n cell e (inr m) other = inr (no_back_stays place wire cells preload feed q n cell e m other)

-- and no other cells than the fed back come
fed_from : (place : ℕ) (wire : WireId) (cells : List Cell) (preload : Bool) (feed : WireId) (q n : Option WireId) (cell : Cell) → slice_get cells place ≡ Some (Droc Back preload feed q n)
    → IsIn cell (cells_with_feed place wire cells) → (Droc Back preload wire q n ≡ cell) ⊎ IsIn cell cells
fed_from place wire [] preload feed q n cell e m = absurd m
fed_from zero wire (first ∷ cells) preload feed q n cell e (inl same) = let s : first ≡ Droc Back preload feed q n = cc in inl (sym (ap (with_feed wire) s) ∙ same)
fed_from zero wire (first ∷ cells) preload feed q n cell e (inr m) = inr (inr m)
fed_from (suc place) wire (first ∷ cells) preload feed q n cell e (inl same) = inr (inl same)
fed_from (suc place) wire (first ∷ cells) preload feed q n cell e (inr m) = elim (fed_from place wire cells preload feed q n cell e m) [ inl k ↦ inl k | inr k ↦ inr (inr k) ]

-- a pair that is finished: its back was the first of those pending
module _ (built : PlainBuilt) (label : ℕ → ℕ) (place latch : ℕ) (pending : List (ℕ × ℕ)) (draft : PlainDraft) (init : Bool) (next : ℕ) (literal : NodeLit)
    (h : IsTracked built label ((place, latch) ∷ pending) draft) (stands : StandsBack draft.net place init)
    (once : (other : ℕ) → IsIn {X = ℕ × ℕ} (place, other) pending → ⊥)
    (holds : slice_get built.nexts latch ≡ Some literal) (within : literal.id.number < count_of built.graph)
    (next_is : label next ≡ literal_number literal Pos) (link_is : label (number_of_wires draft.net) ≡ rails_in built + latch) where
  abbrev link : WireId
  link = numbered (number_of_wires draft.net)

  abbrev front : Cell
  front = front_of init next (number_of_wires draft.net)

  abbrev longer : List Cell
  longer = draft.net.cells ++ front ∷ []

  abbrev fed : List Cell
  fed = cells_with_feed place link longer

  abbrev old_back : Cell
  old_back = Droc Back init stands.feed stands.q stands.n

  at_place : slice_get longer place ≡ Some old_back
  at_place = front_place draft.net.cells front place old_back stands.is

  front_in : IsIn front fed
  front_in = no_back_stays place link longer init stands.feed stands.q stands.n front at_place (IsIn-right front draft.net.cells (front ∷ []) (inl refl)) (λ e. cc)

  fed_back : slice_get fed place ≡ Some (Droc Back init link stands.q stands.n)
  fed_back = fed_there place link longer old_back at_place

  -- the back at the place
  now_paired : IsPaired built label pending fed place init link stands.q stands.n
  now_paired = record {
    latch = latch;
    begun = its;
    front = inr (
      once,
      record {
        link_is = link_is;
        next = literal;
        holds = holds;
        within = within;
        front = front;
        feed = next;
        among = front_in;
        role = (refl, refl, refl);
        joined = refl;
        feed_is = next_is;
      },
    );
  }
    where
      was : IsPaired built label ((place, latch) ∷ pending) draft.net.cells place init stands.feed stands.q stands.n
      was = h.backs place init stands.feed stands.q stands.n stands.is

      same : IsIn {X = ℕ × ℕ} (place, was.latch) ((place, latch) ∷ pending)
          ⊎ (((other : ℕ) → IsIn {X = ℕ × ℕ} (place, other) ((place, latch) ∷ pending) → ⊥) × HasFront built label draft.net.cells was.latch init stands.feed.number)
          → IsBegunFor built label latch init stands.q stands.n
      same (inl (inl e)) = subst (λ (l : ℕ). IsBegunFor built label l init stands.q stands.n) (sym (ap (λ (x : ℕ × ℕ). x.1) e)) was.begun
      same (inl (inr m)) = absurd (once was.latch m)
      same (inr f) = absurd (f.0 latch (inl refl))

      its : IsBegunFor built label latch init stands.q stands.n
      its = same was.front

  -- a back elsewhere
  other_paired : (at : ℕ) (preload : Bool) (feed : WireId) (q n : Option WireId) → (at ≡ place → ⊥) → IsPaired built label ((place, latch) ∷ pending) draft.net.cells at preload feed q n
      → IsPaired built label pending fed at preload feed q n
  other_paired at preload feed q n ne was = record {
    latch = was.latch;
    begun = was.begun;
    front = elim (was.front) [
      | inl p ↦ inl (tail p)
      | inr f ↦ inr (
        λ other m. f.0 other (inr m),
        record {
          link_is = f.1.link_is;
          next = f.1.next;
          holds = f.1.holds;
          within = f.1.within;
          front = f.1.front;
          feed = f.1.feed;
          among = no_back_stays place link longer init stands.feed stands.q stands.n f.1.front at_place (IsIn-left f.1.front draft.net.cells (front ∷ []) f.1.among)
              (λ e. no_front f.1.front f.1.feed (not preload) e f.1.role);
          role = f.1.role;
          joined = f.1.joined;
          feed_is = f.1.feed_is;
        },
      )
    ];
  }
    where
      tail : IsIn {X = ℕ × ℕ} (at, was.latch) ((place, latch) ∷ pending) → IsIn {X = ℕ × ℕ} (at, was.latch) pending
      tail (inl e) = absurd (ne (sym (ap (λ (x : ℕ × ℕ). x.0) e)))
      tail (inr m) = m

      no_front : (cell : Cell) (feed : ℕ) (preload : Bool) → old_back ≡ cell → IsDrocOf cell Front preload feed → ⊥
      no_front cell feed preload e d = let r : Back ≡ Front = (subst (λ (c : Cell). IsDrocOf c Front preload feed) (sym e) d).0 in absurd cc

  back_or_front : (at : ℕ) (preload : Bool) (feed : WireId) (q n : Option WireId) → (at ≡ place → ⊥) → slice_get fed at ≡ Some (Droc Back preload feed q n)
      → slice_get draft.net.cells at ≡ Some (Droc Back preload feed q n)
  back_or_front at preload feed q n ne e =
      elim (place_last draft.net.cells front at (Droc Back preload feed q n) (sym (fed_elsewhere place link longer at ne) ∙ e)) [
        | inl k ↦ k
        | inr k ↦ absurd (not_front k.1)
      ]
    where
      not_front : front ≡ Droc Back preload feed q n → ⊥
      not_front e = absurd cc

  all_paired : (at : ℕ) (preload : Bool) (feed : WireId) (q n : Option WireId) → slice_get fed at ≡ Some (Droc Back preload feed q n) → IsPaired built label pending fed at preload feed q n
  all_paired at preload feed q n e = elim (cases_eq at place) [
    | inl same ↦ here (ap (slice_get fed) (sym same) ∙ e) same
    | inr ne ↦ other_paired at preload feed q n ne (h.backs at preload feed q n (back_or_front at preload feed q n ne e))
  ]
    where
      here : slice_get fed place ≡ Some (Droc Back preload feed q n) → at ≡ place → IsPaired built label pending fed at preload feed q n
      here e same =
          let b : Droc Back init link stands.q stands.n ≡ Droc Back preload feed q n = cc fed_back in
          let p : init ≡ preload = cc in let f : link ≡ feed = cc in let r : stands.q ≡ q = cc in let s : stands.n ≡ n = cc in
          subst (λ (o : Option WireId). IsPaired built label pending fed at preload feed q o) s (subst (λ (o : Option WireId). IsPaired built label pending fed at preload feed o stands.n) r
          (subst (λ (w : WireId). IsPaired built label pending fed at preload w stands.q stands.n) f (subst (λ (x : Bool). IsPaired built label pending fed at x link stands.q stands.n) p
          (subst (λ (k : ℕ). IsPaired built label pending fed k init link stands.q stands.n) (sym same) now_paired))))

  -- the new front, and those before
  now_joined : IsJoined built label pending fed (not init) (Some link) None
  now_joined = record {
    no_n = refl;
    link = number_of_wires draft.net;
    on = refl;
    high = rw link_is (omega arith);
    place = place;
    done = once;
    back_feed = link;
    back_q = stands.q;
    back_n = stands.n;
    back = subst (λ (b : Bool). slice_get fed place ≡ Some (Droc Back b link stands.q stands.n)) (not_twice init) fed_back;
    feed_is = refl;
  }
    where
      not_twice : (b : Bool) → b ≡ not (not b)
      not_twice true = refl
      not_twice false = refl

  other_joined : (preload : Bool) (q n : Option WireId) → IsJoined built label ((place, latch) ∷ pending) draft.net.cells preload q n → IsJoined built label pending fed preload q n
  other_joined preload q n was = record {
    no_n = was.no_n;
    link = was.link;
    on = was.on;
    high = was.high;
    place = was.place;
    done = λ other m. was.done other (inr m);
    back_feed = was.back_feed;
    back_q = was.back_q;
    back_n = was.back_n;
    back = fed_elsewhere place link longer was.place (λ e. was.done latch (inl (ap (λ (k : ℕ). let pair : ℕ × ℕ = (k, latch) in pair) (sym e))))
        ∙ front_place draft.net.cells front was.place (Droc Back (not preload) was.back_feed was.back_q was.back_n) was.back;
    feed_is = was.feed_is;
  }

  parts : (cell : Cell) → IsIn cell fed → (Droc Back init link stands.q stands.n ≡ cell) ⊎ (IsIn cell draft.net.cells ⊎ (front ≡ cell))
  parts cell m = elim (fed_from place link longer init stands.feed stands.q stands.n cell at_place m) [
    | inl e ↦ inl e
    | inr k ↦ elim (IsIn-append cell draft.net.cells (front ∷ []) k) [ inl a ↦ inr (inl a) | inr b ↦ inr (inr (only b)) ]
  ]
    where
      only : IsIn cell (front ∷ []) → front ≡ cell
      only (inl e) = e
      only (inr m) = absurd m

  -- a state line of the pair, and of others
  now_state : (line : StateLine) → IsStateOf built label ((place, latch) ∷ pending) draft.net.cells line → IsStateOf built label pending fed line
  now_state line (inl (inl e)) =
      let at : place ≡ line.cell.number = ap (λ (p : ℕ × ℕ). p.0) e in
      let its : latch ≡ line.latch = ap (λ (p : ℕ × ℕ). p.1) e in
      inr (record {
        done = subst (λ (k : ℕ). (other : ℕ) → IsIn {X = ℕ × ℕ} (k, other) pending → ⊥) at once;
        preload = init;
        feed = link;
        q = stands.q;
        n = stands.n;
        back = ap (slice_get fed) (sym at) ∙ fed_back;
        feed_is = link_is ∙ ap (λ (k : ℕ). rails_in built + k) its;
      })
  now_state line (inl (inr m)) = inl m
  now_state line (inr its) = inr (record {
    done = λ other m. its.done other (inr m);
    preload = its.preload;
    feed = its.feed;
    q = its.q;
    n = its.n;
    back = fed_elsewhere place link longer line.cell.number (λ e. its.done latch (inl (ap (λ (k : ℕ). let pair : ℕ × ℕ = (k, latch) in pair) (sym e))))
        ∙ front_place draft.net.cells front line.cell.number (Droc Back its.preload its.feed its.q its.n) its.back;
    feed_is = its.feed_is;
  })

  pub finish_tracked : IsTracked built label pending (record draft { net = with_front draft.net place init next })
  finish_tracked = record {
    stocked = h.stocked;
    inputs = h.inputs;
    gates = λ cell m. elim (parts cell m) [
      | inl e ↦ subst (λ (c : Cell). FitsGate built label c) e tt
      | inr (inl k) ↦ h.gates cell k
      | inr (inr e) ↦ subst (λ (c : Cell). FitsGate built label c) e tt
    ];
    backs = all_paired;
    fronts = λ preload feed q n m. elim (parts (Droc Front preload feed q n) m) [
      | inl e ↦ absurd (roles_differ e)
      | inr (inl k) ↦ other_joined preload q n (h.fronts preload feed q n k)
      | inr (inr e) ↦ new_front preload feed q n e
    ];
    waits = λ at other m. still_waiting at other m (h.waits at other (inr m));
    constants = λ preload feed q n m. elim (parts (Droc Const preload feed q n) m) [
      | inl e ↦ absurd (not_const preload feed q n e)
      | inr (inl k) ↦ same_const label draft.net (with_front draft.net place init next)
          (λ cell m d. no_back_stays place link longer init stands.feed stands.q stands.n cell at_place (IsIn-left cell draft.net.cells (front ∷ []) m)
          (λ e. d (subst (λ (c : Cell). IsDroc c) e tt))) preload feed q n (h.constants preload feed q n k)
      | inr (inr e) ↦ absurd (front_const preload feed q n e)
    ];
    outputs = h.outputs;
    states = λ line m. now_state line (h.states line m);
  }
    where
      still_waiting : (at other : ℕ) → IsIn {X = ℕ × ℕ} (at, other) pending → IsWaiting built draft.net.cells at other → IsWaiting built fed at other
      still_waiting at other m w = record {
        init = w.init;
        first = w.first;
        q = w.q;
        n = w.n;
        is = fed_elsewhere place link longer at (λ e. once other (subst (λ (k : ℕ). IsIn {X = ℕ × ℕ} (k, other) pending) e m))
            ∙ front_place draft.net.cells front at (Droc Back w.init (numbered 0) w.q w.n) w.is;
      }

      roles_differ : {preload : Bool} {feed : WireId} {q n : Option WireId} → Droc Back init link stands.q stands.n ≡ Droc Front preload feed q n → ⊥
      roles_differ e = absurd cc

      not_const : (preload : Bool) (feed : WireId) (q n : Option WireId) → Droc Back init link stands.q stands.n ≡ Droc Const preload feed q n → ⊥
      not_const preload feed q n e = absurd cc

      front_const : (preload : Bool) (feed : WireId) (q n : Option WireId) → front ≡ Droc Const preload feed q n → ⊥
      front_const preload feed q n e = absurd cc

      new_front : (preload : Bool) (feed : WireId) (q n : Option WireId) → front ≡ Droc Front preload feed q n → IsJoined built label pending fed preload q n
      new_front preload feed q n e =
          let p : not init ≡ preload = cc in let r : Some link ≡ q = cc in let s : None ≡ n = cc in
          subst (λ (o : Option WireId). IsJoined built label pending fed preload q o) s
          (subst (λ (o : Option WireId). IsJoined built label pending fed preload o None) r (subst (λ (b : Bool). IsJoined built label pending fed b (Some link) None) p now_joined))
