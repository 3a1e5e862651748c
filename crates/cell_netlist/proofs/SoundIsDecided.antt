-- A sound netlist passes all decisions.
use Rattle.std.proofs.Common.{◌≡◌, ◌<◌, ◌≤◌, ◌+◌, ℕ, zero, suc, Bool, true, false, not, ◌==◌, Option, Some, None, is_none, length, ap, sym, ◌∙◌, subst, inl, inr, arith, refl}
use Rattle.std.specs.List.{list_any, list_all}
use Rattle.std.proofs.lemmas.Bool.{and_from, or_cases, or_left, or_right, eqb-true, eq-eqb, cases_eq, cases_lt, cases_Bool, true≢false}
use Rattle.pulse_ids.specs.Ids.{WireId}
use Rattle.cell_netlist.specs.declared.kinds.Role.TheVariants.{Front, Back, Const}
use Rattle.cell_netlist.specs.declared.lines.Cell.{Cell}
use Rattle.cell_netlist.specs.declared.lines.Cell.TheVariants.{La, Fa, Split, Droc}
use Rattle.pulse_ids.specs.Lists.{IsIn}
use Rattle.cell_netlist.specs.Netlists.{PlainNetlist, SplittersBelow}
use Rattle.cell_netlist.specs.RailEquations.{is_front_to, is_back_from, preload_of}
use Rattle.cell_netlist.specs.Sound.{IsOn, IsDrocOf, HasQ, FitsRole, IsFrontTo, IsBackFrom, IsSound}
use Rattle.cell_netlist.specs.Decisions as decisions
use Rattle.cell_netlist.specs.Decisions.{is_some_with, has, is_ready, known_through, known_after, are_outs_known, source_of, splitter_above, climbs_to, number_on, fits_role, link_of, differ}
use Rattle.cell_netlist.specs.Decisions.{have_right_preloads, is_none_driven_twice, is_sound, AreDecisionsOfRules}
use Rattle.cell_netlist.proofs.ListLemmas.{list_all-from, list_any-from, is_some_with-at}
use Rattle.cell_netlist.proofs.SoundDecisions.{SplittersBelow-one_more, splitter_above-at, back-at, back-from, all_driven-is, none_driven_twice-is, all_read-is, none_read_twice-is}
use Rattle.cell_netlist.proofs.SoundDecisions.{input_ports-is, output_ports-is, none_twice-is, grounded-at, roles-at, preloads-at}
use Rattle.cell_netlist.proofs.StateDecisions.{states-is}
use Rattle.cell_netlist.proofs.Roots.{Splits-test, enough, above_is, last_of}
use Rattle.cell_netlist.proofs.GroundedDecision.{grounded-from}

module _ (net : PlainNetlist) where
  -- a chain of splitters on a chain
  joined : (a b from mid to : ℕ) → SplittersBelow net a from mid → SplittersBelow net b mid to → SplittersBelow net (a + b) from to
  joined zero b from mid to same rest = let sum : b ≡ zero + b = omega arith in subst (λ k. SplittersBelow net k from to) sum (subst (λ v. SplittersBelow net b v to) (sym same) rest)
  joined (suc a) b from mid to chain rest =
      let sum : suc (a + b) ≡ suc a + b = omega arith in
      subst (λ k. SplittersBelow net k from to) sum (chain.0, chain.1, joined a b chain.0 mid to chain.2 rest)

  -- a chain leads through this cell, which stands d splitters below its start
  abbrev Passes : ℕ → ℕ → ℕ → ℕ → Cell → Type 0
  Passes own m w d cell = SplittersBelow net d own (source_of cell) × (e : ℕ) × (d + e ≡ m) × SplittersBelow net e (source_of cell) w

  -- each step of a chain has a splitter
  passed : (m own w : ℕ) → SplittersBelow net m own w → (d : ℕ) → d < m → (cell : Cell) × IsIn cell net.cells × Passes own m w d cell
  passed zero own w chain d lt = absurd (omega arith)
  passed (suc m) own w chain zero lt =
      let splitter = chain.1 in
      let source : source_of splitter.0 ≡ own = (Splits-test splitter.0 own chain.0 splitter.2).1 in
      let whole : SplittersBelow net (suc m) own w = chain in
      (splitter.0, splitter.1, (sym source, suc m, omega arith, subst (λ v. SplittersBelow net (suc m) v w) (sym source) whole))
  passed (suc m) own w chain (suc d) lt =
      let found = passed m chain.0 w chain.2 d (omega arith) in
      let its = found.2 in
      let sum : d + its.1 ≡ m = its.2 in
      (found.0, found.1, ((chain.0, chain.1, its.0), its.1, omega arith, its.3))

  -- a chain than which none is shorter has no more splitters than there are cells
  shortest_fits : (m own w : ℕ) → SplittersBelow net m own w → ((k : ℕ) → k < m → SplittersBelow net k own w → ⊥) → m ≤ length net.cells
  shortest_fits m own w chain none = enough (Passes own m w) (λ d e cell one other. same_step d e cell one other) m net.cells (passed m own w chain)
    where
      shorter : (d e : ℕ) (cell : Cell) → d < e → Passes own m w d cell → Passes own m w e cell → ⊥
      shorter d e cell lt one other =
          let sum : e + other.1 ≡ m = other.2 in
          none (d + other.1) (omega arith) (joined d other.1 own (source_of cell) w one.0 other.3)

      same_step : (d e : ℕ) (cell : Cell) → Passes own m w d cell → Passes own m w e cell → d ≡ e
      same_step d e cell one other = elim (cases_eq d e) [
        | inl same ↦ same
        | inr differ ↦ elim (cases_lt d e) [
          | inl lt ↦ absurd (shorter d e cell lt one other)
          | inr ge ↦ absurd (shorter e d cell (omega arith) other one)
        ]
      ]

  -- a climb that meets a wire goes up a chain of at most that many splitters
  climbs_to-within : (n own w : ℕ) → climbs_to net.cells own n w ≡ true → (k : ℕ) × (k ≤ n) × SplittersBelow net k own w
  climbs_to-within zero own w e = (0, omega arith, eqb-true _ _ e)
  climbs_to-within (suc n) own w e = elim (or_cases _ _ e) [
    | inl here ↦ (0, omega arith, eqb-true _ _ here)
    | inr above ↦
        let from = is_some_with-at (climbs_to net.cells own n) (splitter_above net.cells w) above in
        let up = climbs_to-within n own from.0 from.2 in
        let few : up.0 ≤ n = up.1 in
        (suc up.0, omega arith, SplittersBelow-one_more net up.0 own from.0 w up.2 (splitter_above-at net net.cells w from.0 from.1))
  ]

  -- an output that is used
  on-from : (o : Option WireId) (w : ℕ) → IsOn o w → number_on o ≡ Some w
  on-from None w h = absurd h
  on-from (Some wire) w h = ap (λ n. Some n) h

  front-from : (cell : Cell) (preload : Bool) (feed link : ℕ) → IsDrocOf cell Front preload feed → HasQ cell link → is_front_to link cell ≡ true
  front-from (La a b out) preload feed link role q = absurd role
  front-from (Fa a b out) preload feed link role q = absurd role
  front-from (Split from left right) preload feed link role q = absurd role
  front-from (Droc Front its_preload its_feed None n) preload feed link role q = absurd q
  front-from (Droc Front its_preload its_feed (Some wire) n) preload feed link role q = eq-eqb _ _ (sym q)
  front-from (Droc Back its_preload its_feed its_q n) preload feed link role q = let r = role.0 in absurd cc
  front-from (Droc Const its_preload its_feed its_q n) preload feed link role q = let r = role.0 in absurd cc

  -- the decision on preloads
  pub differ-from : (front back : Bool) → back ≡ not front → differ front back ≡ true
  differ-from false false e = absurd cc
  differ-from false true e = refl
  differ-from true false e = refl
  differ-from true true e = absurd cc

  pub link-at : (cell : Cell) (link : ℕ) → link_of cell ≡ Some link → (feed : ℕ) × IsDrocOf cell Front (preload_of cell) feed × HasQ cell link
  link-at (La a b out) link e = absurd cc
  link-at (Fa a b out) link e = absurd cc
  link-at (Split from left right) link e = absurd cc
  link-at (Droc Front preload feed None n) link e = absurd cc
  link-at (Droc Front preload feed (Some q) n) link e = let same : q.number ≡ link = cc in (feed.number, (refl, refl, refl), same)
  link-at (Droc Back preload feed q n) link e = absurd cc
  link-at (Droc Const preload feed q n) link e = absurd cc

  pub preloads-from : ((link : ℕ) (front back : Bool) → IsFrontTo net link front → IsBackFrom net link back → back ≡ not front) → decisions.is_all_complement net ≡ true
  preloads-from all = list_all-from (λ f. list_all (have_right_preloads f) net.cells) net.cells
      (λ front at_front. list_all-from (have_right_preloads front) net.cells (λ back at_back. right front at_front back at_back))
    where
      right : (front : Cell) → IsIn front net.cells → (back : Cell) → IsIn back net.cells → have_right_preloads front back ≡ true
      right front at_front back at_back = elim (cases_Bool (is_some_with (λ link. is_back_from link back) (link_of front))) [
        | inr apart ↦ or_left _ _ (ap not apart)
        | inl linked ↦
            let link = is_some_with-at (λ l. is_back_from l back) (link_of front) linked in
            let its = link-at front link.0 link.1 in
            let role = back-at net back link.0 link.2 in
            or_right _ _ (differ-from _ _ (all link.0 (preload_of front) (preload_of back)
            (record { front = front; among = at_front; feed = its.0; role = its.1; q = its.2 })
            (record { back = back; among = at_back; role = role })))
      ]

  module _ (once : is_none_driven_twice net ≡ true) where
    -- where no wire is driven twice, a climb goes up each chain that is short enough
    climbs_to-from : (n m own w : ℕ) → m ≤ n → SplittersBelow net m own w → climbs_to net.cells own n w ≡ true
    climbs_to-from zero zero own w le chain = eq-eqb _ _ chain
    climbs_to-from zero (suc m) own w le chain = absurd (omega arith)
    climbs_to-from (suc n) zero own w le chain = or_left _ _ (eq-eqb _ _ chain)
    climbs_to-from (suc n) (suc m) own w le chain =
        let last = last_of net once m own w chain in
        let above = above_is net once last.0 w last.2 in
        let up = climbs_to-from n m own last.0 (omega arith) last.1 in
        or_right (own == w) (is_some_with (climbs_to net.cells own n) (splitter_above net.cells w)) (rw above up)

    -- a climb of as many splitters as there are cells meets the start of every chain
    climbs_to-chain : (most m own w : ℕ) → m ≤ most → SplittersBelow net m own w → climbs_to net.cells own (length net.cells) w ≡ true
    climbs_to-chain zero m own w le chain = climbs_to-from (length net.cells) m own w (omega arith) chain
    climbs_to-chain (suc most) zero own w le chain = climbs_to-from (length net.cells) zero own w (omega arith) chain
    climbs_to-chain (suc most) (suc m) own w le chain = elim (cases_Bool (climbs_to net.cells own m w)) [
      | inl again ↦
          let found = climbs_to-within m own w again in
          let few : found.0 ≤ m = found.1 in
          climbs_to-chain most found.0 own w (omega arith) found.2
      | inr never ↦
          let none : (k : ℕ) → k < suc m → SplittersBelow net k own w → ⊥ = λ k lt its. true≢false (sym (climbs_to-from m k own w (omega arith) its) ∙ never) in
          climbs_to-from (length net.cells) (suc m) own w (shortest_fits (suc m) own w chain none) chain
    ]

    pub fits-from : (cell : Cell) → FitsRole net cell → fits_role net.cells cell ≡ true
    fits-from (La a b out) h = refl
    fits-from (Fa a b out) h = refl
    fits-from (Split from left right) h = refl
    fits-from (Droc Front preload feed q n) h =
        let back = h.4 in
        let link = on-from q h.1 h.2 in
        let its = back-from net back.back h.3 h.1 back.role in
        let among = list_any-from (is_back_from h.1) net.cells back.back back.among its.0 in
        let there : is_none n ≡ true = rw h.0 refl in
        and_from _ _ there (subst (λ o. is_some_with (λ l. list_any (is_back_from l) net.cells) o ≡ true) (sym link) among)
    fits-from (Droc Back preload feed q n) h =
        let front = h.1 in
        list_any-from (is_front_to feed.number) net.cells front.front front.among (front-from front.front h.0 front.feed feed.number front.role front.q)
    fits-from (Droc Const preload feed q n) h =
        let own = on-from n h.0 h.1 in
        let climb = climbs_to-chain h.2 h.2 h.0 feed.number (omega arith) h.3 in
        subst (λ o. is_some_with (λ v. climbs_to net.cells v (length net.cells) feed.number) o ≡ true) (sym own) climb

  pub decisions_of_rules : AreDecisionsOfRules net
  decisions_of_rules = record {
    all_driven = all_driven-is net;
    none_driven_twice = none_driven_twice-is net;
    all_read = all_read-is net;
    none_read_twice = none_read_twice-is net;
    input_ports = input_ports-is net;
    output_ports = output_ports-is net;
    none_twice = none_twice-is net;
    grounded = (grounded-at net, grounded-from net);
    roles = roles-at net;
    fitting = λ once all. list_all-from (fits_role net.cells) net.cells (λ cell among. fits-from once cell (all cell among));
    preloads = (preloads-at net, preloads-from);
    states = states-is net;
  }

  pub is_sound-from : IsSound net → is_sound net ≡ true
  is_sound-from sound =
      let told = decisions_of_rules in
      let once = told.none_driven_twice.1 sound.wired.none_driven_twice in
      and_from _ _ (told.all_driven.1 sound.wired.all_driven)
      (and_from _ _ once
      (and_from _ _ (told.all_read.1 sound.wired.all_read)
      (and_from _ _ (told.none_read_twice.1 sound.wired.none_read_twice)
      (and_from _ _ (told.input_ports.1 sound.input_ports)
      (and_from _ _ (told.output_ports.1 sound.output_ports)
      (and_from _ _ (told.none_twice.1 sound.none_twice)
      (and_from _ _ (told.grounded.1 sound.grounded)
      (and_from _ _ (told.fitting once sound.roles)
      (and_from _ _ (told.preloads.1 sound.preloads) (told.states.1 sound.states))))))))))
