-- The decisions on soundness tell the rules.
use Rattle.std.proofs.Common.{◌≡◌, ◌<◌, ◌≤◌, ◌↔◌, slice_get, ℕ, zero, suc, Bool, true, false, not, ◌&&◌, ◌==◌, nat_lt, Option, Some, None, is_none, List, [], ◌∷◌, ◌++◌, map, length, ap, sym}
use Rattle.std.proofs.Common.{◌∙◌, subst, inl, inr, arith, refl, if◌then◌else◌}
use Rattle.std.specs.List.{flat_map, list_any, list_all}
use Rattle.std.proofs.lemmas.Bool.{and_parts, and_from, or_cases, eqb-true, eq-eqb, cases_Bool, ltb-true, lt-ltb, true≢false}
use Rattle.pulse_ids.specs.Ids.{WireId}
use Rattle.pulse_ids.specs.declared.literals.Sign.{Sign}
use Rattle.pulse_ids.specs.declared.literals.Sign.TheVariants.{Pos, Neg}
use Rattle.cell_netlist.specs.declared.kinds.Role.TheVariants.{Front, Back, Const}
use Rattle.cell_netlist.specs.declared.lines.Rail.{Rail}
use Rattle.cell_netlist.specs.declared.lines.Cell.{Cell}
use Rattle.cell_netlist.specs.declared.lines.Cell.TheVariants.{La, Fa, Split, Droc}
use Rattle.pulse_ids.specs.Lists.{IsIn, occurrences}
use Rattle.cell_netlist.specs.Netlists.{PlainNetlist, wire_of, outs, reads, driven, read, number_of_wires, IsDroc, Grounded, of_rail, of_droc, of_gate, Splits, HasSplitter, SplittersBelow}
use Rattle.cell_netlist.specs.RailEquations.{is_front_to, is_back_from, preload_of}
use Rattle.cell_netlist.specs.Sound.{IsOn, IsDrocOf, HasQ, FitsRole, IsFrontTo, IsBackFrom, IsSound}
use Rattle.cell_netlist.specs.Decisions as decisions
use Rattle.cell_netlist.specs.Decisions.{all_below, all_pairs, is_some_with, has, is_same_sign, are_other_rails, droc_outs, is_ready, known_through, known_after, are_outs_known, splits_to}
use Rattle.cell_netlist.specs.Decisions.{source_of, splitter_above, climbs_to, number_on, fits_role, link_of, differ, have_right_preloads, are_ports_below, is_no_rail_twice, is_sound}
use Rattle.pulse_ids.proofs.CallerLemmas.{IsIn-append, IsIn-from_map, IsIn-from_flat_map}
use Rattle.cell_netlist.proofs.ListLemmas.{all_below-at, all_below-from, list_all-at, list_all-from, list_any-at, all_pairs-at, all_pairs-from, is_some_with-at, has-at}
use Rattle.cell_netlist.proofs.StateDecisions.{states-is}

-- the same sign
pub same_sign-at : (s t : Sign) → is_same_sign s t ≡ true → s ≡ t
same_sign-at Pos Pos e = refl
same_sign-at Pos Neg e = absurd cc
same_sign-at Neg Pos e = absurd cc
same_sign-at Neg Neg e = refl

pub same_sign-from : (s t : Sign) → s ≡ t → is_same_sign s t ≡ true
same_sign-from Pos Pos e = refl
same_sign-from Pos Neg e = absurd cc
same_sign-from Neg Pos e = absurd cc
same_sign-from Neg Neg e = refl

-- two rails that differ are not of one port and sign
pub other_rails-at : (rail other : Rail) → are_other_rails rail other ≡ true → rail.port ≡ other.port → rail.sign ≡ other.sign → ⊥
other_rails-at rail other e port sign =
    let p = eq-eqb _ _ port in
    let s = same_sign-from _ _ sign in
    let both = and_from _ _ p s in
    true≢false (sym e ∙ ap not both)

other_rails-from : (rail other : Rail) → (rail.port ≡ other.port → rail.sign ≡ other.sign → ⊥) → are_other_rails rail other ≡ true
other_rails-from rail other differ = elim (cases_Bool ((rail.port == other.port) && is_same_sign rail.sign other.sign)) [
  | inl same ↦ absurd (differ (eqb-true _ _ (and_parts _ _ same).0) (same_sign-at _ _ (and_parts _ _ same).1))
  | inr e ↦ ap not e
]

-- a splitter that drives a wire
pub splits_to-at : (cell : Cell) (w : ℕ) → splits_to w cell ≡ true → Splits cell (source_of cell) w
splits_to-at (La a b out) w e = absurd cc
splits_to-at (Fa a b out) w e = absurd cc
splits_to-at (Split from left right) w e = elim (or_cases _ _ e) [ inl l ↦ (refl, inl (eqb-true _ _ l)) | inr r ↦ (refl, inr (inl (eqb-true _ _ r))) ]
splits_to-at (Droc role preload feed q n) w e = absurd cc

-- the outputs of a DROC
pub droc_outs-is : (cell : Cell) → IsDroc cell → droc_outs cell ≡ outs cell
droc_outs-is (La a b out) h = absurd h
droc_outs-is (Fa a b out) h = absurd h
droc_outs-is (Split from left right) h = absurd h
droc_outs-is (Droc role preload feed q n) h = refl

droc_outs-in : (cell : Cell) (w : ℕ) → IsIn w (droc_outs cell) → IsDroc cell × IsIn w (outs cell)
droc_outs-in (La a b out) w h = absurd h
droc_outs-in (Fa a b out) w h = absurd h
droc_outs-in (Split from left right) w h = absurd h
droc_outs-in (Droc role preload feed q n) w h = (tt, h)

module _ (net : PlainNetlist) where
  -- an output of a cell whose inputs are grounded
  pub of_cell : (cell : Cell) → IsIn cell net.cells → ((port : ℕ) → IsIn port (reads cell) → Grounded net port) → (w : ℕ) → IsIn w (outs cell) → Grounded net w
  of_cell (La a b out) among ports w h = of_gate w (La a b out) among (λ d. d) h ports
  of_cell (Fa a b out) among ports w h = of_gate w (Fa a b out) among (λ d. d) h ports
  of_cell (Split from left right) among ports w h = of_gate w (Split from left right) among (λ d. d) h ports
  of_cell (Droc role preload feed q n) among ports w h = of_droc w (Droc role preload feed q n) among tt h

  -- a cell whose inputs are known keeps the known wires grounded
  one_more : (cell : Cell) → IsIn cell net.cells → (known : List ℕ) → ((w : ℕ) → IsIn w known → Grounded net w)
      → (w : ℕ) → IsIn w (if is_ready known cell then outs cell ++ known else known) → Grounded net w
  one_more cell among known all w h = elim (cases_Bool (is_ready known cell)) [
    | inl ready ↦ elim (IsIn-append w (outs cell) known (subst (λ (b : Bool). IsIn w (if b then outs cell ++ known else known)) ready h)) [
      | inl out ↦ of_cell cell among (λ port g. all port (has-at port known (list_all-at (λ wire. has wire known) (reads cell) ready port g))) w out
      | inr old ↦ all w old
    ]
    | inr blocked ↦ all w (subst (λ (b : Bool). IsIn w (if b then outs cell ++ known else known)) blocked h)
  ]

  known_through-grounded : (cells : List Cell) → ((cell : Cell) → IsIn cell cells → IsIn cell net.cells) → (known : List ℕ)
      → ((w : ℕ) → IsIn w known → Grounded net w) → (w : ℕ) → IsIn w (known_through cells known) → Grounded net w
  known_through-grounded [] sub known all w h = all w h
  known_through-grounded (cell ∷ cells) sub known all w h =
      known_through-grounded cells (λ c g. sub c (inr g)) (if is_ready known cell then outs cell ++ known else known)
      (one_more cell (sub cell (inl refl)) known all) w h

  pub known_after-grounded : (n w : ℕ) → IsIn w (known_after net n) → Grounded net w
  known_after-grounded zero w h = elim (IsIn-append w (map wire_of net.input_rails) (flat_map droc_outs net.cells) h) [
    | inl rail ↦ let found = IsIn-from_map wire_of w net.input_rails rail in of_rail w found.0 found.1 found.2
    | inr droc ↦ let found = IsIn-from_flat_map droc_outs w net.cells droc in let its = droc_outs-in found.0 w found.2 in of_droc w found.0 found.1 its.0 its.1
  ]
  known_after-grounded (suc n) w h = known_through-grounded net.cells (λ c g. g) (known_after net n) (known_after-grounded n) w h

  pub grounded-at : decisions.is_all_grounded net ≡ true → (cell : Cell) → IsIn cell net.cells → (IsDroc cell → ⊥) → (wire : ℕ) → IsIn wire (outs cell) → Grounded net wire
  grounded-at e cell among gate wire h =
      let known = known_after net (length net.cells) in
      let outs_known = list_all-at (are_outs_known known) net.cells e cell among in
      known_after-grounded (length net.cells) wire (has-at wire known (list_all-at (λ w. has w known) (outs cell) outs_known wire h))

  pub splitter_above-at : (cells : List Cell) (w from : ℕ) → splitter_above cells w ≡ Some from → (cell : Cell) × IsIn cell cells × Splits cell from w
  splitter_above-at [] w from e = absurd cc
  splitter_above-at (cell ∷ cells) w from e = elim (cases_Bool (splits_to w cell)) [
    | inl hit ↦
        let is : Some (source_of cell) ≡ Some from = subst (λ (b : Bool). (if b then Some (source_of cell) else splitter_above cells w) ≡ Some from) hit e in
        let same : source_of cell ≡ from = cc in
        (cell, inl refl, subst (λ f. Splits cell f w) same (splits_to-at cell w hit))
    | inr miss ↦
        let later = splitter_above-at cells w from (subst (λ (b : Bool). (if b then Some (source_of cell) else splitter_above cells w) ≡ Some from) miss e) in
        (later.0, inr later.1, later.2)
  ]

  -- a splitter below the last of a chain
  pub SplittersBelow-one_more : (n own mid w : ℕ) → SplittersBelow net n own mid → HasSplitter net mid w → SplittersBelow net (suc n) own w
  SplittersBelow-one_more zero own mid w same last = (w, subst (λ m. HasSplitter net m w) (sym same) last, refl)
  SplittersBelow-one_more (suc n) own mid w chain last = (chain.0, chain.1, SplittersBelow-one_more n chain.0 mid w chain.2 last)

  climbs_to-at : (n own w : ℕ) → climbs_to net.cells own n w ≡ true → (splitters : ℕ) × SplittersBelow net splitters own w
  climbs_to-at zero own w e = (0, eqb-true _ _ e)
  climbs_to-at (suc n) own w e = elim (or_cases _ _ e) [
    | inl here ↦ (0, eqb-true _ _ here)
    | inr above ↦
        let from = is_some_with-at (climbs_to net.cells own n) (splitter_above net.cells w) above in
        let up = climbs_to-at n own from.0 from.2 in
        (suc up.0, SplittersBelow-one_more up.0 own from.0 w up.1 (splitter_above-at net.cells w from.0 from.1))
  ]

  -- an output that is used
  on-at : (o : Option WireId) (w : ℕ) → number_on o ≡ Some w → IsOn o w
  on-at None w e = absurd cc
  on-at (Some wire) w e = cc

  none-at : (o : Option WireId) → is_none o ≡ true → o ≡ None
  none-at None e = refl
  none-at (Some wire) e = absurd cc

  -- whether a cell is a front or a back
  front-at : (cell : Cell) (w : ℕ) → is_front_to w cell ≡ true → (feed : ℕ) × IsDrocOf cell Front (preload_of cell) feed × HasQ cell w
  front-at (La a b out) w e = absurd cc
  front-at (Fa a b out) w e = absurd cc
  front-at (Split from left right) w e = absurd cc
  front-at (Droc Front preload feed None n) w e = absurd cc
  front-at (Droc Front preload feed (Some q) n) w e = (feed.number, (refl, refl, refl), sym (eqb-true _ _ e))
  front-at (Droc Back preload feed q n) w e = absurd cc
  front-at (Droc Const preload feed q n) w e = absurd cc

  pub back-at : (cell : Cell) (w : ℕ) → is_back_from w cell ≡ true → IsDrocOf cell Back (preload_of cell) w
  back-at (La a b out) w e = absurd cc
  back-at (Fa a b out) w e = absurd cc
  back-at (Split from left right) w e = absurd cc
  back-at (Droc Front preload feed q n) w e = absurd cc
  back-at (Droc Back preload feed q n) w e = (refl, refl, sym (eqb-true _ _ e))
  back-at (Droc Const preload feed q n) w e = absurd cc

  pub fits-at : (cell : Cell) → fits_role net.cells cell ≡ true → FitsRole net cell
  fits-at (La a b out) e = tt
  fits-at (Fa a b out) e = tt
  fits-at (Split from left right) e = tt
  fits-at (Droc Front preload feed q n) e =
      let parts = and_parts _ _ e in
      let link = is_some_with-at (λ link. list_any (is_back_from link) net.cells) (number_on q) parts.1 in
      let back = list_any-at (is_back_from link.0) net.cells link.2 in
      (none-at n parts.0, link.0, on-at q link.0 link.1, preload_of back.0, record { back = back.0; among = back.1; role = back-at back.0 link.0 back.2 })
  fits-at (Droc Back preload feed q n) e =
      let front = list_any-at (is_front_to feed.number) net.cells e in
      let its = front-at front.0 feed.number front.2 in
      (preload_of front.0, record { front = front.0; among = front.1; feed = its.0; role = its.1; q = its.2 })
  fits-at (Droc Const preload feed q n) e =
      let own = is_some_with-at (λ own. climbs_to net.cells own (length net.cells) feed.number) (number_on n) e in
      let chain = climbs_to-at (length net.cells) own.0 feed.number own.2 in
      (own.0, on-at n own.0 own.1, chain.0, chain.1)

  -- two preloads that differ
  pub differ-at : (front back : Bool) → differ front back ≡ true → back ≡ not front
  differ-at false false e = absurd cc
  differ-at false true e = refl
  differ-at true false e = refl
  differ-at true true e = absurd cc

  link-from : (cell : Cell) (preload : Bool) (feed link : ℕ) → IsDrocOf cell Front preload feed → HasQ cell link → (link_of cell ≡ Some link) × (preload_of cell ≡ preload)
  link-from (La a b out) preload feed link role q = absurd role
  link-from (Fa a b out) preload feed link role q = absurd role
  link-from (Split from left right) preload feed link role q = absurd role
  link-from (Droc Front its_preload its_feed None n) preload feed link role q = absurd q
  link-from (Droc Front its_preload its_feed (Some wire) n) preload feed link role q = (ap (λ w. Some w) q, role.1)
  link-from (Droc Back its_preload its_feed its_q n) preload feed link role q = let r = role.0 in absurd cc
  link-from (Droc Const its_preload its_feed its_q n) preload feed link role q = let r = role.0 in absurd cc

  pub back-from : (cell : Cell) (preload : Bool) (link : ℕ) → IsDrocOf cell Back preload link → (is_back_from link cell ≡ true) × (preload_of cell ≡ preload)
  back-from (La a b out) preload link role = absurd role
  back-from (Fa a b out) preload link role = absurd role
  back-from (Split from left right) preload link role = absurd role
  back-from (Droc Front its_preload its_feed q n) preload link role = let r = role.0 in absurd cc
  back-from (Droc Back its_preload its_feed q n) preload link role = (eq-eqb _ _ (sym role.2), role.1)
  back-from (Droc Const its_preload its_feed q n) preload link role = let r = role.0 in absurd cc

  pub right_preloads-at : (front_cell back_cell : Cell) (front back : Bool) (feed link : ℕ) → have_right_preloads front_cell back_cell ≡ true
      → IsDrocOf front_cell Front front feed → HasQ front_cell link → IsDrocOf back_cell Back back link → back ≡ not front
  right_preloads-at front_cell back_cell front back feed link pair role q its_role =
      let its_link = link-from front_cell front feed link role q in
      let its_feed = back-from back_cell back link its_role in
      let linked : is_some_with (λ l. is_back_from l back_cell) (link_of front_cell) ≡ true =
      subst (λ o. is_some_with (λ l. is_back_from l back_cell) o ≡ true) (sym its_link.0) its_feed.0 in
      elim (or_cases _ _ pair) [
        | inl miss ↦ absurd (true≢false (sym miss ∙ ap not linked))
        | inr hit ↦ subst (λ b. b ≡ not front) its_feed.1 (subst (λ f. preload_of back_cell ≡ not f) its_link.1 (differ-at _ _ hit))
      ]

  pub preloads-at : decisions.is_all_complement net ≡ true → (link : ℕ) (front back : Bool) → IsFrontTo net link front → IsBackFrom net link back → back ≡ not front
  preloads-at e link front back of_front of_back =
      let pair = list_all-at (have_right_preloads of_front.front) net.cells
      (list_all-at (λ f. list_all (have_right_preloads f) net.cells) net.cells e of_front.front of_front.among) of_back.back of_back.among in
      right_preloads-at of_front.front of_back.back front back of_front.feed link pair of_front.role of_front.q of_back.role

  pub roles-at : decisions.is_all_fitting net ≡ true → (cell : Cell) → IsIn cell net.cells → FitsRole net cell
  roles-at e cell h = fits-at cell (list_all-at (fits_role net.cells) net.cells e cell h)

  -- the decisions that count or compare
  pub all_driven-is : (decisions.is_all_driven net ≡ true) ↔ ((wire : ℕ) → wire < number_of_wires net → 1 ≤ occurrences wire (driven net))
  all_driven-is = (
    λ e wire lt. let t = ltb-true _ _ (all_below-at (λ w. nat_lt 0 (occurrences w (driven net))) _ e wire lt) in omega arith,
    λ all. all_below-from (λ w. nat_lt 0 (occurrences w (driven net))) _ (λ w lt. let t = all w lt in lt-ltb _ _ (omega arith)),
  )

  pub none_driven_twice-is : (decisions.is_none_driven_twice net ≡ true) ↔ ((wire : ℕ) → wire < number_of_wires net → occurrences wire (driven net) ≤ 1)
  none_driven_twice-is = (
    λ e wire lt. let t = ltb-true _ _ (all_below-at (λ w. nat_lt (occurrences w (driven net)) 2) _ e wire lt) in omega arith,
    λ all. all_below-from (λ w. nat_lt (occurrences w (driven net)) 2) _ (λ w lt. let t = all w lt in lt-ltb _ _ (omega arith)),
  )

  pub all_read-is : (decisions.is_all_read net ≡ true) ↔ ((wire : ℕ) → wire < number_of_wires net → 1 ≤ occurrences wire (read net))
  all_read-is = (
    λ e wire lt. let t = ltb-true _ _ (all_below-at (λ w. nat_lt 0 (occurrences w (read net))) _ e wire lt) in omega arith,
    λ all. all_below-from (λ w. nat_lt 0 (occurrences w (read net))) _ (λ w lt. let t = all w lt in lt-ltb _ _ (omega arith)),
  )

  pub none_read_twice-is : (decisions.is_none_read_twice net ≡ true) ↔ ((wire : ℕ) → wire < number_of_wires net → occurrences wire (read net) ≤ 1)
  none_read_twice-is = (
    λ e wire lt. let t = ltb-true _ _ (all_below-at (λ w. nat_lt (occurrences w (read net)) 2) _ e wire lt) in omega arith,
    λ all. all_below-from (λ w. nat_lt (occurrences w (read net)) 2) _ (λ w lt. let t = all w lt in lt-ltb _ _ (omega arith)),
  )

  pub input_ports-is : (are_ports_below net.inputs net.input_rails ≡ true) ↔ ((rail : Rail) → IsIn rail net.input_rails → rail.port < net.inputs)
  input_ports-is = (
    λ e rail h. ltb-true _ _ (list_all-at (λ r. nat_lt r.port net.inputs) _ e rail h),
    λ all. list_all-from (λ r. nat_lt r.port net.inputs) _ (λ r h. lt-ltb _ _ (all r h)),
  )

  pub output_ports-is : (are_ports_below net.outputs net.output_rails ≡ true) ↔ ((rail : Rail) → IsIn rail net.output_rails → rail.port < net.outputs)
  output_ports-is = (
    λ e rail h. ltb-true _ _ (list_all-at (λ r. nat_lt r.port net.outputs) _ e rail h),
    λ all. list_all-from (λ r. nat_lt r.port net.outputs) _ (λ r h. lt-ltb _ _ (all r h)),
  )

  pub none_twice-is : (is_no_rail_twice net ≡ true) ↔ ((first later : ℕ) (rail other : Rail) → first < later
      → slice_get net.input_rails first ≡ Some rail → slice_get net.input_rails later ≡ Some other → rail.port ≡ other.port → rail.sign ≡ other.sign → ⊥)
  none_twice-is = (
    λ e first later rail other lt at_first at_later. other_rails-at rail other (all_pairs-at are_other_rails _ e first later rail other lt at_first at_later),
    λ all. all_pairs-from are_other_rails _ (λ i j x y lt at_i at_j. other_rails-from x y (all i j x y lt at_i at_j)),
  )

pub is_sound-at : (net : PlainNetlist) → is_sound net ≡ true → IsSound net
is_sound-at net e =
    let p1 = and_parts _ _ e in
    let p2 = and_parts _ _ p1.1 in
    let p3 = and_parts _ _ p2.1 in
    let p4 = and_parts _ _ p3.1 in
    let p5 = and_parts _ _ p4.1 in
    let p6 = and_parts _ _ p5.1 in
    let p7 = and_parts _ _ p6.1 in
    let p8 = and_parts _ _ p7.1 in
    let p9 = and_parts _ _ p8.1 in
    let p10 = and_parts _ _ p9.1 in
    record {
      wired = record {
        all_driven = (all_driven-is net).0 p1.0;
        none_driven_twice = (none_driven_twice-is net).0 p2.0;
        all_read = (all_read-is net).0 p3.0;
        none_read_twice = (none_read_twice-is net).0 p4.0;
      };
      input_ports = (input_ports-is net).0 p5.0;
      output_ports = (output_ports-is net).0 p6.0;
      none_twice = (none_twice-is net).0 p7.0;
      grounded = grounded-at net p8.0;
      roles = roles-at net p9.0;
      preloads = preloads-at net p10.0;
      states = (states-is net).0 p10.1;
    }
