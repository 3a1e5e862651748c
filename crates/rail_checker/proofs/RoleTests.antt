-- DROCs that don't fit their roles, and backs with the preload of their fronts.
use Rattle.std.proofs.Common.{◌≡◌, ℕ, ◌<◌, ◌≤◌, inl, inr, List, ◌++◌, Option, Some, None, slice_get, get_or, Bool, true, false, not, ◌&&◌, ◌==◌, is_none, is_some, refl, sym, ap, subst, ◌∙◌}
use Rattle.std.proofs.Common.{arith, eq-eqb}
use Rattle.std.proofs.lemmas.Bool.{eqb-true, cases_Bool}
use Rattle.pulse_ids.specs.Ids.{WireId, numbered}
use Rattle.pulse_ids.specs.Lists.{IsIn}
use Rattle.pulse_ids.proofs.CallerLemmas.{IsIn-left, IsIn-right, IsIn-place}
use Rattle.cell_netlist.specs.declared.kinds.Role.TheVariants.{Front, Back, Const}
use Rattle.cell_netlist.specs.declared.lines.Cell.{Cell}
use Rattle.cell_netlist.specs.declared.lines.Cell.TheVariants.{La, Fa, Split, Droc}
use Rattle.cell_netlist.specs.declared.unsound.Unsound.TheVariants.{LooseDroc, WrongPreload}
use Rattle.cell_netlist.specs.Netlists.{PlainNetlist, number_of_wires, used, reads, SplittersBelow, IsRoot}
use Rattle.cell_netlist.specs.RailEquations.{preload_of}
use Rattle.cell_netlist.specs.Decisions.{is_some_with, number_on, differ, is_none_driven_twice}
use Rattle.cell_netlist.specs.Sound.{IsOn, IsDrocOf, FitsRole, Breaks}
use Rattle.cell_netlist.proofs.CallerLemmas.{named_below, root_unique}
use Rattle.rail_checker.specs.Tables.{AreFronts, AreBacks, AreRoots, root_at, fits_by, has_equal_preload}
use Rattle.rail_checker.specs.Verdicts.{IsFirst, IsClear, PassesAt}
use Rattle.rail_checker.proofs.LinkTables.{back_feed-is, feed_read}
use Rattle.rail_checker.proofs.Refusing.{wired, first_same}
use Rattle.rail_checker.proofs.RootTable.{cell_apart}

out_of_n : (q n : Option WireId) (own : ℕ) → IsOn n own → IsIn own (used q ++ used n)
out_of_n q None own h = absurd h
out_of_n q (Some wire) own h = IsIn-right own (used q) (used (Some wire)) (inl h)

out_of_q : (q n : Option WireId) (link : ℕ) → IsOn q link → IsIn link (used q ++ used n)
out_of_q None n link h = absurd h
out_of_q (Some wire) n link h = IsIn-left link (used (Some wire)) (used n) (inl h)

on_number : (o : Option WireId) (test : ℕ → Bool) → is_some_with test (number_on o) ≡ true → (wire : ℕ) × IsOn o wire × (test wire ≡ true)
on_number None test t = absurd cc
on_number (Some wire) test t = (wire.number, refl, t)

number_at : (o : Option WireId) (test : ℕ → Bool) (wire : ℕ) → IsOn o wire → test wire ≡ true → is_some_with test (number_on o) ≡ true
number_at None test wire h t = absurd h
number_at (Some w) test wire h t = ap test h ∙ t

none_is : (o : Option WireId) → is_none o ≡ true → o ≡ None
none_is None t = refl
none_is (Some w) t = absurd cc

both : (p q : Bool) → (p && q) ≡ true → (p ≡ true) × (q ≡ true)
both true true e = (refl, refl)
both true false e = absurd cc
both false q e = absurd cc

some_is : (o : Option Bool) → is_some o ≡ true → (x : Bool) × (o ≡ Some x)
some_is None e = absurd cc
some_is (Some x) e = (x, refl)

differs : (front back : Bool) → not (differ front back) ≡ true → back ≡ not front → ⊥
differs true true e f = cc
differs true false e f = cc
differs false true e f = cc
differs false false e f = cc

same_of : (front back : Bool) → (back ≡ not front → ⊥) → not (differ front back) ≡ true
same_of true true h = refl
same_of true false h = absurd (h refl)
same_of false true h = absurd (h refl)
same_of false false h = refl

module _ (net : PlainNetlist) (rules : ℕ) (le : 8 ≤ rules) (clear : IsClear net rules) (once : is_none_driven_twice net ≡ true) (fronts : List (Option Bool)) (f : AreFronts net fronts)
    (backs : List Bool) (b : AreBacks net backs) (roots : List WireId) (r : AreRoots net roots) where
  fits-at : (cell : Cell) → IsIn cell net.cells → fits_by fronts backs roots cell ≡ true → FitsRole net cell
  fits-at (La a x out) i t = tt
  fits-at (Fa a x out) i t = tt
  fits-at (Split from left right) i t = tt
  fits-at (Droc Front preload feed q n) i t =
      let p = both (is_none n) (is_some_with (λ link. get_or backs link false) (number_on q)) t in
      let o = on_number q (λ link. get_or backs link false) p.1 in
      let k = (b.back o.0 ((named_below net).of_outs (Droc Front preload feed q n) i o.0 (out_of_q q n o.0 o.1))).0 o.2 in
      (none_is n p.0, o.0, o.1, k.0, k.1)
  fits-at (Droc Back preload feed q n) i t =
      let s = some_is (get_or fronts feed.number None) t in
      (s.0, (f.front feed.number s.0 ((named_below net).of_reads (Droc Back preload feed q n) i feed.number (inl refl))).0 s.1)
  fits-at (Droc Const preload feed q n) i t =
      let o = on_number n (λ own. own == root_at roots feed.number) t in
      let root : o.0 ≡ root_at roots feed.number = eqb-true o.0 (root_at roots feed.number) o.2 in
      let its = r.root feed.number ((named_below net).of_reads (Droc Const preload feed q n) i feed.number (inl refl)) in
      (o.0, o.1, its.splitters, subst (λ w. SplittersBelow net its.splitters w feed.number) (sym root) its.chain)

  fits-from : (cell : Cell) → IsIn cell net.cells → FitsRole net cell → fits_by fronts backs roots cell ≡ true
  fits-from (La a x out) i h = refl
  fits-from (Fa a x out) i h = refl
  fits-from (Split from left right) i h = refl
  fits-from (Droc Front preload feed q n) i h =
      let k : get_or backs h.1 false ≡ true = (b.back h.1 ((named_below net).of_outs (Droc Front preload feed q n) i h.1 (out_of_q q n h.1 h.2))).1 (h.3, h.4) in
      ap (λ x. x && is_some_with (λ link. get_or backs link false) (number_on q)) (ap is_none h.0) ∙ number_at q (λ link. get_or backs link false) h.1 h.2 k
  fits-from (Droc Back preload feed q n) i h =
      let k : get_or fronts feed.number None ≡ Some h.0 = (f.front feed.number h.0 ((named_below net).of_reads (Droc Back preload feed q n) i feed.number (inl refl))).1 h.1 in
      ap is_some k
  fits-from (Droc Const preload feed q n) i h =
      let its : IsRoot net h.0 feed.number = record {
        splitters = h.2;
        chain = h.3;
        first = cell_apart net (wired net rules (omega (arith, le)) clear) (Droc Const preload feed q n) i (λ from to s. s) h.0 (out_of_n q n h.0 h.1);
      } in
      let table = r.root feed.number ((named_below net).of_reads (Droc Const preload feed q n) i feed.number (inl refl)) in
      let same : h.0 ≡ root_at roots feed.number = (root_unique net once feed.number h.0 (root_at roots feed.number) its table).0 in
      number_at n (λ own. own == root_at roots feed.number) h.0 h.1 (eq-eqb h.0 (root_at roots feed.number) same)

  -- the cells that the test finds are those that break the rule
  misfit_breaks : (id : ℕ) → PassesAt (λ (cell : Cell). not (fits_by fronts backs roots cell)) net.cells id → Breaks net (LooseDroc (numbered id))
  misfit_breaks id h =
      (h.0, h.1, λ fits. let e : fits_by fronts backs roots h.0 ≡ true = fits-from h.0 (IsIn-place h.0 net.cells id h.1) fits in let t : not (fits_by fronts backs roots h.0) ≡ true = h.2 in cc)

  breaks_misfit : (id : ℕ) → Breaks net (LooseDroc (numbered id)) → PassesAt (λ (cell : Cell). not (fits_by fronts backs roots cell)) net.cells id
  breaks_misfit id h = (
    h.0,
    h.1,
    elim (cases_Bool (fits_by fronts backs roots h.0)) [
      | inl t ↦ absurd (h.2 (fits-at h.0 (IsIn-place h.0 net.cells id h.1) t))
      | inr e ↦ ap not e
    ],
  )

  -- the lowest cell that the test finds is the lowest that breaks the rule
  pub first_misfit : (cells : List Cell) → cells ≡ net.cells → (found : Option ℕ) → IsFirst (PassesAt (λ (cell : Cell). not (fits_by fronts backs roots cell)) cells) found
      → IsFirst (λ n. Breaks net (LooseDroc (numbered n))) found
  first_misfit cells e found first =
      first_same (PassesAt (λ (cell : Cell). not (fits_by fronts backs roots cell)) net.cells) (λ n. Breaks net (LooseDroc (numbered n))) misfit_breaks breaks_misfit found
      (subst (λ l. IsFirst (PassesAt (λ (cell : Cell). not (fits_by fronts backs roots cell)) l) found) e first)

module _ (net : PlainNetlist) (fronts : List (Option Bool)) (f : AreFronts net fronts) where
  equal_at : (id : ℕ) (cell : Cell) → slice_get net.cells id ≡ Some cell → has_equal_preload fronts cell ≡ true → Breaks net (WrongPreload (numbered id))
  equal_at id (La a b out) at t = absurd cc
  equal_at id (Fa a b out) at t = absurd cc
  equal_at id (Split from left right) at t = absurd cc
  equal_at id (Droc Front preload feed q n) at t = absurd cc
  equal_at id (Droc Const preload feed q n) at t = absurd cc
  equal_at id (Droc Back preload feed q n) at t = go (get_or fronts feed.number None) refl t
    where
      go : (o : Option Bool) → get_or fronts feed.number None ≡ o → is_some_with (λ front. not (differ front preload)) o ≡ true → Breaks net (WrongPreload (numbered id))
      go None e t = absurd cc
      go (Some front) e t =
          let below = (named_below net).of_reads (Droc Back preload feed q n) (IsIn-place (Droc Back preload feed q n) net.cells id at) feed.number (inl refl) in
          (Droc Back preload feed q n, at, feed.number, preload, front, (refl, refl, refl), (f.front feed.number front below).0 e, differs front preload t)

  equal_from : (cell : Cell) (link : ℕ) (back front : Bool) → IsDrocOf cell Back back link → get_or fronts link None ≡ Some front → (back ≡ not front → ⊥) → has_equal_preload fronts cell ≡ true
  equal_from cell link back front role at wrong =
      let its = back_feed-is cell back link role in
      ap (λ (o : Option ℕ). is_some_with (λ link. is_some_with (λ front. not (differ front (preload_of cell))) (get_or fronts link None)) o) its.0
      ∙ ap (λ (o : Option Bool). is_some_with (λ front. not (differ front (preload_of cell))) o) at
      ∙ ap (λ p. not (differ front p)) its.1 ∙ same_of front back wrong

  -- the backs that the test finds are those that break the rule
  equal_breaks : (id : ℕ) → PassesAt (has_equal_preload fronts) net.cells id → Breaks net (WrongPreload (numbered id))
  equal_breaks id h = equal_at id h.0 h.1 h.2

  breaks_equal : (id : ℕ) → Breaks net (WrongPreload (numbered id)) → PassesAt (has_equal_preload fronts) net.cells id
  breaks_equal id h = (h.0, h.1, equal_from h.0 h.2 h.3 h.4 h.5 ((f.front h.2 h.4 below).1 h.6) h.7)
    where
      read_of : (cell : Cell) (link : ℕ) (back : Bool) → IsDrocOf cell Back back link → IsIn link (reads cell)
      read_of cell link back role = feed_read cell link (back_feed-is cell back link role).0

      below : h.2 < number_of_wires net
      below = (named_below net).of_reads h.0 (IsIn-place h.0 net.cells id h.1) h.2 (read_of h.0 h.2 h.3 h.5)

  -- the lowest back that the test finds is the lowest that breaks the rule
  pub first_equal : (cells : List Cell) → cells ≡ net.cells → (found : Option ℕ) → IsFirst (PassesAt (has_equal_preload fronts) cells) found
      → IsFirst (λ n. Breaks net (WrongPreload (numbered n))) found
  first_equal cells e found first =
      first_same (PassesAt (has_equal_preload fronts) net.cells) (λ n. Breaks net (WrongPreload (numbered n))) equal_breaks breaks_equal found
      (subst (λ l. IsFirst (PassesAt (has_equal_preload fronts) l) found) e first)
