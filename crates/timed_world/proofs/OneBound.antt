-- A sound netlist has one bound for the same delays.
use Rattle.std.proofs.Common.{◌≡◌, ◌+◌, ◌<◌, ℕ, Option, Some, None, inl, inr, List, [], ◌∷◌, map, reverse, refl, sym, ap, subst, ◌∙◌, arith}
use Rattle.std.proofs.lemmas.List.{reverse-reverse}
use Rattle.pulse_ids.specs.Ids.{CellId}
use Rattle.pulse_ids.specs.Lists.{IsIn}
use Rattle.pulse_ids.proofs.CallerLemmas.{IsIn-place, place_of}
use Rattle.cell_netlist.specs.declared.lines.Cell.{Cell}
use Rattle.cell_netlist.specs.declared.lines.Cell.TheVariants.{La, Fa, Split, Droc}
use Rattle.cell_netlist.specs.Netlists.{PlainNetlist, outs, reads, number_of_wires, IsDroc, Grounded, of_rail, of_droc, of_gate}
use Rattle.cell_netlist.specs.Sound.{IsSound}
use Rattle.cell_netlist.specs.WireLaws.{DrivingCellsAreUnique, WiresAreGrounded}
use Rattle.cell_netlist.proofs.CallerLemmas.{named_below}
use Rattle.timed_world.specs.Bounds.{PlainBound, entry_of, comes_by, AreArrivals, LeadsBack, IsLatestPath}
use Rattle.timed_world.specs.Delays.{PlainDelays, delay_of, kind_of}
use Rattle.timed_world.specs.Laws.{OneBound, LagsOfRails, LagsOfCells, EmissionsHaveLags}
use Rattle.timed_world.proofs.DrivingCells.{rail_apart, rail_lag}
use Rattle.timed_world.proofs.Filling.{entry_same}
use Rattle.timed_world.proofs.LagLemmas.{lag_of_driver}
use Rattle.timed_world.proofs.WithinBound.{cells_pass}

entry_droc : (value : ℕ → ℕ) (cell : Cell) → IsDroc cell → entry_of value cell ≡ 0
entry_droc value (La a b out) d = absurd d
entry_droc value (Fa a b out) d = absurd d
entry_droc value (Split from left right) d = absurd d
entry_droc value (Droc role preload feed q n) d = refl

module _ (delays : PlainDelays) (net : PlainNetlist) (f g : ℕ → ℕ) (a : AreArrivals delays net f) (b : AreArrivals delays net g) where
  agree : (wire : ℕ) → Grounded net wire → f wire ≡ g wire
  agree _ (of_rail wire rail i e) = ap f (sym e) ∙ (a.of_rail rail i ∙ (sym (b.of_rail rail i) ∙ ap g e))
  agree _ (of_droc wire cell i droc o) =
      a.of_cell cell i wire o ∙ (ap (λ t. t + delay_of delays (kind_of cell)) (entry_droc f cell droc ∙ sym (entry_droc g cell droc)) ∙ sym (b.of_cell cell i wire o))
  agree _ (of_gate wire cell i kind o all) =
      a.of_cell cell i wire o ∙ (ap (λ t. t + delay_of delays (kind_of cell)) (entry_same f g cell kind (λ w j. agree w (all w j))) ∙ sym (b.of_cell cell i wire o))

comes_same : (f g : ℕ → ℕ) (cell : Cell) → ((wire : ℕ) → IsIn wire (reads cell) → f wire ≡ g wire) → comes_by f cell ≡ comes_by g cell
comes_same f g (La a b out) same = rw (same a.number (inl refl), same b.number (inr (inl refl))) refl
comes_same f g (Fa a b out) same = rw (same a.number (inl refl), same b.number (inr (inl refl))) refl
comes_same f g (Split from left right) same = refl
comes_same f g (Droc role preload feed q n) same = refl

module _ (unique : DrivingCellsAreUnique) (net : PlainNetlist) (sound : IsSound net) (f g : ℕ → ℕ) (same : (wire : ℕ) → wire < number_of_wires net → f wire ≡ g wire) where
  one_way : (way other : Option ℕ) (xs ys : List ℕ) → way ≡ other → LeadsBack net f way xs → LeadsBack net g other ys → xs ≡ ys
  one_way None None [] [] e p q = refl
  one_way None None [] (d ∷ ys) e p q = absurd q
  one_way None None (c ∷ xs) ys e p q = absurd p
  one_way None (Some v) xs ys e p q = absurd cc
  one_way (Some w) None xs ys e p q = absurd cc
  one_way (Some w) (Some v) [] [] e p q = refl
  one_way (Some w) (Some v) [] (d ∷ ys) e p q =
      let s : w ≡ v = cc in absurd (rail_apart net sound.wired p.0 p.1 d q.0 q.1 (subst (λ x. IsIn x (outs q.0)) (sym s ∙ sym p.2) q.2))
  one_way (Some w) (Some v) (c ∷ xs) [] e p q =
      let s : w ≡ v = cc in absurd (rail_apart net sound.wired q.0 q.1 c p.0 p.1 (subst (λ x. IsIn x (outs p.0)) (s ∙ sym q.2) p.2))
  one_way (Some w) (Some v) (c ∷ xs) (d ∷ ys) e p q =
      let s : w ≡ v = cc in
      let u = unique net sound.wired w c d p.0 q.0 p.1 q.1 p.2 (subst (λ x. IsIn x (outs q.0)) (sym s) q.2) in
      let came = comes_same f g p.0 (λ wire i. same wire ((named_below net).of_reads p.0 (IsIn-place p.0 net.cells c p.1) wire i)) ∙ ap (comes_by g) u.1 in
      let rest = one_way (comes_by f p.0) (comes_by g q.0) xs ys came p.3 q.3 in
      let head = u.0 in cc

  one_latest : (l m : Option ℕ) (x y : PlainBound) → IsLatestPath net f l x → IsLatestPath net g m y
      → (x.time ≡ y.time) × (map (λ (cell : CellId). cell.number) x.path ≡ map (λ (cell : CellId). cell.number) y.path)
  one_latest None None x y p q = (p.1 ∙ sym q.1, ap (map (λ (cell : CellId). cell.number)) (p.2 ∙ sym q.2))
  one_latest None (Some v) x y p q = let z = p.0 in let b = q.0.below in absurd (omega arith)
  one_latest (Some w) None x y p q = let z = q.0 in let b = p.0.below in absurd (omega arith)
  one_latest (Some w) (Some v) x y p q =
      let at_w = same w p.0.below in
      let at_v = same v q.0.below in
      let less = p.0.most v q.0.below in
      let more = q.0.most w p.0.below in
      let low = p.0.lowest v q.0.below (omega arith) in
      let high = q.0.lowest w p.0.below (omega arith) in
      let s : w ≡ v = omega arith in
      let back = one_way (Some w) (Some v) _ _ (ap (λ k. Some k) s) p.2 q.2 in (
        p.1 ∙ (at_w ∙ (ap g s ∙ sym q.1)),
        sym (reverse-reverse (map (λ (cell : CellId). cell.number) x.path)) ∙ (ap reverse back ∙ reverse-reverse (map (λ (cell : CellId). cell.number) y.path)),
      )

pub one_bound : DrivingCellsAreUnique → WiresAreGrounded → OneBound
one_bound unique grounded net sound delays one other p q =
    one_latest unique net sound p.arrival q.arrival (λ wire lt. agree delays net p.arrival q.arrival p.arrivals q.arrivals wire (grounded net sound wire lt)) p.latest q.latest one other p.is q.is

pub lags_of_rails : LagsOfRails
lags_of_rails net sound delays rail i = rail_lag net sound.wired delays rail i

pub lags_of_cells : DrivingCellsAreUnique → LagsOfCells
lags_of_cells unique net sound delays cell i wire out =
    let at = place_of cell net.cells i in lag_of_driver unique delays net sound.wired wire at.0 cell at.1 out

pub emissions_have_lags : DrivingCellsAreUnique → EmissionsHaveLags
emissions_have_lags unique net sound delays state wire other i =
    let p = cells_pass net.cells state.cell_states wire other i in
    (p.cell, p.among, p.kind, p.read, p.out, lags_of_cells unique net sound delays p.cell p.among other p.out)
