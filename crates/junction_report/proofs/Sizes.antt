-- The greatest measure of all walks, and the path that is found.
use Rattle.std.proofs.Common.{◌≡◌, ◌≤◌, ◌<◌, ℕ, inl, inr, Option, Some, None, List, [], ◌∷◌, length, reverse, sym, ap, subst, ◌∙◌, arith}
use Rattle.std.specs.Prelude.{IfSome}
use Rattle.std.proofs.lemmas.Bool.{cases_lt}
use Rattle.std.proofs.lemmas.List.{length-map, length-reverse}
use Rattle.pulse_ids.specs.Ids.{CellId}
use Rattle.cell_netlist.specs.Netlists.{PlainNetlist}
use Rattle.cell_netlist.specs.Sound.{IsSound}
use Rattle.junction_report.specs.declared.depths.Measured.{Measured}
use Rattle.junction_report.specs.declared.depths.Measured.TheVariants.{Cells, Gates}
use Rattle.junction_report.specs.Walks.{IsPassing, IsWalk, IsGreatest, gates_on}
use Rattle.junction_report.specs.Paths.{IsPath}
use Rattle.cell_orders.specs.Needs.{listed}
use Rattle.junction_report.specs.Depths.{measure_of, most, AreDepths}
use Rattle.junction_report.specs.Reports.{numbers_of}
use Rattle.junction_report.specs.Traces.{IsLast, IsBackTo}
use Rattle.junction_report.proofs.Walking.{has_last, last_passes, length_is, greatest_by}
use Rattle.cell_orders.proofs.CallerLemmas.{cell_at}
use Rattle.junction_report.proofs.Tracing.{most_at, numbers_reversed, last_passing, path_found}
use Rattle.junction_report.proofs.Lowest.{most_found}

module _ (net : PlainNetlist) where
  -- the greatest of the depths is the greatest measure of all walks
  pub all_walks : (measured : Measured) (table : List ℕ) → AreDepths net measured table → IsGreatest (IsWalk net) (measure_of net measured) (most table)
  all_walks measured table d = elim (cases_lt 0 (most table)) [ inl some ↦ deep some | inr none ↦ flat none ]
    where
      no_greater : (walk : List ℕ) → IsWalk net walk → measure_of net measured walk ≤ most table
      no_greater [] w = omega arith
      no_greater (c ∷ rest) w =
          let last = has_last net c rest in
          let its = (d.passing last.0 (last_passes net (c ∷ rest) last.0 (w, last.1))).most (c ∷ rest) (w, last.1) in
          let m = most_at table last.0 in omega arith

      flat : most table ≤ 0 → IsGreatest (IsWalk net) (measure_of net measured) (most table)
      flat none = record { walk = []; taken = tt; reached = omega arith; most = no_greater }

      deep : 0 < most table → IsGreatest (IsWalk net) (measure_of net measured) (most table)
      deep some =
          let found = most_found table (omega arith) in
          let at = cell_at net.cells found.0 (omega (arith, found.1, d.width)) in
          let passing : IsPassing net found.0 = record {
            cell = at.0;
            at = at.1;
            kind = λ k. let z = d.droc found.0 at.0 at.1 k in let e = found.2 in absurd (omega arith);
          } in
          let its = d.passing found.0 passing in
          record { walk = its.walk; taken = its.taken.0; reached = its.reached ∙ found.2; most = no_greater }

  pub most_cells : (table : List ℕ) → AreDepths net Cells table → IsGreatest (IsWalk net) length (most table)
  most_cells table d = greatest_by (IsWalk net) (measure_of net Cells) length (most table) (λ walk w. length_is net walk w) (all_walks Cells table d)

  pub most_gates : (table : List ℕ) → AreDepths net Gates table → IsGreatest (IsWalk net) (gates_on net) (most table)
  most_gates table d = all_walks Gates table d

  module _ (sound : IsSound net) (table : List ℕ) (d : AreDepths net Cells table) where
    pub lasts_pass : (last : Option CellId) → IsLast table last → IfSome last (λ cell. IsPassing net cell.number)
    lasts_pass None h = tt
    lasts_pass (Some cell) h = last_passing net table sound d cell h

    -- the cells that were found, turned round
    pub path_turned : (last : Option CellId) → IsLast table last → (cells turned : List CellId) → IsBackTo net table (listed last) (numbers_of cells) []
        → turned ≡ reverse cells → (_ : IsPath net (numbers_of turned)) × (length turned ≤ length net.cells)
    path_turned last h cells turned b e =
        let r = path_found net table sound d last h (numbers_of cells) b in
        let few = r.1 in
        let same = ap length e in
        let long = length-reverse cells in
        let mapped = length-map cells (λ (c : CellId). c.number) in
        (subst (IsPath net) (sym (ap numbers_of e ∙ numbers_reversed cells)) r.0, omega arith)
