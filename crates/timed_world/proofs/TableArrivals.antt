-- A table of the cells' arrivals gives those of the wires.
use Rattle.std.proofs.Common.{◌⊎◌, ◌≡◌, ◌≤◌, ℕ, inl, inr, Some, List, [], ◌∷◌, length, get_or, slice_get, refl, sym, ap, subst, ◌∙◌, arith}
use Rattle.std.specs.Prelude.{option_and_then}
use Rattle.pulse_ids.specs.Ids.{WireId, CellId, numbered}
use Rattle.pulse_ids.specs.Lists.{IsIn}
use Rattle.pulse_ids.proofs.CallerLemmas.{place_of}
use Rattle.cell_netlist.specs.declared.lines.Rail.{Rail}
use Rattle.cell_netlist.specs.declared.lines.Cell.{Cell}
use Rattle.cell_netlist.specs.declared.lines.Cell.TheVariants.{La, Fa, Split, Droc}
use Rattle.cell_netlist.specs.declared.lines.Driver.{Driver}
use Rattle.cell_netlist.specs.declared.lines.Driver.TheVariants.{Input, Out, Left, Right, Q, N}
use Rattle.cell_netlist.specs.Netlists.{PlainNetlist, wire_of, outs, IsDroc}
use Rattle.cell_netlist.specs.OneReader.{PlacesAreCounted}
use Rattle.cell_netlist.specs.Places.{drivers, IsDriverOf, output_at, output_of, wire_driven_at}
use Rattle.cell_netlist.specs.Sound.{IsSound}
use Rattle.cell_netlist.proofs.CallerLemmas.{driver-is, out-driver, driven_once}
use Rattle.timed_world.specs.ArrivalTables.{place_arrival, first_arrival, table_arrival, cell_arrival, AreCellArrivals}
use Rattle.timed_world.specs.Bounds.{AreArrivals}
use Rattle.timed_world.specs.Delays.{PlainDelays}

only_one : {X : Type 0} (x : X) (xs : List X) → IsIn x xs → length xs ≤ 1 → xs ≡ x ∷ []
only_one x [] i few = absurd i
only_one x (y ∷ []) (inl e) few = ap (λ z. z ∷ []) e
only_one x (y ∷ []) (inr i) few = absurd i
only_one x (y ∷ z ∷ xs) i few = absurd (omega arith)

-- at a place of an LA, FA or splitter the arrival stands in the table
pub gate_arrival : (delays : PlainDelays) (table : List ℕ) (place : Driver) (id : CellId) → (place ≡ Out id) ⊎ ((place ≡ Left id) ⊎ (place ≡ Right id))
    → place_arrival delays table place ≡ get_or table id.number 0
gate_arrival delays table place id (inl e) = ap (place_arrival delays table) e
gate_arrival delays table place id (inr (inl e)) = ap (place_arrival delays table) e
gate_arrival delays table place id (inr (inr e)) = ap (place_arrival delays table) e

no_droc_out : (wire : WireId) (x : Cell) (id : CellId) → output_at x (Out id) ≡ Some wire → IsDroc x → ⊥
no_droc_out wire (La a b o) id e d = d
no_droc_out wire (Fa a b o) id e d = d
no_droc_out wire (Split f l r) id e d = d
no_droc_out wire (Droc role preload feed q n) id e d = cc

no_droc_left : (wire : WireId) (x : Cell) (id : CellId) → output_at x (Left id) ≡ Some wire → IsDroc x → ⊥
no_droc_left wire (La a b o) id e d = d
no_droc_left wire (Fa a b o) id e d = d
no_droc_left wire (Split f l r) id e d = d
no_droc_left wire (Droc role preload feed q n) id e d = cc

no_droc_right : (wire : WireId) (x : Cell) (id : CellId) → output_at x (Right id) ≡ Some wire → IsDroc x → ⊥
no_droc_right wire (La a b o) id e d = d
no_droc_right wire (Fa a b o) id e d = d
no_droc_right wire (Split f l r) id e d = d
no_droc_right wire (Droc role preload feed q n) id e d = cc

droc_q : (delays : PlainDelays) (net : PlainNetlist) (table : List ℕ) (wire : WireId) (x : Cell) (id : CellId) → output_at x (Q id) ≡ Some wire → delays.droc ≡ cell_arrival delays net table x
droc_q delays net table wire (La a b o) id e = absurd cc
droc_q delays net table wire (Fa a b o) id e = absurd cc
droc_q delays net table wire (Split f l r) id e = absurd cc
droc_q delays net table wire (Droc role preload feed q n) id e = omega arith

droc_n : (delays : PlainDelays) (net : PlainNetlist) (table : List ℕ) (wire : WireId) (x : Cell) (id : CellId) → output_at x (N id) ≡ Some wire → delays.droc ≡ cell_arrival delays net table x
droc_n delays net table wire (La a b o) id e = absurd cc
droc_n delays net table wire (Fa a b o) id e = absurd cc
droc_n delays net table wire (Split f l r) id e = absurd cc
droc_n delays net table wire (Droc role preload feed q n) id e = omega arith

module _ (counted : PlacesAreCounted) (net : PlainNetlist) (sound : IsSound net) where
  -- the one place that drives a wire
  pub driven_at : (wire : ℕ) (place : Driver) → wire_driven_at net place ≡ Some (numbered wire) → drivers net wire ≡ place ∷ []
  driven_at wire place e = only_one place (drivers net wire) ((driver-is net (numbered wire) place).1 e)
      (let c = (counted net wire).0 in let o = driven_once net sound.wired wire in omega arith)

  module _ (delays : PlainDelays) (table : List ℕ) where
    pub arrival_at : (wire : ℕ) (place : Driver) → wire_driven_at net place ≡ Some (numbered wire) → table_arrival delays net table wire ≡ place_arrival delays table place
    arrival_at wire place e = ap (first_arrival delays table) (driven_at wire place e)

    rail_arrival : (rail : Rail) → IsIn rail net.input_rails → table_arrival delays net table (wire_of rail) ≡ 0
    rail_arrival rail i =
        let at = place_of rail net.input_rails i in
        arrival_at (wire_of rail) (Input (numbered at.0)) (rail_there at.0 at.1)
      where
        rail_there : (r : ℕ) → slice_get net.input_rails r ≡ Some rail → wire_driven_at net (Input (numbered r)) ≡ Some rail.wire
        rail_there r e = rw e refl

    -- an output of a cell arrives when the table says so, and one of a DROC after its delay
    out_arrival : (c : ℕ) (cell : Cell) (wire : ℕ) → slice_get net.cells c ≡ Some cell → IsIn wire (outs cell)
        → AreCellArrivals delays net table → table_arrival delays net table wire ≡ cell_arrival delays net table cell
    out_arrival c cell wire at out are =
        let found = out-driver net (numbered wire) c cell at out in
        arrival_at wire found.0 found.2 ∙ value_at found.0 found.1 found.2
      where
        cell_there : (id : ℕ) (place : Driver) → id ≡ c → output_of net.cells id place ≡ Some (numbered wire) → output_at cell place ≡ Some (numbered wire)
        cell_there id place same e =
            let there : slice_get net.cells id ≡ Some cell = subst (λ k. slice_get net.cells k ≡ Some cell) (sym same) at in
            sym (ap (λ o. option_and_then (λ x. output_at x place) o) there) ∙ e

        value_at : (place : Driver) → IsDriverOf place c → wire_driven_at net place ≡ Some (numbered wire) → place_arrival delays table place ≡ cell_arrival delays net table cell
        value_at (Input id) own on = absurd own
        value_at (Out id) own on = ap (λ k. get_or table k 0) own ∙ are.passing c cell at (no_droc_out (numbered wire) cell id (cell_there id.number (Out id) own on))
        value_at (Left id) own on = ap (λ k. get_or table k 0) own ∙ are.passing c cell at (no_droc_left (numbered wire) cell id (cell_there id.number (Left id) own on))
        value_at (Right id) own on = ap (λ k. get_or table k 0) own ∙ are.passing c cell at (no_droc_right (numbered wire) cell id (cell_there id.number (Right id) own on))
        value_at (Q id) own on = droc_q delays net table (numbered wire) cell id (cell_there id.number (Q id) own on)
        value_at (N id) own on = droc_n delays net table (numbered wire) cell id (cell_there id.number (N id) own on)

    pub arrivals_are : AreCellArrivals delays net table → AreArrivals delays net (table_arrival delays net table)
    arrivals_are are = record {
      of_rail = rail_arrival;
      of_cell = λ cell i wire out. let at = place_of cell net.cells i in out_arrival at.0 cell wire at.1 out are;
    }
