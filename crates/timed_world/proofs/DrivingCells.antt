-- The cell that drives a wire, by the place that drives it.
use Rattle.std.proofs.Common.{◌≡◌, ◌<◌, ◌⊎◌, ℕ, inl, inr, Option, Some, None, [], ◌∷◌, length, slice_get, refl, sym, ap, subst}
use Rattle.std.specs.Prelude.{option_and_then, option_map}
use Rattle.std.proofs.lemmas.Option.{slice_get_within}
use Rattle.pulse_ids.specs.Ids.{WireId, CellId, RailId, numbered}
use Rattle.pulse_ids.specs.Lists.{IsIn}
use Rattle.pulse_ids.proofs.CallerLemmas.{IsIn-left, IsIn-right, IsIn-place, place_of}
use Rattle.cell_netlist.specs.declared.lines.Rail.{Rail}
use Rattle.cell_netlist.specs.declared.lines.Cell.{Cell}
use Rattle.cell_netlist.specs.declared.lines.Cell.TheVariants.{La, Fa, Split, Droc}
use Rattle.cell_netlist.specs.declared.lines.Driver.{Driver}
use Rattle.cell_netlist.specs.declared.lines.Driver.TheVariants.{Input, Out, Left, Right, Q, N}
use Rattle.cell_netlist.specs.Netlists.{PlainNetlist, wire_of, outs, used}
use Rattle.cell_netlist.specs.Places.{drivers, IsDriverOf, output_at, output_of, wire_driven_at}
use Rattle.cell_netlist.specs.WireLaws.{DrivingCellsAreUnique}
use Rattle.cell_netlist.specs.Wired.{IsWired}
use Rattle.cell_netlist.proofs.CallerLemmas.{driver-is, driver-only, out-driver}
use Rattle.timed_world.specs.Delays.{PlainDelays, delay_of, kind_of, lag}
use Rattle.timed_world.specs.Bounding.{DrivenBy, IsDriven, cell_of_place}
use Rattle.timed_world.proofs.LagLemmas.{zero_or_found, lag_of_driver}

-- what stands on an output is driven
on_used : (output : Option WireId) (wire : WireId) → output ≡ Some wire → IsIn wire.number (used output)
on_used None wire e = absurd cc
on_used (Some x) wire e = let s : x ≡ wire = cc in inl (ap (λ w. w.number) s)

out_of : (cell : Cell) (place : Driver) (wire : WireId) → output_at cell place ≡ Some wire → IsIn wire.number (outs cell)
out_of (La a b out) (Out id) wire e = let s : out ≡ wire = cc in inl (ap (λ w. w.number) s)
out_of (La a b out) (Input id) wire e = absurd cc
out_of (La a b out) (Left id) wire e = absurd cc
out_of (La a b out) (Right id) wire e = absurd cc
out_of (La a b out) (Q id) wire e = absurd cc
out_of (La a b out) (N id) wire e = absurd cc
out_of (Fa a b out) (Out id) wire e = let s : out ≡ wire = cc in inl (ap (λ w. w.number) s)
out_of (Fa a b out) (Input id) wire e = absurd cc
out_of (Fa a b out) (Left id) wire e = absurd cc
out_of (Fa a b out) (Right id) wire e = absurd cc
out_of (Fa a b out) (Q id) wire e = absurd cc
out_of (Fa a b out) (N id) wire e = absurd cc
out_of (Split from left right) (Left id) wire e = let s : left ≡ wire = cc in inl (ap (λ w. w.number) s)
out_of (Split from left right) (Right id) wire e = let s : right ≡ wire = cc in inr (inl (ap (λ w. w.number) s))
out_of (Split from left right) (Input id) wire e = absurd cc
out_of (Split from left right) (Out id) wire e = absurd cc
out_of (Split from left right) (Q id) wire e = absurd cc
out_of (Split from left right) (N id) wire e = absurd cc
out_of (Droc role preload feed q n) (Q id) wire e = IsIn-left wire.number (used q) (used n) (on_used q wire e)
out_of (Droc role preload feed q n) (N id) wire e = IsIn-right wire.number (used q) (used n) (on_used n wire e)
out_of (Droc role preload feed q n) (Input id) wire e = absurd cc
out_of (Droc role preload feed q n) (Out id) wire e = absurd cc
out_of (Droc role preload feed q n) (Left id) wire e = absurd cc
out_of (Droc role preload feed q n) (Right id) wire e = absurd cc

-- no cell drives the wire of an input rail
pub rail_apart : (net : PlainNetlist) → IsWired net → (rail : Rail) → IsIn rail net.input_rails → (c : ℕ) (cell : Cell) → slice_get net.cells c ≡ Some cell
    → IsIn (wire_of rail) (outs cell) → ⊥
rail_apart net wired rail i c cell at out =
    let r = place_of rail net.input_rails i in
    let its = out-driver net rail.wire c cell at out in
    let same = driver-only net rail.wire wired (Input (numbered r.0)) its.0 (ap (option_map (λ (x : Rail). x.wire)) r.1) its.2 in
    subst (λ p. IsDriverOf p c) (sym same) its.1

-- a place of an LA, FA or splitter
pub gate_place : (place : Driver) (id : CellId) → (place ≡ Out id) ⊎ ((place ≡ Left id) ⊎ (place ≡ Right id)) → cell_of_place place ≡ Some id.number
gate_place place id (inl e) = ap cell_of_place e
gate_place place id (inr (inl e)) = ap cell_of_place e
gate_place place id (inr (inr e)) = ap cell_of_place e

module _ (net : PlainNetlist) (wire : ℕ) where
  pub place_on : (place : Driver) → drivers net wire ≡ place ∷ [] → wire_driven_at net place ≡ Some (numbered wire)
  place_on place e = (driver-is net (numbered wire) place).0 (subst (λ l. IsIn place l) (sym e) (inl refl))

  found_at : (id : ℕ) (place : Driver) → output_of net.cells id place ≡ Some (numbered wire) → DrivenBy net wire id
  found_at id place e = go (slice_get net.cells id) refl e
    where
      go : (found : Option Cell) → slice_get net.cells id ≡ found → option_and_then (λ cell. output_at cell place) found ≡ Some (numbered wire) → DrivenBy net wire id
      go None f g = absurd cc
      go (Some cell) f g = record { cell = cell; at = f; out = out_of cell place (numbered wire) g }

  rail_found : (id : RailId) → wire_driven_at net (Input id) ≡ Some (numbered wire) → (rail : Rail) × IsIn rail net.input_rails × (wire_of rail ≡ wire)
  rail_found id e = go (slice_get net.input_rails id.number) refl e
    where
      go : (found : Option Rail) → slice_get net.input_rails id.number ≡ found → option_map (λ rail. rail.wire) found ≡ Some (numbered wire)
          → (rail : Rail) × IsIn rail net.input_rails × (wire_of rail ≡ wire)
      go None f g = absurd cc
      go (Some rail) f g =
          let s : rail.wire ≡ numbered wire = cc in
          (rail, IsIn-place rail net.input_rails id.number f, ap (λ w. w.number) s)

  -- the cell of the place that drives the wire, or else its input rail
  pub driven_at : (place : Driver) → drivers net wire ≡ place ∷ [] → IsDriven net (Some wire) (cell_of_place place)
  driven_at place e = go place (place_on place e)
    where
      go : (p : Driver) → wire_driven_at net p ≡ Some (numbered wire) → IsDriven net (Some wire) (cell_of_place p)
      go (Input id) on = rail_found id on
      go (Out id) on = found_at id.number (Out id) on
      go (Left id) on = found_at id.number (Left id) on
      go (Right id) on = found_at id.number (Right id) on
      go (Q id) on = found_at id.number (Q id) on
      go (N id) on = found_at id.number (N id) on

  pub driven_by : (place : Driver) (c : ℕ) → drivers net wire ≡ place ∷ [] → cell_of_place place ≡ Some c → DrivenBy net wire c
  driven_by place c e f = subst (IsDriven net (Some wire)) f (driven_at place e)

  pub driven_below : (c : ℕ) → DrivenBy net wire c → c < length net.cells
  driven_below c d = slice_get_within net.cells c d.cell d.at

-- what an input rail drives has no delay
pub rail_lag : (net : PlainNetlist) → IsWired net → (delays : PlainDelays) (rail : Rail) → IsIn rail net.input_rails → lag delays net (wire_of rail) ≡ 0
rail_lag net wired delays rail i = elim (zero_or_found delays net.cells (wire_of rail)) [
  | inl none ↦ none.1
  | inr found ↦ absurd (rail_apart net wired rail i found.place found.cell found.at found.out)
]

-- what a cell drives has the delay of the cell
pub cell_lag : DrivingCellsAreUnique → (net : PlainNetlist) (wire c : ℕ) → IsWired net → (delays : PlainDelays) (cell : Cell) → DrivenBy net wire c
    → slice_get net.cells c ≡ Some cell → lag delays net wire ≡ delay_of delays (kind_of cell)
cell_lag unique net wire c wired delays cell d at =
    let there = d.at in
    let same : d.cell ≡ cell = cc in
    lag_of_driver unique delays net wired wire c cell at (subst (λ x. IsIn wire (outs x)) same d.out)
