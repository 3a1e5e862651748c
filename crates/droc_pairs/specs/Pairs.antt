-- What beginning and finishing a latch pair does to a netlist.
use Rattle.std.specs.Prelude.{◌≡◌, ◌+◌, ℕ, Bool, not, Option, Some, None, [], ◌∷◌, ◌++◌, length, slice_get, if◌then◌else◌}
use Rattle.pulse_ids.specs.Ids.{WireId, numbered}
use Rattle.cell_netlist.specs.declared.kinds.Role.TheVariants.{Front, Back}
use Rattle.cell_netlist.specs.declared.lines.Cell.{Cell}
use Rattle.cell_netlist.specs.declared.lines.Cell.TheVariants.{Droc}
use Rattle.cell_netlist.specs.Netlists.{PlainNetlist, number_of_wires, cells_with_feed}
use Rattle.cell_netlist.specs.Sound.{IsDrocOf, FitsRole}

-- an output on a wire, where it is asked for
abbrev pub asked_output : Bool → ℕ → Option WireId
asked_output asked wire = if asked then Some (numbered wire) else None

-- how many wires an asked output takes
abbrev pub wires_for : Bool → ℕ
wires_for asked = if asked then 1 else 0

-- a back with this preload whose asked outputs are on the next wires, `q` before `n`; its feed is 0 until the pair
-- is finished
abbrev pub begun_back : ℕ → Bool → Bool → Bool → Cell
begun_back next init q n = Droc Back init (numbered 0) (asked_output q next) (asked_output n (next + wires_for q))

-- a back with this preload stands at the place
pub record StandsBack (net : PlainNetlist) (place : ℕ) (init : Bool) : Type 0 where
  pub feed : WireId
  pub q : Option WireId
  pub n : Option WireId
  pub is : slice_get net.cells place ≡ Some (Droc Back init feed q n)

-- the front of a latch of this first bit: it takes a wire and drives the link
abbrev pub front_of : Bool → ℕ → ℕ → Cell
front_of init next link = Droc Front (not init) (numbered next) (Some (numbered link)) None

-- the netlist with a front more, whose `q` is on the next wire and feeds the back at the place
abbrev pub with_front : PlainNetlist → ℕ → Bool → ℕ → PlainNetlist
with_front net place init next = record net {
  cells = cells_with_feed place (numbered (number_of_wires net)) (net.cells ++ front_of init next (number_of_wires net) ∷ []);
}

-- The back at a place has got its front: the front is added behind, the back's feed is the front's `q`, on a new
-- wire, and no other line is changed. Both fit their roles, and the back has the first bit, the front its complement.
pub record IsPair (old new : PlainNetlist) (place : ℕ) (init : Bool) (next : ℕ) : Type 0 where
  pub is : new ≡ with_front old place init next
  pub wires : number_of_wires new ≡ number_of_wires old + 1
  pub back : Cell
  pub back_at : slice_get new.cells place ≡ Some back
  pub back_is : IsDrocOf back Back init (number_of_wires old)
  pub back_fits : FitsRole new back
  pub front_at : slice_get new.cells (length old.cells) ≡ Some (front_of init next (number_of_wires old))
  pub front_fits : FitsRole new (front_of init next (number_of_wires old))
