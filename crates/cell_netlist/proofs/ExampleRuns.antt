-- The examples' runs, by computation.
use Rattle.std.proofs.Common.{[], ◌∷◌, refl}
use Rattle.cell_netlist.specs.declared.kinds.Phase.TheVariants.{Excite, Relax}
use Rattle.cell_netlist.specs.ExampleNetlists.{toggle, half_adder, constant_one}
use Rattle.cell_netlist.specs.ExampleRuns.{two_empty, ToggleIsSound, ToggleRuns, ones, HalfAdderIsSound, HalfAdderIsLean, HalfAdderRuns, HalfAdderPlaces, HalfAdderAsks, ConstantRuns, UpsetsAreSeen}
use Rattle.cell_netlist.proofs.SoundDecisions.{is_sound-at}
use Rattle.cell_netlist.proofs.LeanDecisions.{is_lean-at}
use Rattle.cell_netlist.proofs.ComputedRuns.{settles, rests, phases}

pub toggle_is_sound : ToggleIsSound
toggle_is_sound = is_sound-at toggle refl

pub half_adder_is_sound : HalfAdderIsSound
half_adder_is_sound = is_sound-at half_adder refl

pub half_adder_is_lean : HalfAdderIsLean
half_adder_is_lean = is_lean-at half_adder refl

pub toggle_runs : ToggleRuns
toggle_runs =
    let one = 1 ∷ 4 ∷ 2 ∷ 3 ∷ [] in
    let two = 0 ∷ 4 ∷ [] in
    let three = 0 ∷ [] in
    let four = 1 ∷ 3 ∷ 2 ∷ [] in (
      settles toggle two_empty (phases (one ∷ [])) 0 Excite _ _ _ refl refl refl refl refl refl,
      rests toggle two_empty (phases (one ∷ two ∷ [])) 0 Relax _ _ _ refl refl refl refl refl refl refl,
      settles toggle two_empty (phases (one ∷ two ∷ three ∷ [])) 1 Excite _ _ _ refl refl refl refl refl refl,
      rests toggle two_empty (phases (one ∷ two ∷ three ∷ four ∷ [])) 1 Relax _ _ _ refl refl refl refl refl refl refl,
    )

pub half_adder_runs : HalfAdderRuns
half_adder_runs =
    let one = 0 ∷ 2 ∷ 5 ∷ 7 ∷ 10 ∷ 6 ∷ 4 ∷ 8 ∷ [] in
    let other = 2 ∷ 7 ∷ 10 ∷ 6 ∷ 0 ∷ 5 ∷ 4 ∷ 8 ∷ [] in (
      settles half_adder ones (phases (one ∷ [])) 0 Excite _ _ _ refl refl refl refl refl refl,
      settles half_adder ones (phases (other ∷ [])) 0 Excite _ _ _ refl refl refl refl refl refl,
      rests half_adder ones (phases (one ∷ (3 ∷ 9 ∷ 11 ∷ 1 ∷ []) ∷ [])) 0 Relax _ _ _ refl refl refl refl refl refl refl,
      rests half_adder ones (phases (other ∷ (1 ∷ 9 ∷ 3 ∷ 11 ∷ []) ∷ [])) 0 Relax _ _ _ refl refl refl refl refl refl refl,
    )

pub half_adder_places : HalfAdderPlaces
half_adder_places = (refl, refl, refl, refl, refl, refl, refl, refl, refl, refl, refl, refl, refl, refl)

pub half_adder_asks : HalfAdderAsks
half_adder_asks = (refl, refl, refl)

pub constant_runs : ConstantRuns
constant_runs = (
  is_sound-at constant_one refl,
  settles constant_one two_empty (phases ((0 ∷ []) ∷ [])) 0 Excite _ _ _ refl refl refl refl refl refl,
  rests constant_one two_empty (phases ((0 ∷ []) ∷ (1 ∷ []) ∷ [])) 0 Relax _ _ _ refl refl refl refl refl refl refl,
  settles constant_one two_empty (phases ((0 ∷ []) ∷ (1 ∷ []) ∷ (0 ∷ []) ∷ [])) 1 Excite _ _ _ refl refl refl refl refl refl,
)

pub upsets_are_seen : UpsetsAreSeen
upsets_are_seen = ((_, refl, refl), (_, refl, refl), (_, refl, refl), (_, refl, refl), (_, refl, refl), refl)
