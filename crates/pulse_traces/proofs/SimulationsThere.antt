-- Vectors of a netlist's width can be simulated, in every order and by all scripts.
use Rattle.std.proofs.Common.{◌≡◌, ◌+◌, ◌≤◌, ℕ, suc, Bool, false, Option, Some, None, List, [], ◌∷◌, ◌++◌, map, length, replicate, Result, Ok, Err, ap, sym, ◌∙◌, subst, inl, inr, arith, refl}
use Rattle.std.proofs.lemmas.List.{length-replicate}
use Rattle.pulse_ids.specs.declared.quantities.Quantity.TheVariants.{Wires}
use Rattle.pulse_ids.specs.Lists.{IsIn}
use Rattle.pulse_ids.specs.Quantities.{greatest_of}
use Rattle.cell_netlist.specs.declared.kinds.Phase.TheVariants.{Excite, Relax}
use Rattle.cell_netlist.specs.Netlists.{PlainNetlist, number_of_wires}
use Rattle.cell_netlist.specs.Runs.{beginning}
use Rattle.cell_netlist.specs.Sound.{IsSound}
use Rattle.cell_netlist.specs.World.{preloaded}
use Rattle.pulse_ids.proofs.CallerLemmas.{IsIn-from_map}
use Rattle.pulse_world.specs.WorldMoments.{StartIsBeginning, ExciteIsOpened, RelaxIsOpened}
use Rattle.pulse_world.specs.Worlds.{PlainWorld, world_of, opened_world, IsWorld}
use Rattle.schedule_replay.specs.declared.replaying.ScriptFault.{ScriptFault}
use Rattle.schedule_replay.specs.Settling.{Anywhere, DeliveriesKeep}
use Rattle.schedule_replay.specs.Orders.{Cycle, vector_of, MakesCycle, MakesCycles, IsBetween, CyclesThere}
use Rattle.schedule_replay.specs.Replaying.{Replays, ScriptsEnd, OneReplay}
use Rattle.schedule_replay.proofs.CallerLemmas.{at_any_place, excited_world}
use Rattle.pulse_traces.specs.declared.scripts.CycleFault.{CycleFault}
use Rattle.pulse_traces.specs.EveryOrder.{SimulationsExist, ReplaysExist}
use Rattle.pulse_traces.specs.Orders.{place_of}
use Rattle.pulse_traces.specs.Scripts.{StopsAt}
use Rattle.pulse_traces.specs.Simulations.{IsStart}
use Rattle.pulse_traces.proofs.OneText.{relaxed-is, made-between}
use Rattle.pulse_traces.proofs.OrderCycles.{place-below}

-- a world at the start of a netlist
abbrev start_world : PlainNetlist → PlainWorld
start_world net = world_of net None (replicate net.inputs false) (map preloaded net.cells) [] (map (λ _. 0) net.output_rails)

start-is : (net : PlainNetlist) → IsStart net (start_world net)
start-is net = record { net_is = refl; starts = refl; settled = refl; unopened = refl }

start-between : StartIsBeginning → (net : PlainNetlist) → IsSound net → number_of_wires net ≤ greatest_of Wires → IsBetween (start_world net)
start-between begins net sound few = record {
  world = record {
    sound = sound;
    few = few;
    reached = record { vectors = []; moment = beginning net; stands = begins (start_world net) refl refl };
    width = length-replicate net.inputs false;
  };
  phase = refl;
  settled = refl;
}

pub simulations_exist : StartIsBeginning → CyclesThere → SimulationsExist
simulations_exist begins cycles_there order net asked can =
    let there = cycles_there (place_of order) (place-below order) (map vector_of asked) 0 (start_world net) (start-between begins net can.sound can.few) fits in
    (there.0, record { first = start_world net; starts = start-is net; last = there.1; of_vectors = there.2; made = there.3 })
  where
    fits : (vector : List Bool) → IsIn vector (map vector_of asked) → length vector ≡ net.inputs
    fits vector i =
        let c = IsIn-from_map vector_of vector asked i in subst (λ (v : List Bool). length v ≡ net.inputs) c.2 (can.width c.0 c.1)

module _ (ends : ScriptsEnd) (one_replay : OneReplay) (keep : DeliveriesKeep) (relaxes : RelaxIsOpened) (excites : ExciteIsOpened) where
  -- how far the scripts come
  record Comes (number : ℕ) (before : PlainWorld) (asked : List Cycle) : Type 0 where
    pub made : List Cycle
    pub left : List Cycle
    pub last : PlainWorld
    pub fault : Option CycleFault
    pub parts : asked ≡ made ++ left
    pub makes : MakesCycles Anywhere 0 before made last
    pub stops : StopsAt (number + length made) last left fault

  stopped : (number : ℕ) (before : PlainWorld) (c : Cycle) (asked : List Cycle) (fault : CycleFault) → StopsAt (number + 0) before (c ∷ asked) (Some fault)
      → Comes number before (c ∷ asked)
  stopped number before c asked fault stops =
      record { made = []; left = c ∷ asked; last = before; fault = Some fault; parts = refl; makes = refl; stops = stops }

  at-any : (step other : ℕ) (cycles : List Cycle) (before after : PlainWorld) → MakesCycles Anywhere step before cycles after → MakesCycles Anywhere other before cycles after
  at-any step other [] before after h = h
  at-any step other (c ∷ cycles) before after (mid, made, rest) = (
    mid,
    record {
      middle = made.middle;
      excites = at_any_place Anywhere step other c.excite (opened_world Excite c.vector before) made.middle made.excites;
      rests = made.rests;
      relaxes = at_any_place Anywhere (step + length c.excite) (other + length c.excite) c.relax (opened_world Relax c.vector made.middle) mid made.relaxes;
      settled = made.settled;
    },
    at-any (step + length c.excite + length c.relax) (other + length c.excite + length c.relax) cycles mid after rest,
  )

  longer : (number : ℕ) (before mid : PlainWorld) (c : Cycle) (asked : List Cycle) → MakesCycle Anywhere 0 before c mid → Comes (suc number) mid asked
      → Comes number before (c ∷ asked)
  longer number before mid c asked made more = record {
    made = c ∷ more.made;
    left = more.left;
    last = more.last;
    fault = more.fault;
    parts = ap (λ l. c ∷ l) more.parts;
    makes = (mid, made, at-any 0 (0 + length c.excite + length c.relax) more.made mid more.last more.makes);
    stops = let count : suc number + length more.made ≡ number + suc (length more.made) = omega arith in
        subst (λ n. StopsAt n more.last more.left more.fault) count more.stops;
  }

  -- from the world after a cycle on
  abbrev Onward : ℕ → PlainWorld → List Cycle → Type 0
  Onward number before asked = (after : PlainWorld) → IsBetween after → after.net ≡ before.net → Comes (suc number) after asked

  module _ (number : ℕ) (before : PlainWorld) (c : Cycle) (asked : List Cycle) (is : IsWorld (opened_world Excite c.vector before)) where
    by-relax : (middle : PlainWorld) → Replays (opened_world Excite c.vector before) c.excite middle (Ok tt)
        → (after : PlainWorld) (result : Result Unit ScriptFault) → Replays (opened_world Relax c.vector middle) c.relax after result → Onward number before asked
        → Comes number before (c ∷ asked)
    by-relax middle ok after (Err fault) replays onward =
        stopped number before c asked (record { cycle = number + 0; phase = Relax; fault = fault }) (refl, (middle, ok, after, replays))
    by-relax middle ok after (Ok done) replays onward =
        let next = made-between one_replay keep relaxes excites before c is after (middle, ok, replays) in
        let made : MakesCycle Anywhere 0 before c after = record {
          middle = middle;
          excites = ok.0;
          rests = ok.1;
          relaxes = at_any_place Anywhere 0 (0 + length c.excite) c.relax (opened_world Relax c.vector middle) after replays.0;
          settled = replays.1;
        } in
        longer number before after c asked made (onward after next.0 next.1)

    by-excite : (middle : PlainWorld) (result : Result Unit ScriptFault) → Replays (opened_world Excite c.vector before) c.excite middle result
        → Onward number before asked → Comes number before (c ∷ asked)
    by-excite middle (Err fault) replays onward =
        stopped number before c asked (record { cycle = number + 0; phase = Excite; fault = fault }) (refl, (middle, replays))
    by-excite middle (Ok done) replays onward =
        let second = ends (opened_world Relax c.vector middle) c.relax (relaxed-is one_replay keep relaxes excites before c is middle replays) in
        by-relax middle replays second.0 second.1 second.2 onward

  module _ (net : PlainNetlist) where
    comes : (number : ℕ) (before : PlainWorld) → IsBetween before → before.net ≡ net → (asked : List Cycle)
        → ((cycle : Cycle) → IsIn cycle asked → length cycle.vector ≡ net.inputs) → Comes number before asked
    comes number before between e [] width = record { made = []; left = []; last = before; fault = None; parts = refl; makes = refl; stops = tt }
    comes number before between e (c ∷ asked) width =
        let is = excited_world excites before c.vector between (width c (inl refl) ∙ ap (λ (n : PlainNetlist). n.inputs) (sym e)) in
        let first = ends (opened_world Excite c.vector before) c.excite is in
        by-excite number before c asked is first.0 first.1 first.2
        (λ after next same. comes (suc number) after next (same ∙ e) asked (λ x i. width x (inr i)))

  pub replays_exist : StartIsBeginning → ReplaysExist
  replays_exist begins net asked can =
      let c = comes net 0 (start_world net) (start-between begins net can.sound can.few) refl asked can.width in
      let count : 0 + length c.made ≡ length c.made = omega arith in (
        c.made,
        c.fault,
        record {
          first = start_world net;
          starts = start-is net;
          up_to = record {
            last = c.last;
            left = c.left;
            parts = c.parts;
            makes = c.makes;
            stops = subst (λ n. StopsAt n c.last c.left c.fault) count c.stops;
          };
        },
      )
