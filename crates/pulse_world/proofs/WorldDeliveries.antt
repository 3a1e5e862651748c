-- What a delivery does to the engine's world.
use Rattle.std.proofs.Common.{◌≡◌, ◌+◌, ◌-◌, ◌≤◌, ◌<◌, ℕ, Bool, Option, Some, None, List, [], ◌∷◌, ◌++◌, map, length, replicate, slice_get, slice_set, slice_index, ap, sym, ◌∙◌, subst, inl, inr, arith, refl, if◌then◌else◌, ◌==◌}
use Rattle.std.specs.List.{swap_remove}
use Rattle.std.proofs.Math.Path.{fun_ext}
use Rattle.cell_netlist.specs.declared.kinds.Phase.{Phase}
use Rattle.cell_netlist.specs.declared.kinds.Phase.TheVariants.{Excite, Relax}
use Rattle.cell_netlist.specs.declared.lines.Reader.{Reader}
use Rattle.pulse_ids.specs.Lists.{IsIn, occurrences}
use Rattle.cell_netlist.specs.Netlists.{PlainNetlist, number_of_wires}
use Rattle.cell_netlist.specs.Places.{readers}
use Rattle.cell_netlist.specs.World.{State, Reaction, start, preloaded, cleared, opening_pulses, Delivered, deliver}
use Rattle.cell_netlist.specs.OneReader.{after_reaction, after_count, delivered_to, DeliveryIsToReader, MomentsKeepShape}
use Rattle.cell_netlist.specs.Sound.{IsSound}
use Rattle.pulse_ids.proofs.CallerLemmas.{IsIn-place}
use Rattle.pulse_ids.proofs.CallerLemmasOnCounts.{occurrences-append, IsIn-occurrences, test_same, test_other}
use Rattle.std.proofs.lemmas.Bool.{cases_lt, cases_eq}
use Rattle.cell_netlist.specs.declared.kinds.CellState.{CellState}
use Rattle.pulse_world.specs.PendingQueues.{HasRoomFor}
use Rattle.pulse_world.specs.Worlds.{PlainWorld, world_of, state_of, phase_of, opened_world, IsWorld}
use Rattle.pulse_world.proofs.QueuePlaces.{occurrences-removed}
use Rattle.pulse_world.proofs.WorldMoments.{reached-live, reached-once, reached-delivery, reached-excite, reached-relax, none-pending}
use Rattle.pulse_world.proofs.QueueRoom.{zeros-of}

-- a world of these parts stands at the start
pub started : (net : PlainNetlist) (vector : List Bool) (cell_states : List CellState) (queue counted : List ℕ) (n : ℕ) → cell_states ≡ map preloaded net.cells
    → queue ≡ [] → counted ≡ replicate n 0 → n ≡ length net.output_rails → state_of (world_of net None vector cell_states queue counted) ≡ start net
started net vector cell_states queue counted n same none zeros rails = rw (same, none, zeros, zeros-of net.output_rails n rails) refl

module _ (world : PlainWorld) (is_world : IsWorld world) (place wire : ℕ) (at : slice_get world.queue place ≡ Some wire) where
  pending-there : occurrences wire world.queue ≡ 0 → ⊥
  pending-there none = let some = IsIn-occurrences wire world.queue (IsIn-place wire world.queue place at) in absurd (omega arith)

  -- a pending wire is one of the netlist
  pub pending-below : wire < number_of_wires world.net
  pending-below = elim (cases_lt wire (number_of_wires world.net)) [
    | inl below ↦ below
    | inr past ↦ absurd (pending-there ((reached-once world.net world.opened world.vector (state_of world) is_world.reached is_world.sound wire).1 past))
  ]

  -- it can be delivered
  pub pending-live : (after : State) × (deliver world.net (state_of world) wire ≡ Delivered after)
  pending-live = reached-live world.net world.opened world.vector (state_of world) is_world.reached is_world.sound wire pending-there

  -- which is what comes of it at its reader
  pub at-reader : DeliveryIsToReader → MomentsKeepShape → (reader : Reader) → readers world.net wire ≡ reader ∷ []
      → deliver world.net (state_of world) wire ≡ delivered_to world.net (state_of world) wire reader
  at-reader law shapes reader one =
      let here = is_world.reached in
      let shape = subst (λ (s : State). (length s.cell_states ≡ length world.net.cells) × (length s.counted ≡ length world.net.output_rails))
      here.stands.state_is (shapes world.net here.vectors here.moment here.stands.reached) in
      law world.net (state_of world) wire reader one shape.0 shape.1 pending-there

  -- the queue without the wire, and then what was emitted
  queue-after : (emitted : List ℕ) (other : ℕ)
      → (occurrences other world.queue - (if wire == other then 1 else 0)) + occurrences other emitted ≡ occurrences other (swap_remove world.queue place 0 ++ emitted)
  queue-after emitted other =
      let removed = occurrences-removed world.queue place wire 0 at other in
      let parts = occurrences-append other (swap_remove world.queue place 0) emitted in
      elim (cases_eq wire other) [
        | inl same ↦ let t = test_same wire other same in let u = test_same other wire (sym same) in omega arith
        | inr ne ↦ let t = test_other wire other ne in let u = test_other other wire (λ e. ne (sym e)) in omega arith
      ]

  -- at a cell
  pub cell-after : (c : ℕ) (o : Option Reaction) → deliver world.net (state_of world) wire ≡ after_reaction (state_of world) wire c o
      → (reacted : Reaction) × (o ≡ Some reacted)
      × (deliver world.net (state_of world) wire ≡ Delivered
      (state_of (record world { cell_states = slice_set world.cell_states c reacted.cell_state; queue = swap_remove world.queue place 0 ++ reacted.emitted })))
  cell-after c None e = let live = pending-live in let f = live.1 in absurd cc
  cell-after c (Some reacted) e = (
    reacted,
    refl,
    e ∙ ap (λ (pending : ℕ → ℕ). Delivered (record
        { cell_states = slice_set world.cell_states c reacted.cell_state; pending = pending; counted = world.counted })) (fun_ext (queue-after reacted.emitted)),
  )

  -- at an output rail
  pub rail-after : (r : ℕ) → deliver world.net (state_of world) wire ≡ after_count (state_of world) wire r
      → deliver world.net (state_of world) wire ≡ Delivered (state_of (record world { queue = swap_remove world.queue place 0; counted = slice_set world.counted r (slice_index world.counted r + 1) }))
  rail-after r e = e ∙ ap (λ (pending : ℕ → ℕ). Delivered (record { cell_states = world.cell_states; pending = pending; counted = slice_set world.counted r (slice_index world.counted r + 1) }))
      (fun_ext (λ other.
      let removed = occurrences-removed world.queue place wire 0 at other in
      elim (cases_eq wire other) [
        | inl same ↦ let t = test_same wire other same in let u = test_same other wire (sym same) in omega arith
        | inr ne ↦ let t = test_other wire other ne in let u = test_other other wire (λ e. ne (sym e)) in omega arith
      ]))

  -- a delivery leads to a world
  pub world-after : (next : PlainWorld) → next.net ≡ world.net → next.opened ≡ world.opened → next.vector ≡ world.vector
      → deliver world.net (state_of world) wire ≡ Delivered (state_of next) → IsWorld next
  world-after next net opened vector e = record {
    sound = subst IsSound (sym net) is_world.sound;
    few = rw net is_world.few;
    reached = rw (net, opened, vector) (reached-delivery world.net world.opened world.vector (state_of world) is_world.reached wire (state_of next) e);
    width = rw (net, vector) is_world.width;
  }

-- the queue of a world has room for its end
pub room-in : (world : PlainWorld) → IsWorld world → (before more : List ℕ) (bound : ℕ) → bound ≡ number_of_wires world.net → world.queue ≡ before ++ more
    → HasRoomFor (record { wires = before; bound = bound }) more
room-in world is_world before more bound is_bound e = record {
  once = λ w. subst (λ ws. occurrences w ws ≤ 1) e (reached-once world.net world.opened world.vector (state_of world) is_world.reached is_world.sound w).0;
  below = λ w i. elim (cases_lt w bound) [
    | inl below ↦ below
    | inr past ↦
        let none = (reached-once world.net world.opened world.vector (state_of world) is_world.reached is_world.sound w).1 (subst (λ n. n ≤ w) is_bound past) in
        let some = IsIn-occurrences w more i in
        let parts = occurrences-append w before more in
        let all = ap (occurrences w) e in absurd (omega arith)
  ];
}

pub excite-world : (world : PlainWorld) → IsWorld world → phase_of world.opened ≡ Relax → world.queue ≡ [] → (inputs : List Bool) → length inputs ≡ world.net.inputs
    → IsWorld (opened_world Excite inputs world)
excite-world world is_world relax none inputs width = record {
  sound = is_world.sound;
  few = is_world.few;
  reached = reached-excite world.net world.opened world.vector (state_of world) is_world.reached inputs relax (none-pending world.queue none);
  width = width;
}

pub relax-world : (world : PlainWorld) → IsWorld world → phase_of world.opened ≡ Excite → world.queue ≡ [] → IsWorld (opened_world Relax world.vector world)
relax-world world is_world excite none = record {
  sound = is_world.sound;
  few = is_world.few;
  reached = reached-relax world.net world.opened world.vector (state_of world) is_world.reached excite (none-pending world.queue none);
  width = is_world.width;
}

-- at each moment there is one state a cell and one count an output rail
pub world-shape : MomentsKeepShape → (world : PlainWorld) → IsWorld world
    → (length world.cell_states ≡ length world.net.cells) × (length world.counted ≡ length world.net.output_rails)
world-shape shapes world is_world =
    let here = is_world.reached in
    subst (λ (s : State). (length s.cell_states ≡ length world.net.cells) × (length s.counted ≡ length world.net.output_rails)) here.stands.state_is
    (shapes world.net here.vectors here.moment here.stands.reached)

-- the engine's world after the opening of a phase
pub opened-is : (world : PlainWorld) (phase : Phase) (vector its : List Bool) (cell_states : List CellState) (queue counted : List ℕ) → its ≡ vector
    → cell_states ≡ map cleared world.cell_states → queue ≡ opening_pulses world.net phase vector (state_of world) → counted ≡ map (λ _. 0) world.net.output_rails
    → world_of world.net (Some phase) its cell_states queue counted ≡ opened_world phase vector world
opened-is world phase vector its cell_states queue counted same clear wires zeros = rw (same, clear, wires, zeros) refl

-- no wire stands twice in a world's queue, and only wires of the netlist do
pub queue-once : (world : PlainWorld) → IsWorld world → (wire : ℕ) → occurrences wire world.queue ≤ 1
queue-once world is_world wire = (reached-once world.net world.opened world.vector (state_of world) is_world.reached is_world.sound wire).0

pub queue-below : (world : PlainWorld) → IsWorld world → (wire : ℕ) → IsIn wire world.queue → wire < number_of_wires world.net
queue-below world is_world wire i = elim (cases_lt wire (number_of_wires world.net)) [
  | inl below ↦ below
  | inr past ↦
      let none = (reached-once world.net world.opened world.vector (state_of world) is_world.reached is_world.sound wire).1 past in
      let some = IsIn-occurrences wire world.queue i in absurd (omega arith)
]
