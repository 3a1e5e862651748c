-- A delivery at the one reader of its wire.
use Rattle.std.proofs.Common.{◌≡◌, ◌+◌, ◌≤◌, ◌<◌, ℕ, zero, suc, Some, List, [], ◌∷◌, ◌++◌, map, length, slice_get, slice_set, slice_index, ap, sym, ◌∙◌, subst, inl, inr, arith, refl, ◌==◌}
use Rattle.std.specs.List.{swap_remove}
use Rattle.std.proofs.lemmas.Bool.{cases_Bool}
use Rattle.std.proofs.lemmas.Option.{slice_get-get_or}
use Rattle.cell_netlist.proofs.CallerLemmasOnLists.{set-same}
use Rattle.pulse_ids.specs.Ids.{CellId, RailId, numbered}
use Rattle.cell_netlist.specs.declared.lines.Rail.{Rail}
use Rattle.cell_netlist.specs.declared.lines.Cell.{Cell}
use Rattle.cell_netlist.specs.declared.lines.Cell.TheVariants.{La, Fa, Split, Droc}
use Rattle.cell_netlist.specs.declared.lines.Reader.{Reader}
use Rattle.cell_netlist.specs.declared.lines.Reader.TheVariants.{A, B, From, Feed, Output}
use Rattle.pulse_ids.specs.Lists.{IsIn, occurrences}
use Rattle.cell_netlist.specs.Netlists.{PlainNetlist, wire_of}
use Rattle.cell_netlist.specs.Places.{At, reading, cell_places, rail_places, on_wire, reading_places, readers}
use Rattle.cell_netlist.specs.declared.kinds.CellState.{CellState}
use Rattle.cell_netlist.specs.World.{State, Reaction, Delivered, deliver}
use Rattle.cell_netlist.specs.OneReader.{reaction_at, after_reaction, delivered_to, DeliveryIsToReader, MomentsKeepShape}
use Rattle.pulse_ids.proofs.CallerLemmas.{IsIn-append}
use Rattle.cell_netlist.proofs.CallerLemmasOnRuns.{run_exists}
use Rattle.pulse_world.specs.declared.reacting.Target.TheVariants as targets
use Rattle.pulse_world.specs.Reacting.{target_at, emitted_by, emitted_at}
use Rattle.pulse_world.specs.Worlds.{PlainWorld, world_of, state_of, IsWorld}
use Rattle.pulse_world.proofs.DueWires.{follow_law}
use Rattle.pulse_world.proofs.RunMoments.{counts-are}
use Rattle.pulse_world.proofs.WorldDeliveries.{at-reader, cell-after, rail-after, world-after, world-shape}

-- an output rail's number of a place, and nothing else
abbrev IsInside : ℕ → Reader → Type 0
IsInside n (A id) = Unit
IsInside n (B id) = Unit
IsInside n (From id) = Unit
IsInside n (Feed id) = Unit
IsInside n (Output id) = id.number < n

-- the places on a wire are among the places
on-wire-in : (w : ℕ) (places : List (At Reader)) (reader : Reader) → IsIn reader (on_wire w places) → IsIn reader (map (λ at. at.1) places)
on-wire-in w [] reader h = absurd h
on-wire-in w (at ∷ places) reader h = elim (cases_Bool (w == at.0)) [
  | inl hit ↦
      let g : IsIn reader (at.1 ∷ on_wire w places) = rw hit at h in
      elim g [ inl here ↦ inl here | inr later ↦ inr (on-wire-in w places reader later) ]
  | inr miss ↦ let g : IsIn reader (on_wire w places) = rw miss at h in inr (on-wire-in w places reader g)
]

places-both : (xs ys : List (At Reader)) → map (λ at. at.1) (xs ++ ys) ≡ map (λ at. at.1) xs ++ map (λ at. at.1) ys
places-both [] ys = refl
places-both (x ∷ xs) ys = ap (λ zs. x.1 ∷ zs) (places-both xs ys)

cell-inside : (n c : ℕ) (cell : Cell) (reader : Reader) → IsIn reader (map (λ at. at.1) (reading c cell)) → IsInside n reader
cell-inside n c (La a b out) reader (inl e) = subst (IsInside n) e tt
cell-inside n c (La a b out) reader (inr (inl e)) = subst (IsInside n) e tt
cell-inside n c (La a b out) reader (inr (inr h)) = absurd h
cell-inside n c (Fa a b out) reader (inl e) = subst (IsInside n) e tt
cell-inside n c (Fa a b out) reader (inr (inl e)) = subst (IsInside n) e tt
cell-inside n c (Fa a b out) reader (inr (inr h)) = absurd h
cell-inside n c (Split from left right) reader (inl e) = subst (IsInside n) e tt
cell-inside n c (Split from left right) reader (inr h) = absurd h
cell-inside n c (Droc role preload feed q m) reader (inl e) = subst (IsInside n) e tt
cell-inside n c (Droc role preload feed q m) reader (inr h) = absurd h

cells-inside : (n c : ℕ) (cells : List Cell) (reader : Reader) → IsIn reader (map (λ at. at.1) (cell_places reading c cells)) → IsInside n reader
cells-inside n c [] reader h = absurd h
cells-inside n c (cell ∷ cells) reader h =
    elim (IsIn-append reader (map (λ at. at.1) (reading c cell)) (map (λ at. at.1) (cell_places reading (c + 1) cells))
    (subst (IsIn reader) (places-both (reading c cell) (cell_places reading (c + 1) cells)) h)) [
      | inl here ↦ cell-inside n c cell reader here
      | inr later ↦ cells-inside n (c + 1) cells reader later
    ]

rails-inside : (n r : ℕ) (rails : List Rail) (reader : Reader) → r + length rails ≤ n → IsIn reader (map (λ at. at.1) (rail_places (λ k. Output (numbered k)) r rails)) → IsInside n reader
rails-inside n r [] reader le h = absurd h
rails-inside n r (rail ∷ rails) reader le (inl e) = subst (IsInside n) e (omega arith)
rails-inside n r (rail ∷ rails) reader le (inr h) = rails-inside n (r + 1) rails reader (omega arith) h

-- a reader that is an output rail is one of the netlist
pub reader-inside : (net : PlainNetlist) (wire : ℕ) (id : RailId) → readers net wire ≡ Output id ∷ [] → id.number < length net.output_rails
reader-inside net wire id e =
    let among = on-wire-in wire (reading_places net) (Output id) (subst (IsIn (Output id)) (sym e) (inl refl)) in
    let cells = cell_places reading 0 net.cells in
    let rails = rail_places (λ k. Output (numbered k)) 0 net.output_rails in
    elim (IsIn-append (Output id) (map (λ at. at.1) cells) (map (λ at. at.1) rails) (subst (IsIn (Output id)) (places-both cells rails) among)) [
      | inl here ↦ cells-inside (length net.output_rails) 0 net.cells (Output id) here
      | inr later ↦ rails-inside (length net.output_rails) 0 net.output_rails (Output id) (omega arith) later
    ]

-- what comes of a pulse at a cell's port
target-cell : (net : PlainNetlist) (state : State) (wire : ℕ) (reader : Reader) (id : CellId) → target_at reader ≡ targets.Cell id
    → (delivered_to net state wire reader ≡ after_reaction state wire id.number (reaction_at net.cells state.cell_states id.number reader))
    × (emitted_at net.cells state.cell_states reader ≡ emitted_by (reaction_at net.cells state.cell_states id.number reader))
target-cell net state wire (A i) id e = let same : i ≡ id = cc in
    subst (λ (k : CellId). (delivered_to net state wire (A i) ≡ after_reaction state wire k.number
    (reaction_at net.cells state.cell_states k.number (A i)))
    × (emitted_at net.cells state.cell_states (A i) ≡ emitted_by (reaction_at net.cells state.cell_states k.number (A i)))) same (refl, refl)
target-cell net state wire (B i) id e = let same : i ≡ id = cc in
    subst (λ (k : CellId). (delivered_to net state wire (B i) ≡ after_reaction state wire k.number
    (reaction_at net.cells state.cell_states k.number (B i)))
    × (emitted_at net.cells state.cell_states (B i) ≡ emitted_by (reaction_at net.cells state.cell_states k.number (B i)))) same (refl, refl)
target-cell net state wire (From i) id e = let same : i ≡ id = cc in
    subst (λ (k : CellId). (delivered_to net state wire (From i) ≡ after_reaction state wire k.number
    (reaction_at net.cells state.cell_states k.number (From i)))
    × (emitted_at net.cells state.cell_states (From i) ≡ emitted_by (reaction_at net.cells state.cell_states k.number (From i)))) same (refl, refl)
target-cell net state wire (Feed i) id e = let same : i ≡ id = cc in
    subst (λ (k : CellId). (delivered_to net state wire (Feed i) ≡ after_reaction state wire k.number
    (reaction_at net.cells state.cell_states k.number (Feed i)))
    × (emitted_at net.cells state.cell_states (Feed i) ≡ emitted_by (reaction_at net.cells state.cell_states k.number (Feed i)))) same (refl, refl)
target-cell net state wire (Output i) id e = absurd cc

pub target-rail : (reader : Reader) (id : RailId) → target_at reader ≡ targets.Rail id → reader ≡ Output id
target-rail (A i) id e = absurd cc
target-rail (B i) id e = absurd cc
target-rail (From i) id e = absurd cc
target-rail (Feed i) id e = absurd cc
target-rail (Output i) id e = cc

get-map : {X Y : Type 0} (f : X → Y) (xs : List X) (i : ℕ) (y : Y) → slice_get (map f xs) i ≡ Some y → (x : X) × (f x ≡ y)
get-map f [] zero y e = absurd cc
get-map f [] (suc i) y e = absurd cc
get-map f (x ∷ xs) zero y e = (x, cc)
get-map f (x ∷ xs) (suc i) y e = get-map f xs i y e

-- an output rail has counted at most one pulse
pub count-small : (world : PlainWorld) → IsWorld world → (r count : ℕ) → slice_get world.counted r ≡ Some count → count ≤ 1
count-small world is_world r count e =
    let here = is_world.reached in
    let run = run_exists world.net is_world.sound here.vectors in
    let law = follow_law world.net is_world.sound here.vectors run.0 run.1 in
    let counts = sym (ap (λ (s : State). s.counted) here.stands.state_is) ∙ counts-are world.net here.vectors here.stands.reached.0 here.moment here.stands.reached.1 in
    let found = get-map (λ rail. occurrences (wire_of rail) here.moment.delivered) world.net.output_rails r count (subst (λ cs. slice_get cs r ≡ Some count) counts e) in
    let once = law.once here.moment here.stands.reached (wire_of found.0) in
    let is = found.1 in omega arith

module _ (world : PlainWorld) (is_world : IsWorld world) (place wire : ℕ) (at : slice_get world.queue place ≡ Some wire) (law : DeliveryIsToReader)
    (shapes : MomentsKeepShape) (reader : Reader) (one : readers world.net wire ≡ reader ∷ []) where
  -- the cell has a queue in its table
  pub cell-reacts : (id : CellId) → target_at reader ≡ targets.Cell id → (reacted : Reaction) × (reaction_at world.net.cells world.cell_states id.number reader ≡ Some reacted)
  cell-reacts id target =
      let e = at-reader world is_world place wire at law shapes reader one ∙ (target-cell world.net (state_of world) wire reader id target).0 in
      let step = cell-after world is_world place wire at id.number (reaction_at world.net.cells world.cell_states id.number reader) e in (step.0, step.1)

  -- the delivery at a cell
  pub cell-step : (id : CellId) → target_at reader ≡ targets.Cell id → (reacted : Reaction) → reaction_at world.net.cells world.cell_states id.number reader ≡ Some reacted
      → (deliver world.net (state_of world) wire ≡ Delivered
      (state_of (record world { cell_states = slice_set world.cell_states id.number reacted.cell_state; queue = swap_remove world.queue place 0 ++ reacted.emitted })))
      × IsWorld (record world { cell_states = slice_set world.cell_states id.number reacted.cell_state; queue = swap_remove world.queue place 0 ++ reacted.emitted })
      × (emitted_at world.net.cells world.cell_states reader ≡ reacted.emitted)
  cell-step id target reacted is =
      let e = at-reader world is_world place wire at law shapes reader one ∙ (target-cell world.net (state_of world) wire reader id target).0 in
      let step = cell-after world is_world place wire at id.number (Some reacted) (e ∙ ap (after_reaction (state_of world) wire id.number) is) in
      let same : step.0 ≡ reacted = let s = step.1 in cc in
      let delivered = subst (λ (r : Reaction). deliver world.net (state_of world) wire ≡ Delivered
      (state_of (record world { cell_states = slice_set world.cell_states id.number r.cell_state; queue = swap_remove world.queue place 0 ++ r.emitted }))) same step.2 in
      (delivered, world-after world is_world place wire at _ refl refl refl delivered, (target-cell world.net (state_of world) wire reader id target).1 ∙ ap emitted_by is)

  -- the delivery at an output rail
  pub rail-step : (id : RailId) → target_at reader ≡ targets.Rail id
      → (deliver world.net (state_of world) wire ≡ Delivered
      (state_of (record world { queue = swap_remove world.queue place 0; counted = slice_set world.counted id.number (slice_index world.counted id.number + 1) })))
      × IsWorld (record world { queue = swap_remove world.queue place 0; counted = slice_set world.counted id.number (slice_index world.counted id.number + 1) })
      × (emitted_at world.net.cells world.cell_states reader ≡ [])
      × (id.number < length world.counted)
  rail-step id target =
      let is = target-rail reader id target in
      let e = at-reader world is_world place wire at law shapes reader one ∙ ap (delivered_to world.net (state_of world) wire) is in
      let delivered = rail-after world is_world place wire at id.number e in
      let inside = reader-inside world.net wire id (one ∙ ap (λ r. r ∷ []) is) in
      let shape = world-shape shapes world is_world in
      (delivered, world-after world is_world place wire at _ refl refl refl delivered, ap (emitted_at world.net.cells world.cell_states) is, let rails = shape.1 in omega arith)

  -- so it had counted none before
  pub rail-unpulsed : (id : RailId) → target_at reader ≡ targets.Rail id → slice_get world.counted id.number ≡ Some 0
  rail-unpulsed id target =
      let step = rail-step id target in
      let after = set-same world.counted id.number (slice_index world.counted id.number + 1) step.3 in
      let most = count-small _ step.1 id.number (slice_index world.counted id.number + 1) after in
      slice_get-get_or world.counted id.number 0 step.3 ∙ ap (λ n. Some n) (omega arith)

-- the engine's world with other states of its cells, another queue and other counts
pub world-is : (world : PlainWorld) (now : List CellState) (queue counted : List ℕ) (cell_states : List CellState) (its_queue its_counted : List ℕ)
    → now ≡ cell_states → queue ≡ its_queue → counted ≡ its_counted
    → world_of world.net world.opened world.vector now queue counted ≡ record world { cell_states = cell_states; queue = its_queue; counted = its_counted }
world-is world now queue counted cell_states its_queue its_counted same wires counts = rw (same, wires, counts) refl
