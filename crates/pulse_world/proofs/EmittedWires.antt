-- The wires of the pulses that a delivery emits, and their places in the queue.
use Rattle.std.proofs.Common.{◌≡◌, ◌⊎◌, ◌+◌, ◌-◌, ◌≤◌, ℕ, zero, suc, Bool, Option, Some, None, List, [], ◌∷◌, ◌++◌, length, length-append, take, slice_get, slice_set, option_and_then, if◌then◌else◌, ◌==◌, ap, sym, ◌∙◌, subst, inl, inr, arith, refl}
use Rattle.std.specs.List.{swap_remove, slice_index_or}
use Rattle.std.proofs.lemmas.Option.{slice_get_within}
use Rattle.pulse_ids.specs.Lists.{IsIn, occurrences}
use Rattle.pulse_ids.proofs.CallerLemmasOnCounts.{occurrences-IsIn}
use Rattle.cell_netlist.specs.declared.kinds.CellState.{CellState}
use Rattle.cell_netlist.specs.declared.kinds.Gate.TheVariants as gates
use Rattle.cell_netlist.specs.declared.kinds.Held.{Held}
use Rattle.cell_netlist.specs.declared.kinds.Port.TheVariants as ports
use Rattle.cell_netlist.specs.declared.lines.Cell.{Cell}
use Rattle.cell_netlist.specs.declared.lines.Cell.TheVariants.{La, Fa, Split, Droc}
use Rattle.cell_netlist.specs.declared.lines.Reader.{Reader}
use Rattle.cell_netlist.specs.declared.lines.Reader.TheVariants.{A, B, From, Feed, Output}
use Rattle.cell_netlist.specs.Netlists.{PlainNetlist, outs}
use Rattle.cell_netlist.specs.OneReader.{port_reaction, reaction_at, after_reaction, after_count, delivered_to, DeliveryIsToReader, MomentsKeepShape}
use Rattle.cell_netlist.specs.Tables.{arrival, fed}
use Rattle.cell_netlist.specs.World.{State, Reaction, gate_step, droc_step, Outcome, NotPending, Upset, Delivered}
use Rattle.pulse_world.specs.Reacting.{emitted_by, emitted_at}
use Rattle.pulse_world.specs.WirePulses.{outs_of, outputs_of, DeliveriesEmit, DeliveriesEmitBehind}
use Rattle.pulse_world.proofs.RunMoments.{moves}
use Rattle.pulse_world.proofs.OpeningWires.{one-in}

-- What a cell emits is among its outputs.

gate-outs : (out : ℕ) (kept : CellState) (line : Option (Held × Bool)) (reacted : Reaction) → gate_step out kept line ≡ Some reacted
    → (other : ℕ) → IsIn other reacted.emitted → IsIn other (out ∷ [])
gate-outs out kept None reacted e other i = absurd cc
gate-outs out kept (Some line) reacted e other i =
    let is : (if line.1 then out ∷ [] else []) ≡ reacted.emitted = ap (λ (o : Option Reaction). emitted_by o) e in
    let o = one-in line.1 other out (subst (IsIn other) (sym is) i) in inl o.1

droc-outs : (kept : CellState) (line : Option Bool) (reacted : Reaction) → droc_step kept line ≡ Some reacted → (other : ℕ) → IsIn other reacted.emitted → ⊥
droc-outs kept None reacted e other i = cc
droc-outs kept (Some bit) reacted e other i =
    let is : [] ≡ reacted.emitted = ap (λ (o : Option Reaction). emitted_by o) e in subst (IsIn other) (sym is) i

port-outs : (cell : Cell) (kept : CellState) (reader : Reader) (reacted : Reaction) → port_reaction cell kept reader ≡ Some reacted
    → (other : ℕ) → IsIn other reacted.emitted → IsIn other (outs cell)
port-outs (La a b out) kept (A id) reacted e other i = gate-outs out.number kept (arrival gates.La kept.held ports.A) reacted e other i
port-outs (La a b out) kept (B id) reacted e other i = gate-outs out.number kept (arrival gates.La kept.held ports.B) reacted e other i
port-outs (La a b out) kept (From id) reacted e other i = absurd cc
port-outs (La a b out) kept (Feed id) reacted e other i = absurd cc
port-outs (La a b out) kept (Output id) reacted e other i = absurd cc
port-outs (Fa a b out) kept (A id) reacted e other i = gate-outs out.number kept (arrival gates.Fa kept.held ports.A) reacted e other i
port-outs (Fa a b out) kept (B id) reacted e other i = gate-outs out.number kept (arrival gates.Fa kept.held ports.B) reacted e other i
port-outs (Fa a b out) kept (From id) reacted e other i = absurd cc
port-outs (Fa a b out) kept (Feed id) reacted e other i = absurd cc
port-outs (Fa a b out) kept (Output id) reacted e other i = absurd cc
port-outs (Split from left right) kept (A id) reacted e other i = absurd cc
port-outs (Split from left right) kept (B id) reacted e other i = absurd cc
port-outs (Split from left right) kept (From id) reacted e other i =
    let is : left.number ∷ right.number ∷ [] ≡ reacted.emitted = ap (λ (o : Option Reaction). emitted_by o) e in subst (IsIn other) (sym is) i
port-outs (Split from left right) kept (Feed id) reacted e other i = absurd cc
port-outs (Split from left right) kept (Output id) reacted e other i = absurd cc
port-outs (Droc role preload feed q n) kept (A id) reacted e other i = absurd cc
port-outs (Droc role preload feed q n) kept (B id) reacted e other i = absurd cc
port-outs (Droc role preload feed q n) kept (From id) reacted e other i = absurd cc
port-outs (Droc role preload feed q n) kept (Feed id) reacted e other i = absurd (droc-outs kept (fed kept.bit) reacted e other i)
port-outs (Droc role preload feed q n) kept (Output id) reacted e other i = absurd cc

at-outs : (cells : List Cell) (cell_states : List CellState) (c : ℕ) (reader : Reader) (reacted : Reaction) → reaction_at cells cell_states c reader ≡ Some reacted
    → (other : ℕ) → IsIn other reacted.emitted → IsIn other (outs_of (slice_get cells c))
at-outs cells cell_states c reader reacted e other i = go (slice_get cells c) (slice_get cell_states c) e
  where
    go : (cell : Option Cell) (kept : Option CellState)
        → option_and_then (λ cell. option_and_then (λ cell_state. port_reaction cell cell_state reader) kept) cell ≡ Some reacted → IsIn other (outs_of cell)
    go None kept e = absurd cc
    go (Some cell) None e = absurd cc
    go (Some cell) (Some kept) e = port-outs cell kept reader reacted e other i

by-outs : (cells : List Cell) (cell_states : List CellState) (c : ℕ) (reader : Reader) (other : ℕ)
    → IsIn other (emitted_by (reaction_at cells cell_states c reader)) → IsIn other (outs_of (slice_get cells c))
by-outs cells cell_states c reader other i = go (reaction_at cells cell_states c reader) refl i
  where
    go : (o : Option Reaction) → reaction_at cells cell_states c reader ≡ o → IsIn other (emitted_by o) → IsIn other (outs_of (slice_get cells c))
    go None e i = absurd i
    go (Some reacted) e i = at-outs cells cell_states c reader reacted e other i

pub emitted-outs : (cells : List Cell) (cell_states : List CellState) (reader : Reader) (other : ℕ) → IsIn other (emitted_at cells cell_states reader)
    → IsIn other (outputs_of cells reader)
emitted-outs cells cell_states (A id) other i = by-outs cells cell_states id.number (A id) other i
emitted-outs cells cell_states (B id) other i = by-outs cells cell_states id.number (B id) other i
emitted-outs cells cell_states (From id) other i = by-outs cells cell_states id.number (From id) other i
emitted-outs cells cell_states (Feed id) other i = by-outs cells cell_states id.number (Feed id) other i
emitted-outs cells cell_states (Output id) other i = absurd i

-- What becomes pending by a delivery.

abbrev pending_after : Outcome → ℕ → ℕ
pending_after NotPending other = 0
pending_after Upset other = 0
pending_after (Delivered state) other = state.pending other

cell-pends : (net : PlainNetlist) (state after : State) (wire c : ℕ) (reader : Reader)
    → after_reaction state wire c (reaction_at net.cells state.cell_states c reader) ≡ Delivered after → (other : ℕ) → (after.pending other ≡ 0 → ⊥)
    → (state.pending other ≡ 0 → ⊥) ⊎ IsIn other (outs_of (slice_get net.cells c))
cell-pends net state after wire c reader e other pending = go (reaction_at net.cells state.cell_states c reader) refl e
  where
    split : (was k : ℕ) → ((was - (if wire == other then 1 else 0)) + k ≡ 0 → ⊥) → (was ≡ 0 → ⊥) ⊎ (1 ≤ k)
    split was (suc k) some = inr (omega arith)
    split was zero some = inl (λ none. some (omega arith))

    go : (o : Option Reaction) → reaction_at net.cells state.cell_states c reader ≡ o → after_reaction state wire c o ≡ Delivered after
        → (state.pending other ≡ 0 → ⊥) ⊎ IsIn other (outs_of (slice_get net.cells c))
    go None r e = absurd cc
    go (Some reacted) r e =
        let is : (state.pending other - (if wire == other then 1 else 0)) + occurrences other reacted.emitted ≡ after.pending other =
        ap (λ (o : Outcome). pending_after o other) e in
        elim (split (state.pending other) (occurrences other reacted.emitted) (λ none. pending (sym is ∙ none))) [
          | inl was ↦ inl was
          | inr some ↦ inr (at-outs net.cells state.cell_states c reader reacted r other (occurrences-IsIn other reacted.emitted some))
        ]

rail-pends : (state after : State) (wire r : ℕ) → after_count state wire r ≡ Delivered after → (other : ℕ) → (after.pending other ≡ 0 → ⊥)
    → state.pending other ≡ 0 → ⊥
rail-pends state after wire r e other pending none =
    let is : state.pending other - (if wire == other then 1 else 0) ≡ after.pending other = ap (λ (o : Outcome). pending_after o other) e in
    pending (sym is ∙ ap (λ n. n - (if wire == other then 1 else 0)) none ∙ zero-less (if wire == other then 1 else 0))
  where
    zero-less : (n : ℕ) → 0 - n ≡ 0
    zero-less n = omega arith

reader-pends : (net : PlainNetlist) (state after : State) (wire : ℕ) (reader : Reader) → delivered_to net state wire reader ≡ Delivered after
    → (other : ℕ) → (after.pending other ≡ 0 → ⊥) → (state.pending other ≡ 0 → ⊥) ⊎ IsIn other (outputs_of net.cells reader)
reader-pends net state after wire (A id) e other pending = cell-pends net state after wire id.number (A id) e other pending
reader-pends net state after wire (B id) e other pending = cell-pends net state after wire id.number (B id) e other pending
reader-pends net state after wire (From id) e other pending = cell-pends net state after wire id.number (From id) e other pending
reader-pends net state after wire (Feed id) e other pending = cell-pends net state after wire id.number (Feed id) e other pending
reader-pends net state after wire (Output id) e other pending = inl (rail-pends state after wire id.number e other pending)

pub deliveries_emit : DeliveryIsToReader → MomentsKeepShape → DeliveriesEmit
deliveries_emit to_reader shapes net vectors before after wire reader reached one delivers other pending =
    let shape = shapes net vectors before reached in
    let m = moves net before.state wire after.state delivers.state in
    let some : before.state.pending wire ≡ 0 → ⊥ = λ none. let p = m.pending in absurd (omega arith) in
    reader-pends net before.state after.state wire reader
    (sym (to_reader net before.state wire reader one shape.0 shape.1 some) ∙ delivers.state) other pending

-- The last places of the queue.

set-length : (xs : List ℕ) (i y : ℕ) → length (slice_set xs i y) ≡ length xs
set-length [] i y = refl
set-length (x ∷ xs) zero y = refl
set-length (x ∷ xs) (suc i) y = ap (λ n. suc n) (set-length xs i y)

take-length : (n : ℕ) (xs : List ℕ) → n ≤ length xs → length (take n xs) ≡ n
take-length zero xs le = refl
take-length (suc n) [] le = absurd (omega arith)
take-length (suc n) (x ∷ xs) le = ap (λ k. suc k) (take-length n xs (omega arith))

removed-length : (xs : List ℕ) (place : ℕ) → length (swap_remove xs place 0) ≡ length xs - 1
removed-length xs place =
    let whole = set-length xs place (slice_index_or xs (length xs - 1) 0) in
    take-length (length xs - 1) (slice_set xs place (slice_index_or xs (length xs - 1) 0)) (omega arith)

get-behind : (xs ys : List ℕ) (n k : ℕ) → n ≡ length xs → slice_get (xs ++ ys) (n + k) ≡ slice_get ys k
get-behind [] ys n k e = let same : n + k ≡ k = omega arith in ap (slice_get ys) same
get-behind (x ∷ xs) ys zero k e = absurd (omega arith)
get-behind (x ∷ xs) ys (suc n) k e =
    let step : suc n + k ≡ suc (n + k) = omega arith in ap (slice_get (x ∷ (xs ++ ys))) step ∙ get-behind xs ys n k (omega arith)

pub deliveries_emit_behind : DeliveriesEmitBehind
deliveries_emit_behind before after place wire d =
    let emitted = emitted_at before.net.cells before.cell_states d.reader in
    let left = removed-length before.queue place in
    let parts = length-append (swap_remove before.queue place 0) emitted in
    let all : length after.queue ≡ length (swap_remove before.queue place 0 ++ emitted) = ap (λ (q : List ℕ). length q) d.queue in
    let inside = slice_get_within before.queue place wire d.at in
    record {
      reader = d.reader;
      reads = d.reads;
      emitted = emitted;
      outputs = emitted-outs before.net.cells before.cell_states d.reader;
      queue = d.queue;
      count = omega arith;
      last = λ k. ap (λ (q : List ℕ). slice_get q (length before.queue - 1 + k)) d.queue
          ∙ get-behind (swap_remove before.queue place 0) emitted (length before.queue - 1) k (sym left);
    }
