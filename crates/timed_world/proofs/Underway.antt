-- A timed phase under way, and one delivery more.
use Rattle.std.proofs.Common.{◌≡◌, ◌+◌, ◌-◌, ◌*◌, ◌^◌, ◌<◌, ◌≤◌, ◌⊎◌, ◌==◌, if◌then◌else◌, ℕ, zero, suc, Bool, true, false, inl, inr}
use Rattle.std.proofs.Common.{List, [], ◌∷◌, ◌++◌, length, drop, refl, sym, ap, subst, ◌∙◌, arith}
use Rattle.std.specs.List.{swap_remove}
use Rattle.std.proofs.lemmas.List.{length-map, length-append, append_assoc}
use Rattle.std.proofs.lemmas.Option.{slice_get_within}
use Rattle.std.proofs.lemmas.Bool.{cases_eq}
use Rattle.std.proofs.lemmas.Grind.{common_steps}
use Rattle.pulse_ids.specs.Lists.{IsIn, occurrences}
use Rattle.pulse_ids.proofs.CallerLemmas.{IsIn-map}
use Rattle.pulse_ids.proofs.CallerLemmasOnCounts.{occurrences-append, occurrences-IsIn, IsIn-occurrences, one_if, test_same, test_other}
use Rattle.cell_netlist.specs.Netlists.{PlainNetlist}
use Rattle.cell_netlist.specs.World.{State, deliver, Delivered}
use Rattle.cell_netlist.proofs.CallerLemmasOnSums.{map-on}
use Rattle.pulse_world.specs.WirePulses.{EmitsBehind, DeliveriesEmitBehind}
use Rattle.pulse_world.specs.Worlds.{PlainWorld, state_of}
use Rattle.schedule_replay.specs.Settling.{DeliversAll, Anywhere}
use Rattle.schedule_replay.proofs.CallerLemmas.{one_more}
use Rattle.timed_world.specs.Delays.{PlainDelays, AreWithin, lag}
use Rattle.timed_world.specs.Phases.{turns_of, HasMore, AreTied, DeliversOne}
use Rattle.timed_world.specs.TimedPhases.{emitted, due_after, IsNext, IsTimedFrom}
use Rattle.timed_world.specs.Times.{turn, IsFirstTaken}
use Rattle.timed_world.proofs.LagLemmas.{lag_most}
use Rattle.timed_world.proofs.TurnLemmas.{turn_parts, turn_first, mapped-removed, occurrences-removed, occurrences-turns, drop-front, turn-in}
use Rattle.timed_world.proofs.WithinBound.{Moved, delivered_moves}

-- The phase from a world on made the deliveries so far, the last of them at the time `now`, and leads to the world that is
-- there; the pending pulses wait for their times.
pub record Underway (delays : PlainDelays) (start : PlainWorld) (wires : List ℕ) (now : ℕ) (world : PlainWorld) (turns : List ℕ) : Type 0 where
  pub net : world.net ≡ start.net
  pub made : DeliversAll start wires world
  pub due : ℕ → ℕ
  pub tied : AreTied due world.queue turns
  pub rest : (more : List ℕ) (time : ℕ) (last : State) → IsTimedFrom delays start.net due now (state_of world) more time last
      → IsTimedFrom delays start.net (lag delays start.net) 0 (state_of start) (wires ++ more) time last
  pub early : (wire : ℕ) → due wire ≤ 1000 * (length wires + 1)
  pub early_now : now ≤ 1000 * (length wires + 1)

pub begun : (delays : PlainDelays) (within : AreWithin delays) (start : PlainWorld) (turns : List ℕ) → AreTied (lag delays start.net) start.queue turns → Underway delays start [] 0 start turns
begun delays within start turns tied = record {
  net = refl;
  made = refl;
  due = lag delays start.net;
  tied = tied;
  rest = λ more time last h. h;
  early = λ wire. let most = lag_most delays within start.net wire in omega arith;
  early_now = omega arith;
}

-- where all pulses of the queue are inserted at the start
pub tied_at_start : (delays : PlainDelays) (net : PlainNetlist) (queue before turns : List ℕ) → before ≡ []
    → HasMore before (turns_of (λ wire. 0 + lag delays net wire) queue) turns → AreTied (lag delays net) queue turns
tied_at_start delays net queue before turns e h =
    subst (λ ws. HasMore [] ws turns) (map-on (λ w. turn (0 + lag delays net w) w) (λ w. turn (lag delays net w) w) queue (λ w i. omega arith))
    (subst (λ b. HasMore b (turns_of (λ wire. 0 + lag delays net wire) queue) turns) e h)

-- no pulse waits where the queue is empty
pub tied_empty : (due : ℕ → ℕ) (queue turns : List ℕ) → AreTied due queue turns → turns ≡ [] → queue ≡ []
tied_empty due [] turns tied e = refl
tied_empty due (wire ∷ queue) turns tied e = let l = tied.1 in let z = ap length e in absurd (omega arith)

pub done : (delays : PlainDelays) (start : PlainWorld) (wires : List ℕ) (now : ℕ) (world : PlainWorld) (turns : List ℕ) → Underway delays start wires now world turns → turns ≡ []
    → IsTimedFrom delays start.net (lag delays start.net) 0 (state_of start) wires now (state_of world)
done delays start wires now world turns way e =
    let none = tied_empty way.due world.queue turns way.tied e in
    let ends = way.rest [] now (state_of world) ((λ wire. ap (occurrences wire) none), refl, refl) in
    subst (λ ws. IsTimedFrom delays start.net (lag delays start.net) 0 (state_of start) ws now (state_of world)) (append-none wires) ends
  where
    append-none : (xs : List ℕ) → xs ++ [] ≡ xs
    append-none [] = refl
    append-none (x ∷ xs) = ap (λ l. x ∷ l) (append-none xs)

-- The pulse whose turn it is.
module _ (due : ℕ → ℕ) (world : PlainWorld) (turns after : List ℕ) (tied : AreTied due world.queue turns) (small : (wire : ℕ) → IsIn wire world.queue → wire < 2 ^ 22)
    (time wire : ℕ) (takes : IsFirstTaken turns time wire after) where
  found : (w : ℕ) × IsIn w world.queue × (turn (due w) w ≡ turn time wire)
  found =
      let i = IsIn-occurrences (turn time wire) turns takes.among in
      let c = tied.0 (turn time wire) in
      turn-in due world.queue (turn time wire) (omega arith)

  same : (due found.0 ≡ time) × (found.0 ≡ wire)
  same = turn_parts (due found.0) time found.0 wire (small found.0 found.1) takes.small found.2

  -- it is pending, and its time is when it is due
  pub taken_in : IsIn wire world.queue
  taken_in = subst (λ w. IsIn w world.queue) same.1 found.1

  pub taken_due : due wire ≡ time
  taken_due = ap due (sym same.1) ∙ same.0

  -- and it is next
  pub taken_next : IsNext (state_of world) due wire
  taken_next = record {
    pending = λ none. let i = IsIn-occurrences wire world.queue taken_in in absurd (omega arith);
    first = λ other some.
        let there = occurrences-IsIn other world.queue (positive (occurrences other world.queue) some) in
        let mapped = IsIn-map (λ w. turn (due w) w) other world.queue there in
        let count = IsIn-occurrences (turn (due other) other) (turns_of due world.queue) mapped in
        let c = tied.0 (turn (due other) other) in
        let less = takes.first (turn (due other) other) (occurrences-IsIn (turn (due other) other) turns (omega arith)) in
        subst (λ t. (t < due other) ⊎ ((t ≡ due other) × (wire ≤ other))) (sym taken_due)
        (turn_first time (due other) wire other takes.small (small other there) less);
  }
    where
      positive : (n : ℕ) → (n ≡ 0 → ⊥) → 1 ≤ n
      positive zero some = absurd (some refl)
      positive (suc n) some = omega arith

if_none : (n a b : ℕ) → n ≡ 0 → (if n == 0 then a else b) ≡ a
if_none zero a b e = refl
if_none (suc n) a b e = absurd (omega arith)

if_some : (n a b : ℕ) → 1 ≤ n → (if n == 0 then a else b) ≡ b
if_some n a b e = grind (arith, common_steps)

if_most : (test : Bool) (a b most : ℕ) → a ≤ most → b ≤ most → (if test then a else b) ≤ most
if_most true a b most h g = h
if_most false a b most h g = g

flip : (a b : ℕ) → one_if (a == b) ≡ one_if (b == a)
flip a b = elim (cases_eq a b) [
  | inl e ↦ let s = test_same a b e in let t = test_same b a (sym e) in omega arith
  | inr ne ↦ let s = test_other a b ne in let t = test_other b a (λ e. ne (sym e)) in omega arith
]

-- One delivery more. What it emits stands last in the queue.
module _ (emits : DeliveriesEmitBehind) (delays : PlainDelays) (within : AreWithin delays) (start : PlainWorld) (wires : List ℕ) (now : ℕ) (world : PlainWorld) (turns : List ℕ)
    (way : Underway delays start wires now world turns) (small : (wire : ℕ) → IsIn wire world.queue → wire < 2 ^ 22) (time wire : ℕ) (between : List ℕ)
    (takes : IsFirstTaken turns time wire between) (next : PlainWorld) (turns_then : List ℕ) (one : DeliversOne delays time wire world next between turns_then)
    (once : (w : ℕ) → occurrences w next.queue ≤ 1) where
  abbrev w0 : ℕ
  w0 = wire

  abbrev kept : List ℕ
  kept = swap_remove world.queue one.place 0

  behind : EmitsBehind world next one.place w0
  behind = emits world next one.place w0 one.delivers

  abbrev fresh : List ℕ
  fresh = behind.emitted

  abbrev due_then : ℕ → ℕ
  due_then = due_after delays start.net (state_of world) way.due w0

  is_due : way.due w0 ≡ time
  is_due = taken_due way.due world turns between way.tied small time wire takes

  queue_counts : (n : ℕ) → occurrences n next.queue ≡ occurrences n kept + occurrences n fresh
  queue_counts n = ap (occurrences n) behind.queue ∙ occurrences-append n kept fresh

  -- what the definition says is emitted stands last in the queue
  fresh_counts : (n : ℕ) → occurrences n (emitted start.net (state_of world) w0) ≡ occurrences n fresh
  fresh_counts n =
      let m : Moved world.net (state_of world) (state_of next) w0 = delivered_moves world.net (state_of world) (state_of next) w0 one.delivers.delivered in
      let is = ap (occurrences n) m.is in
      let there = ap (λ (t : PlainNetlist). occurrences n (emitted t (state_of world) w0)) way.net in
      let pending = m.pending n in
      let counts = queue_counts n in
      let removed = occurrences-removed world.queue one.place w0 0 one.delivers.at n in
      let flipped = flip n w0 in omega arith

  due_kept : (other : ℕ) → IsIn other kept → due_then other ≡ way.due other
  due_kept other i =
      let some = IsIn-occurrences other kept i in
      let counts = queue_counts other in
      let most = once other in
      if_none (occurrences other (emitted start.net (state_of world) w0)) _ _ (let f = fresh_counts other in omega arith)

  due_fresh : (other : ℕ) → IsIn other fresh → due_then other ≡ time + lag delays world.net other
  due_fresh other i =
      let some = IsIn-occurrences other fresh i in
      let its = ap (λ (t : PlainNetlist). lag delays t other) way.net in
      let is = is_due in
      if_some (occurrences other (emitted start.net (state_of world) w0)) (way.due other) (way.due w0 + lag delays start.net other) (let f = fresh_counts other in omega arith) ∙ omega arith

  kept_length : length kept ≡ length world.queue - 1
  kept_length =
      let count = behind.count in
      let all = ap length behind.queue in
      let parts = length-append kept fresh in omega arith

  last_are : drop (length world.queue - 1) next.queue ≡ fresh
  last_are = ap (drop (length world.queue - 1)) behind.queue ∙ drop-front kept fresh (length world.queue - 1) kept_length

  turns_kept : turns_of due_then kept ≡ turns_of way.due kept
  turns_kept = map-on (λ w. turn (due_then w) w) (λ w. turn (way.due w) w) kept (λ w i. ap (λ t. turn t w) (due_kept w i))

  turns_fresh : turns_of due_then fresh ≡ turns_of (λ w. time + lag delays world.net w) fresh
  turns_fresh = map-on (λ w. turn (due_then w) w) (λ w. turn (time + lag delays world.net w) w) fresh (λ w i. ap (λ t. turn t w) (due_fresh w i))

  tied_counts : (n : ℕ) → occurrences n turns_then ≡ 0 + occurrences n (turns_of due_then next.queue)
  tied_counts n =
      let more = one.more.0 n in
      let last = ap (λ ws. occurrences n (turns_of (λ w. time + lag delays world.net w) ws)) last_are in
      let taken = takes.rest n in
      let tied = way.tied.0 n in
      let removed = mapped-removed (λ w. turn (way.due w) w) world.queue one.place w0 0 one.delivers.at n in
      let test : one_if (n == turn (way.due w0) w0) ≡ one_if (n == turn time w0) = ap (λ t. one_if (n == turn t w0)) is_due in
      let whole = ap (λ ws. occurrences n (turns_of due_then ws)) behind.queue in
      let parts = occurrences-turns due_then kept fresh n in
      let left = ap (occurrences n) turns_kept in
      let right = ap (occurrences n) turns_fresh in omega arith

  tied_length : length turns_then ≡ 0 + length (turns_of due_then next.queue)
  tied_length =
      let more = one.more.1 in
      let last = ap (λ ws. length (turns_of (λ w. time + lag delays world.net w) ws)) last_are in
      let mapped = length-map fresh (λ w. turn (time + lag delays world.net w) w) in
      let taken = takes.shorter in
      let tied = way.tied.1 in
      let all = length-map world.queue (λ w. turn (way.due w) w) in
      let whole = length-map next.queue (λ w. turn (due_then w) w) in
      let queue = ap length behind.queue in
      let parts = length-append kept fresh in
      let inside = slice_get_within world.queue one.place w0 one.delivers.at in
      let count = kept_length in omega arith

  due_most : (w : ℕ) → due_then w ≤ 1000 * (length (wires ++ w0 ∷ []) + 1)
  due_most w =
      let longer = length-append wires (w0 ∷ []) in
      let most = lag_most delays within start.net w in
      let here = way.early w in
      let its = way.early w0 in
      if_most (occurrences w (emitted start.net (state_of world) w0) == 0) (way.due w) (way.due w0 + lag delays start.net w) _ (omega arith) (omega arith)

  pub step : Underway delays start (wires ++ w0 ∷ []) time next turns_then
  step = record {
    net = one.delivers.net ∙ way.net;
    made = one_more Anywhere 0 wires start world next w0 way.made (record { place = one.place; named = tt; delivers = one.delivers });
    due = due_then;
    tied = (tied_counts, tied_length);
    rest = λ more t last h.
        subst (λ ws. IsTimedFrom delays start.net (lag delays start.net) 0 (state_of start) ws t last) (sym (append_assoc wires (w0 ∷ []) more))
        (way.rest (w0 ∷ more) t last (
          taken_next way.due world turns between way.tied small time wire takes,
          state_of next,
          subst (λ (n : PlainNetlist). deliver n (state_of world) w0 ≡ Delivered (state_of next)) way.net one.delivers.delivered,
          subst (λ k. IsTimedFrom delays start.net due_then k (state_of next) more t last) (sym is_due) h,
        ));
    early = due_most;
    early_now =
        let here = way.early w0 in
        let is = is_due in
        let longer = length-append wires (w0 ∷ []) in omega arith;
  }
