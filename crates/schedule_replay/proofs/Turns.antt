-- Deliveries in turn, by the laws of the world below.
use Rattle.std.proofs.Common.{◌≡◌, ◌+◌, ◌≤◌, ℕ, Bool, List, [], ◌∷◌, ◌++◌, length, ap, sym, ◌∙◌, subst, arith, refl}
use Rattle.std.proofs.lemmas.List.{length-append}
use Rattle.cell_netlist.specs.Netlists.{number_of_wires}
use Rattle.cell_netlist.specs.NetRuns.{RunExists}
use Rattle.cell_netlist.specs.Runs.{Moment}
use Rattle.cell_netlist.specs.Sound.{IsSound}
use Rattle.pulse_world.specs.EveryOrder.{OrderLaw}
use Rattle.pulse_world.specs.WorldMoments.{PlaceIsDelivered}
use Rattle.pulse_world.specs.Worlds.{PlainWorld, DeliversAt, IsWorldAt, IsWorld}
use Rattle.schedule_replay.specs.Settling.{DeliversNamed, DeliversInTurn, Anywhere, Keeps, DeliveriesKeep, DeliveriesAreFew}

-- a delivery at a named place
pub named_delivery : (names : ℕ → ℕ → ℕ → Type 0) (step place : ℕ) (before after : PlainWorld) (wire : ℕ) → names step (length before.queue) place
    → DeliversAt before after place wire → DeliversNamed names step before after wire
named_delivery names step place before after wire named delivers = record { place = place; named = named; delivers = delivers }

-- deliveries in turn and one more
pub one-more : (names : ℕ → ℕ → ℕ → Type 0) (step : ℕ) (wires : List ℕ) (before mid after : PlainWorld) (wire : ℕ) → DeliversInTurn names step before wires mid
    → DeliversNamed names (step + length wires) mid after wire → DeliversInTurn names step before (wires ++ wire ∷ []) after
one-more names step [] before mid after wire h one =
    (after, subst (λ w. DeliversNamed names step w after wire) h (subst (λ k. DeliversNamed names k mid after wire) (omega arith) one), refl)
one-more names step (w ∷ wires) before mid after wire (next, first, rest) one =
    (next, first, one-more names (step + 1) wires next mid after wire rest (subst (λ k. DeliversNamed names k mid after wire) (omega arith) one))

pub next-more : (names : ℕ → ℕ → ℕ → Type 0) (start made : ℕ) (wires : List ℕ) (before mid after : PlainWorld) (wire : ℕ) → made ≡ length wires
    → DeliversInTurn names start before wires mid → DeliversNamed names (start + made) mid after wire → DeliversInTurn names start before (wires ++ wire ∷ []) after
next-more names start made wires before mid after wire e turns one =
    one-more names start wires before mid after wire turns (subst (λ n. DeliversNamed names (start + n) mid after wire) e one)

-- deliveries at named places are deliveries
pub at-any-place : (names : ℕ → ℕ → ℕ → Type 0) (step other : ℕ) (wires : List ℕ) (before after : PlainWorld) → DeliversInTurn names step before wires after
    → DeliversInTurn Anywhere other before wires after
at-any-place names step other [] before after h = h
at-any-place names step other (wire ∷ wires) before after (mid, one, rest) =
    (mid, record { place = one.place; named = tt; delivers = one.delivers }, at-any-place names (step + 1) (other + 1) wires mid after rest)

module _ (delivered : PlaceIsDelivered) where
  -- a delivery leads to a world
  pub world-after : (before after : PlainWorld) (place wire : ℕ) → IsWorld before → DeliversAt before after place wire → IsWorld after
  world-after before after place wire is d =
      let here = is.reached in
      let next = delivered before after place wire d here.vectors here.moment here.stands in
      record {
        sound = subst IsSound (sym d.net) is.sound;
        few = rw d.net is.few;
        reached = record { vectors = here.vectors; moment = next.0; stands = next.2 };
        width = rw (d.net, d.vector) is.width;
      }

  pub turns-keep : (names : ℕ → ℕ → ℕ → Type 0) (step : ℕ) (wires : List ℕ) (before after : PlainWorld) → IsWorld before
      → DeliversInTurn names step before wires after → Keeps before after
  turns-keep names step [] before after is h = record {
    world = subst IsWorld (sym h) is;
    net = ap (λ (w : PlainWorld). w.net) h;
    opened = ap (λ (w : PlainWorld). w.opened) h;
    vector = ap (λ (w : PlainWorld). w.vector) h;
  }
  turns-keep names step (wire ∷ wires) before after is (mid, one, rest) =
      let d = one.delivers in
      let k = turns-keep names (step + 1) wires mid after (world-after before mid one.place wire is d) rest in
      record { world = k.world; net = k.net ∙ d.net; opened = k.opened ∙ d.opened; vector = k.vector ∙ d.vector }

  pub deliveries-keep : DeliveriesKeep
  deliveries-keep = turns-keep Anywhere 0

  module _ (orders : OrderLaw) (runs : RunExists) where
    -- what a phase delivered and what is still to be delivered in it are no more than the wires
    pub few-from : (names : ℕ → ℕ → ℕ → Type 0) (step : ℕ) (wires : List ℕ) (before after : PlainWorld) (vectors : List (List Bool)) (moment : Moment)
        → IsSound before.net → IsWorldAt before vectors moment → DeliversInTurn names step before wires after
        → length moment.delivered + length wires ≤ number_of_wires before.net
    few-from names step [] before after vectors moment sound stands h =
        let run = runs before.net sound vectors in
        let few = (orders before.net sound vectors run.0 run.1).few moment stands.reached in omega arith
    few-from names step (wire ∷ wires) before after vectors moment sound stands (mid, one, rest) =
        let d = one.delivers in
        let next = delivered before mid one.place wire d vectors moment stands in
        let most = few-from names (step + 1) wires mid after vectors next.0 (subst IsSound (sym d.net) sound) next.2 rest in
        let same = ap number_of_wires d.net in
        let longer = ap (λ ws. length ws) next.1.delivered ∙ length-append moment.delivered (wire ∷ []) in omega arith

    pub deliveries-are-few : DeliveriesAreFew
    deliveries-are-few wires before after is h =
        let here = is.reached in
        let most = few-from Anywhere 0 wires before after here.vectors here.moment is.sound here.stands h in omega arith
