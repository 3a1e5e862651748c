-- A netlist and vectors have one list of cycles in an order, and one by scripts.
use Rattle.std.proofs.Common.{◌≡◌, ◌+◌, ◌≤◌, ℕ, suc, Bool, false, Option, Some, None, List, [], ◌∷◌, ◌++◌, map, length, replicate, Result, Ok, Err, ap, sym, ◌∙◌, subst, inl, inr, arith, refl}
use Rattle.std.proofs.lemmas.List.{length-replicate}
use Rattle.pulse_ids.specs.declared.quantities.Quantity.TheVariants.{Wires}
use Rattle.pulse_ids.specs.Lists.{IsIn}
use Rattle.pulse_ids.specs.Quantities.{greatest_of}
use Rattle.cell_netlist.specs.declared.kinds.Phase.{Phase}
use Rattle.cell_netlist.specs.declared.kinds.Phase.TheVariants.{Excite, Relax}
use Rattle.cell_netlist.specs.Netlists.{PlainNetlist, number_of_wires}
use Rattle.cell_netlist.specs.Runs.{beginning}
use Rattle.cell_netlist.specs.Sound.{IsSound}
use Rattle.cell_netlist.specs.World.{State, start, cleared, opening_pulses}
use Rattle.pulse_world.specs.WorldMoments.{StartIsBeginning, ExciteIsOpened, RelaxIsOpened}
use Rattle.pulse_world.specs.Worlds.{PlainWorld, state_of, phase_of, opened_world, IsWorld}
use Rattle.schedule_replay.specs.declared.replaying.ScriptFault.{ScriptFault}
use Rattle.schedule_replay.specs.Settling.{DeliversInTurn, Anywhere, DeliveriesKeep}
use Rattle.schedule_replay.specs.Orders.{Cycle, MakesCycle, MakesCycles, IsBetween, OneListOfCycles}
use Rattle.schedule_replay.specs.Replaying.{Replays, OneReplay}
use Rattle.schedule_replay.proofs.CallerLemmas.{at_any_place, excited_world, relaxed_world}
use Rattle.pulse_traces.specs.declared.pulse_counts.PulseCounts.{PulseCounts}
use Rattle.pulse_traces.specs.declared.scripts.CycleFault.{CycleFault}
use Rattle.pulse_traces.specs.CycleCounts.{deliveries_in, ones_in}
use Rattle.pulse_traces.specs.EveryOrder.{OneSimulation, OneCount, OneReplayed}
use Rattle.pulse_traces.specs.Orders.{place_of}
use Rattle.pulse_traces.specs.Scripts.{Fails, StopsAt}
use Rattle.pulse_traces.specs.Simulations.{IsStart}

-- the world that an opening gives, by a netlist and a state
abbrev opened_by : Phase → List Bool → PlainNetlist → State → PlainWorld
opened_by phase vector net state = record {
  net = net;
  opened = Some phase;
  vector = vector;
  cell_states = map cleared state.cell_states;
  queue = opening_pulses net phase vector state;
  counted = map (λ _. 0) net.output_rails;
}

-- two starts of a netlist have one first opening
opened-same : (net : PlainNetlist) (vector : List Bool) (one other : PlainWorld) → IsStart net one → IsStart net other
    → opened_world Excite vector one ≡ opened_world Excite vector other
opened-same net vector one other a b =
    ap (λ n. opened_by Excite vector n (state_of one)) (a.net_is ∙ sym b.net_is) ∙ ap (opened_by Excite vector other.net) (a.starts ∙ sym b.starts)

moved-cycle : (names : ℕ → ℕ → ℕ → Type 0) (step : ℕ) (one other mid : PlainWorld) (cycle : Cycle)
    → opened_world Excite cycle.vector one ≡ opened_world Excite cycle.vector other → MakesCycle names step one cycle mid → MakesCycle names step other cycle mid
moved-cycle names step one other mid cycle same made = record {
  middle = made.middle;
  excites = subst (λ w. DeliversInTurn names step w cycle.excite made.middle) same made.excites;
  rests = made.rests;
  relaxes = made.relaxes;
  settled = made.settled;
}

-- so that cycles from one are cycles from the other
restart : (names : ℕ → ℕ → ℕ → Type 0) (step : ℕ) (one other : PlainWorld) → ((vector : List Bool) → opened_world Excite vector one ≡ opened_world Excite vector other)
    → (cycles : List Cycle) (last : PlainWorld) → MakesCycles names step one cycles last → (end : PlainWorld) × MakesCycles names step other cycles end
restart names step one other same [] last h = (other, refl)
restart names step one other same (cycle ∷ cycles) last (mid, made, rest) = (last, (mid, moved-cycle names step one other mid cycle (same cycle.vector) made, rest))

pub one_simulation : OneListOfCycles → OneSimulation
one_simulation one_list order net vectors cycles others a b =
    let again = restart _ 0 a.first b.first (λ v. opened-same net v a.first b.first a.starts b.starts) cycles a.last a.made in
    (one_list (place_of order) 0 b.first cycles others again.0 b.last (a.of_vectors ∙ sym b.of_vectors) again.1 b.made).0

counts-eq : (one other : PulseCounts) → one.deliveries ≡ other.deliveries → one.ones ≡ other.ones → one ≡ other
counts-eq one other d o = go one.deliveries other.deliveries one.ones other.ones d o
  where
    counts_of : ℕ → ℕ → PulseCounts
    counts_of deliveries ones = record { deliveries = deliveries; ones = ones }

    go : (a b c d : ℕ) → a ≡ b → c ≡ d → counts_of a c ≡ counts_of b d
    go a b c d e f = rw (e, f) refl

pub one_count : OneListOfCycles → OneCount
one_count one_list order net vectors counts others a b =
    let same = one_simulation one_list order net vectors a.cycles b.cycles a.simulated b.simulated in
    counts-eq counts others (a.counted.deliveries ∙ (ap deliveries_in same ∙ sym b.counted.deliveries))
    (a.counted.ones ∙ (ap (ones_in net.output_rails) same ∙ sym b.counted.ones))

-- Scripts.

moved-stop : (number : ℕ) (one other : PlainWorld) → ((vector : List Bool) → opened_world Excite vector one ≡ opened_world Excite vector other)
    → (left : List Cycle) (fault : Option CycleFault) → StopsAt number one left fault → StopsAt number other left fault
moved-stop number one other same [] None h = h
moved-stop number one other same [] (Some f) h = h
moved-stop number one other same (c ∷ left) None h = h
moved-stop number one other same (c ∷ left) (Some f) (e, fails) = (e, go f.phase fails)
  where
    go : (phase : Phase) → Fails one c phase f.fault → Fails other c phase f.fault
    go Excite (after, x) = (after, subst (λ w. Replays w c.excite after (Err f.fault)) (same c.vector) x)
    go Relax (m, ok, after, x) = (m, subst (λ w. Replays w c.excite m (Ok tt)) (same c.vector) ok, after, x)

restart-scripts : (number step : ℕ) (one other : PlainWorld) → ((vector : List Bool) → opened_world Excite vector one ≡ opened_world Excite vector other)
    → (made left : List Cycle) (last : PlainWorld) (fault : Option CycleFault) → MakesCycles Anywhere step one made last → StopsAt number last left fault
    → (end : PlainWorld) × MakesCycles Anywhere step other made end × StopsAt number end left fault
restart-scripts number step one other same [] left last fault h s = (other, refl, moved-stop number one other same left fault (subst (λ w. StopsAt number w left fault) h s))
restart-scripts number step one other same (c ∷ made) left last fault (mid, one_made, rest) s =
    (last, (mid, moved-cycle Anywhere step one other mid c (same c.vector) one_made, rest), s)

module _ (one_replay : OneReplay) (keep : DeliveriesKeep) (relaxes : RelaxIsOpened) (excites : ExciteIsOpened) where
  module _ (before : PlainWorld) (c : Cycle) (is : IsWorld (opened_world Excite c.vector before)) where
    abbrev pub first_of : PlainWorld
    first_of = opened_world Excite c.vector before

    pub relaxed-is : (middle : PlainWorld) → Replays first_of c.excite middle (Ok tt) → IsWorld (opened_world Relax c.vector middle)
    relaxed-is middle r =
        let k = keep c.excite first_of middle is r.0 in
        subst (λ v. IsWorld (opened_world Relax v middle)) k.vector (relaxed_world relaxes middle k.world (ap phase_of k.opened) r.1)

    second : (middle other after also : PlainWorld) (r s : Result Unit ScriptFault) → Replays first_of c.excite middle (Ok tt) → Replays first_of c.excite other (Ok tt)
        → Replays (opened_world Relax c.vector middle) c.relax after r → Replays (opened_world Relax c.vector other) c.relax also s → (r ≡ s) × (after ≡ also)
    second middle other after also r s a b x y =
        let same = (one_replay first_of c.excite middle other (Ok tt) (Ok tt) is a b).1 in
        one_replay (opened_world Relax c.vector middle) c.relax after also r s (relaxed-is middle a) x
        (subst (λ m. Replays (opened_world Relax c.vector m) c.relax also s) (sym same) y)

    fails-fails : (phase other : Phase) (fault also : ScriptFault) → Fails before c phase fault → Fails before c other also → (phase ≡ other) × (fault ≡ also)
    fails-fails Excite Excite fault also (a, x) (b, y) = let r = one_replay first_of c.excite a b (Err fault) (Err also) is x y in let e = r.0 in (refl, cc)
    fails-fails Excite Relax fault also (a, x) (m, ok, b, y) = let r = one_replay first_of c.excite a m (Err fault) (Ok tt) is x ok in let e = r.0 in absurd cc
    fails-fails Relax Excite fault also (m, ok, b, y) (a, x) = let r = one_replay first_of c.excite a m (Err also) (Ok tt) is x ok in let e = r.0 in absurd cc
    fails-fails Relax Relax fault also (m, ok, a, x) (n, fine, b, y) =
        let r = second m n a b (Err fault) (Err also) ok fine x y in let e = r.0 in (refl, cc)

    -- both scripts of the cycle were delivered
    abbrev pub Made : PlainWorld → Type 0
    Made after = (middle : PlainWorld) × Replays first_of c.excite middle (Ok tt) × Replays (opened_world Relax c.vector middle) c.relax after (Ok tt)

    fails-made : (phase : Phase) (fault : ScriptFault) (after : PlainWorld) → Fails before c phase fault → Made after → ⊥
    fails-made Excite fault after (a, x) (m, ok, y) = let r = one_replay first_of c.excite a m (Err fault) (Ok tt) is x ok in let e = r.0 in cc
    fails-made Relax fault after (m, ok, a, x) (n, fine, y) = let r = second m n a after (Err fault) (Ok tt) ok fine x y in let e = r.0 in cc

    made-made : (after also : PlainWorld) → Made after → Made also → after ≡ also
    made-made after also (m, ok, x) (n, fine, y) = (second m n after also (Ok tt) (Ok tt) ok fine x y).1

    made-is : (step : ℕ) (after : PlainWorld) → MakesCycle Anywhere step before c after → Made after
    made-is step after made = (
      made.middle,
      (at_any_place Anywhere step 0 c.excite first_of made.middle made.excites, made.rests),
      (at_any_place Anywhere (step + length c.excite) 0 c.relax (opened_world Relax c.vector made.middle) after made.relaxes, made.settled),
    )

    -- the next cycle begins between two cycles
    pub made-between : (after : PlainWorld) → Made after → IsBetween after × (after.net ≡ before.net)
    made-between after (m, ok, x) =
        let k = keep c.excite first_of m is ok.0 in
        let l = keep c.relax (opened_world Relax c.vector m) after (relaxed-is m ok) x.0 in
        (record { world = l.world; phase = ap phase_of l.opened; settled = x.1 }, l.net ∙ k.net)

  -- the first phase of each vector of the width leads to a world
  abbrev IsReady : PlainNetlist → PlainWorld → Type 0
  IsReady net before = (vector : List Bool) → length vector ≡ net.inputs → IsWorld (opened_world Excite vector before)

  between-ready : (net : PlainNetlist) (before : PlainWorld) → IsBetween before → before.net ≡ net → IsReady net before
  between-ready net before between e vector width = excited_world excites before vector between (width ∙ ap (λ (n : PlainNetlist). n.inputs) (sym e))

  fault-eq : (one other : CycleFault) → one.cycle ≡ other.cycle → one.phase ≡ other.phase → one.fault ≡ other.fault → one ≡ other
  fault-eq one other c p f = go one.cycle other.cycle one.phase other.phase one.fault other.fault c p f
    where
      fault_of : ℕ → Phase → ScriptFault → CycleFault
      fault_of cycle phase fault = record { cycle = cycle; phase = phase; fault = fault }

      go : (a b : ℕ) (c d : Phase) (e f : ScriptFault) → a ≡ b → c ≡ d → e ≡ f → fault_of a c e ≡ fault_of b d f
      go a b c d e f x y z = rw (x, y, z) refl

  -- no cycle is left, or the next one has a fault: one only
  one-stop : (net : PlainNetlist) (number : ℕ) (world : PlainWorld) (left : List Cycle) (fault other : Option CycleFault) → IsReady net world
      → ((cycle : Cycle) → IsIn cycle left → length cycle.vector ≡ net.inputs) → StopsAt number world left fault → StopsAt number world left other → fault ≡ other
  one-stop net number world [] None None ready width a b = refl
  one-stop net number world [] None (Some g) ready width a b = absurd b
  one-stop net number world [] (Some f) other ready width a b = absurd a
  one-stop net number world (c ∷ left) None other ready width a b = absurd a
  one-stop net number world (c ∷ left) (Some f) None ready width a b = absurd b
  one-stop net number world (c ∷ left) (Some f) (Some g) ready width (a, x) (b, y) =
      let is = ready c.vector (width c (inl refl)) in
      let same = fails-fails world c is f.phase g.phase f.fault g.fault x y in
      ap (λ (z : CycleFault). Some z) (fault-eq f g (a ∙ sym b) same.0 same.1)

  stop-made : (net : PlainNetlist) (number step : ℕ) (world mid : PlainWorld) (c : Cycle) (left : List Cycle) (fault : Option CycleFault) → IsReady net world
      → length c.vector ≡ net.inputs → StopsAt number world (c ∷ left) fault → MakesCycle Anywhere step world c mid → ⊥
  stop-made net number step world mid c left None ready width a made = a
  stop-made net number step world mid c left (Some f) ready width (a, x) made =
      let is = ready c.vector width in fails-made world c is f.phase f.fault mid x (made-is world c is step mid made)

  -- two ways through the cycles that are asked for are one
  one-way : (net : PlainNetlist) (asked : List Cycle) (number step again : ℕ) (before : PlainWorld) → IsReady net before
      → ((cycle : Cycle) → IsIn cycle asked → length cycle.vector ≡ net.inputs) → (before.net ≡ net)
      → (made left others rest : List Cycle) (last also : PlainWorld) (fault other : Option CycleFault)
      → asked ≡ made ++ left → MakesCycles Anywhere step before made last → StopsAt (number + length made) last left fault
      → asked ≡ others ++ rest → MakesCycles Anywhere again before others also → StopsAt (number + length others) also rest other
      → (made ≡ others) × (fault ≡ other)
  one-way net asked number step again before ready width e [] left [] rest last also fault other p h s q g t =
      let same : left ≡ rest = sym p ∙ q in
      let here = subst (λ w. StopsAt (number + 0) w left fault) h s in
      let there = subst (λ (l : List Cycle). StopsAt (number + 0) before l other) (sym same) (subst (λ w. StopsAt (number + 0) w rest other) g t) in
      (refl, one-stop net (number + 0) before left fault other ready (λ c i. width c (subst (IsIn c) (sym p) i)) here there)
  one-way net asked number step again before ready width e [] left (d ∷ others) rest last also fault other p h s q (mid, made, more) t =
      let same : left ≡ d ∷ (others ++ rest) = sym p ∙ q in
      let here = subst (λ (l : List Cycle). StopsAt (number + 0) before l fault) same (subst (λ w. StopsAt (number + 0) w left fault) h s) in
      absurd (stop-made net (number + 0) again before mid d (others ++ rest) fault ready (width d (subst (IsIn d) (sym q) (inl refl))) here made)
  one-way net asked number step again before ready width e (c ∷ made) left [] rest last also fault other p (mid, one, more) s q g t =
      let same : rest ≡ c ∷ (made ++ left) = sym q ∙ p in
      let there = subst (λ (l : List Cycle). StopsAt (number + 0) before l other) same (subst (λ w. StopsAt (number + 0) w rest other) g t) in
      absurd (stop-made net (number + 0) step before mid c (made ++ left) other ready (width c (subst (IsIn c) (sym p) (inl refl))) there one)
  one-way net asked number step again before ready width e (c ∷ made) left (d ∷ others) rest last also fault other p (mid, one, more) s q (end, two, others_made) t =
      let both : c ∷ (made ++ left) ≡ d ∷ (others ++ rest) = sym p ∙ q in
      let heads : c ≡ d = cc in
      let tails : made ++ left ≡ others ++ rest = cc in
      let is = ready c.vector (width c (subst (IsIn c) (sym p) (inl refl))) in
      let first = made-is before c is step mid one in
      let second_made = made-is before c is again end (subst (λ (x : Cycle). MakesCycle Anywhere again before x end) (sym heads) two) in
      let worlds : mid ≡ end = made-made before c is mid end first second_made in
      let between = made-between before c is mid first in
      let count : number + suc (length made) ≡ suc number + length made = omega arith in
      let counts : number + suc (length others) ≡ suc number + length others = omega arith in
      let go = one-way net (made ++ left) (suc number) (step + length c.excite + length c.relax) (again + length d.excite + length d.relax) mid
      (between-ready net mid between.0 (between.1 ∙ e)) (λ x i. width x (subst (IsIn x) (sym p) (inr i))) (between.1 ∙ e) made left others rest last also fault other
      refl more (subst (λ n. StopsAt n last left fault) count s)
      tails (subst (λ m. MakesCycles Anywhere (again + length d.excite + length d.relax) m others also) (sym worlds) others_made)
      (subst (λ n. StopsAt n also rest other) counts t) in
      (let f = go.0 in cc, go.1)

  -- the start of a netlist
  start-ready : StartIsBeginning → (net : PlainNetlist) (first : PlainWorld) → IsSound net → number_of_wires net ≤ greatest_of Wires → IsStart net first
      → IsReady net first
  start-ready begins net first sound few start_is vector width =
      let zeros = replicate first.net.inputs false in
      let world : PlainWorld = record first { vector = zeros } in
      let stands = begins world (start_is.starts ∙ ap start (sym start_is.net_is)) start_is.unopened in
      let is : IsWorld world = record {
        sound = subst IsSound (sym start_is.net_is) sound;
        few = subst (λ n. number_of_wires n ≤ greatest_of Wires) (sym start_is.net_is) few;
        reached = record { vectors = []; moment = beginning first.net; stands = stands };
        width = length-replicate first.net.inputs false;
      } in
      excited_world excites world vector (record { world = is; phase = ap phase_of start_is.unopened; settled = start_is.settled })
      (width ∙ ap (λ (n : PlainNetlist). n.inputs) (sym start_is.net_is))

  pub one_replayed : StartIsBeginning → OneReplayed
  one_replayed begins net asked made others fault other can a b =
      let ready = start-ready begins net b.first can.sound can.few b.starts in
      let again = restart-scripts (length made) 0 a.first b.first (λ v. opened-same net v a.first b.first a.starts b.starts) made a.up_to.left a.up_to.last fault
      a.up_to.makes a.up_to.stops in
      let one : length made ≡ 0 + length made = omega arith in
      let two : length others ≡ 0 + length others = omega arith in
      one-way net asked 0 0 0 b.first ready can.width b.starts.net_is made a.up_to.left others b.up_to.left again.0 b.up_to.last fault other
      a.up_to.parts again.1 (subst (λ n. StopsAt n again.0 a.up_to.left fault) one again.2) b.up_to.parts b.up_to.makes
      (subst (λ n. StopsAt n b.up_to.last b.up_to.left other) two b.up_to.stops)
