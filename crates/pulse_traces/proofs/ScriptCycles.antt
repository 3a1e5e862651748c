-- The cycles of scripts that were made so far, and what comes of those that are left.
use Rattle.std.proofs.Common.{◌≡◌, ◌⊎◌, ◌+◌, ◌*◌, ◌^◌, ◌≤◌, ◌<◌, ℕ, zero, suc, Bool, List, [], ◌∷◌, ◌++◌, map, length, take, drop, Some, None, Result, Ok, Err, IsErr, slice_get, subst, sym, ap, ◌∙◌, append-nil, append_assoc, take-append-drop, length-append, inl, inr, arith, refl}
use Rattle.std.specs.Prelude.{get_or}
use Rattle.std.specs.declared.option.Option.{Option}
use Rattle.std.proofs.lemmas.Option.{slice_get_within}
use Rattle.std.specs.Io.KnownBytes.{Appends}
use Rattle.std.proofs.KnownBytes.{Appends-trans}
use Rattle.byte_ports.specs.Prefixes.{TookPrefix}
use Rattle.byte_ports.proofs.CallerLemmas.{prefix_of_first, prefix_of_second}
use Rattle.pulse_ids.specs.Ids.{WireId}
use Rattle.pulse_ids.specs.Lists.{IsIn}
use Rattle.cell_netlist.specs.Netlists.{PlainNetlist}
use Rattle.cell_netlist.specs.declared.kinds.Phase.TheVariants.{Excite, Relax}
use Rattle.pulse_world.specs.WorldMoments.{ExciteIsOpened, RelaxIsOpened}
use Rattle.pulse_world.specs.Worlds.{PlainWorld, phase_of, opened_world, IsWorld}
use Rattle.schedule_replay.specs.declared.replaying.ScriptFault.{ScriptFault}
use Rattle.schedule_replay.specs.Orders.{Cycle, vector_of, MakesCycle, MakesCycles, IsBetween}
use Rattle.schedule_replay.specs.Replaying.{Replays, ScriptsEnd}
use Rattle.schedule_replay.specs.Settling.{Anywhere, DeliveriesKeep, Keeps}
use Rattle.schedule_replay.proofs.CallerLemmas.{at_any_place, excited_world, relaxed_world}
use Rattle.pulse_traces.specs.declared.scripts.CycleFault.{CycleFault}
use Rattle.schedule_replay.specs.Logs.{wire_number}
use Rattle.schedule_replay.specs.PlainVectors.{PlainVectors}
use Rattle.pulse_traces.specs.Scripts.{Fails, StopsAt, MakesUpTo, Tells, script_at, scripted, scripted_from, without_fault}
use Rattle.pulse_traces.specs.SimulationTexts.{cycle_text, text_from}
use Rattle.pulse_traces.proofs.Lists.{take-more, drop-more, take-length, take-all, drop-IsIn}
use Rattle.pulse_traces.proofs.CycleLists.{step_after, cycles-append, text-all, text-more}

-- at any places the steps do not matter
pub cycle-anywhere : (step other : ℕ) (before : PlainWorld) (cycle : Cycle) (after : PlainWorld) → MakesCycle Anywhere step before cycle after → MakesCycle Anywhere other before cycle after
cycle-anywhere step other before cycle after made = record {
  middle = made.middle;
  excites = at_any_place Anywhere _ _ _ _ _ made.excites;
  rests = made.rests;
  relaxes = at_any_place Anywhere _ _ _ _ _ made.relaxes;
  settled = made.settled;
}

cycles-anywhere : (step other : ℕ) (before : PlainWorld) (cycles : List Cycle) (after : PlainWorld) → MakesCycles Anywhere step before cycles after → MakesCycles Anywhere other before cycles after
cycles-anywhere step other before [] after h = h
cycles-anywhere step other before (cycle ∷ cycles) after (mid, one, rest) =
    (mid, cycle-anywhere step other before cycle mid one, cycles-anywhere (step + length cycle.excite + length cycle.relax) (other + length cycle.excite + length cycle.relax) mid cycles after rest)

-- both scripts of a cycle were delivered
pub both-made : (before middle after : PlainWorld) (cycle : Cycle) → Replays (opened_world Excite cycle.vector before) cycle.excite middle (Ok tt)
    → Replays (opened_world Relax cycle.vector middle) cycle.relax after (Ok tt) → MakesCycle Anywhere 0 before cycle after
both-made before middle after cycle (excites, rests) (relaxes, settled) = record {
  middle = middle;
  excites = excites;
  rests = rests;
  relaxes = at_any_place Anywhere _ _ _ _ _ relaxes;
  settled = settled;
}

module _ (excites : ExciteIsOpened) (relaxes : RelaxIsOpened) (keep : DeliveriesKeep) (end : ScriptsEnd) where
  -- what comes of a cycle from a settled world
  abbrev CycleEnds : PlainWorld → Cycle → Type 0
  CycleEnds before cycle = ((after : PlainWorld) × MakesCycle Anywhere 0 before cycle after × IsBetween after × (after.net ≡ before.net))
      ⊎ ((fault : ScriptFault) × ((Fails before cycle Excite fault) ⊎ (Fails before cycle Relax fault)))

  relax-ends : (before middle : PlainWorld) (cycle : Cycle) → Replays (opened_world Excite cycle.vector before) cycle.excite middle (Ok tt)
      → IsWorld (opened_world Excite cycle.vector before) → CycleEnds before cycle
  relax-ends before middle cycle done is =
      let kept = keep cycle.excite (opened_world Excite cycle.vector before) middle is done.0 in
      let relaxed = subst (λ v. IsWorld (opened_world Relax v middle)) kept.vector (relaxed_world relaxes middle kept.world (ap phase_of kept.opened) done.1) in
      let second = end (opened_world Relax cycle.vector middle) cycle.relax relaxed in
      go second.0 second.1 second.2 relaxed kept
    where
      go : (after : PlainWorld) (result : Result Unit ScriptFault) → Replays (opened_world Relax cycle.vector middle) cycle.relax after result
          → IsWorld (opened_world Relax cycle.vector middle) → Keeps (opened_world Excite cycle.vector before) middle → CycleEnds before cycle
      go after (Ok u) h relaxed kept =
          let keeps = keep cycle.relax (opened_world Relax cycle.vector middle) after relaxed h.0 in
          inl (
            after,
            both-made before middle after cycle done h,
            record { world = keeps.world; phase = ap phase_of keeps.opened; settled = h.1 },
            keeps.net ∙ kept.net,
          )
      go after (Err fault) h relaxed kept = inr (fault, inr (middle, done, after, h))

  cycle-ends : (before : PlainWorld) (cycle : Cycle) → IsBetween before → length cycle.vector ≡ before.net.inputs → CycleEnds before cycle
  cycle-ends before cycle between width =
      let excited = excited_world excites before cycle.vector between width in
      let first = end (opened_world Excite cycle.vector before) cycle.excite excited in
      go first.0 first.1 first.2 excited
    where
      go : (middle : PlainWorld) (result : Result Unit ScriptFault) → Replays (opened_world Excite cycle.vector before) cycle.excite middle result
          → IsWorld (opened_world Excite cycle.vector before) → CycleEnds before cycle
      go middle (Ok u) h is = relax-ends before middle cycle h is
      go middle (Err fault) h is = inr (fault, inl (middle, h))

  -- what comes of cycles that are asked for after so many
  abbrev Comes : ℕ → PlainWorld → List Cycle → Type 0
  Comes number before asked = (made : List Cycle) × (left : List Cycle) × (fault : Option CycleFault) × (last : PlainWorld) × (asked ≡ made ++ left)
      × MakesCycles Anywhere 0 before made last × StopsAt (number + length made) last left fault

  pub comes : (number : ℕ) (before : PlainWorld) (asked : List Cycle) → IsBetween before → ((cycle : Cycle) → IsIn cycle asked → length cycle.vector ≡ before.net.inputs) → Comes number before asked
  comes number before [] between width = ([], [], None, before, refl, refl, tt)
  comes number before (cycle ∷ asked) between width =
      go (cycle-ends before cycle between (width cycle (inl refl))) (λ after stays same. comes (number + 1) after asked stays (λ c i. width c (inr i) ∙ ap (λ (n : PlainNetlist). n.inputs) (sym same)))
    where
      go : CycleEnds before cycle → ((after : PlainWorld) → IsBetween after → after.net ≡ before.net → Comes (number + 1) after asked) → Comes number before (cycle ∷ asked)
      go (inl (after, made, stays, same)) onward =
          let rest = onward after stays same in
          let sum : number + 1 + length rest.0 ≡ number + suc (length rest.0) = omega arith in (
            cycle ∷ rest.0,
            rest.1,
            rest.2,
            rest.3,
            ap (λ (cs : List Cycle). cycle ∷ cs) rest.4,
            (after, made, cycles-anywhere 0 (0 + length cycle.excite + length cycle.relax) after rest.0 rest.3 rest.5),
            subst (λ n. StopsAt n rest.3 rest.1 rest.2) sum rest.6,
          )
      go (inr (fault, inl fails)) onward = ([], cycle ∷ asked, Some (record { cycle = number; phase = Excite; fault = fault }), before, refl, refl, (omega arith, fails))
      go (inr (fault, inr fails)) onward = ([], cycle ∷ asked, Some (record { cycle = number; phase = Relax; fault = fault }), before, refl, refl, (omega arith, fails))

-- the first of the cycles that are asked for were made and their text was written
pub record ScriptsSo (trace : Bool) (world : PlainWorld) (asked : List Cycle) (old : Option (List ℕ)) (number : ℕ) (mid : PlainWorld) (now : Option (List ℕ)) : Type 0 where
  pub made : MakesCycles Anywhere 0 world (take number asked) mid
  pub grown : Appends old now (text_from trace world.net.output_rails 0 (take number asked))

module _ (trace : Bool) (world : PlainWorld) (asked : List Cycle) (old : Option (List ℕ)) (number : ℕ) (mid : PlainWorld) (cycle : Cycle) (now : Option (List ℕ))
    (so : ScriptsSo trace world asked old number mid now) (at : slice_get asked number ≡ Some cycle) where
  count : length (take number asked) ≡ number
  count = let within = slice_get_within asked number cycle at in take-length asked number (omega arith)

  module _ (after : PlainWorld) (new : Option (List ℕ)) (made : MakesCycle Anywhere 0 mid cycle after) where
    made-longer : MakesCycles Anywhere 0 world (take (number + 1) asked) after
    made-longer = subst (λ cs. MakesCycles Anywhere 0 world cs after) (sym (take-more asked number cycle at))
        (cycles-append Anywhere 0 world mid after (take number asked) (cycle ∷ []) so.made (after, cycle-anywhere 0 (step_after 0 (take number asked)) mid cycle after made, refl))

    text-longer : text_from trace world.net.output_rails 0 (take (number + 1) asked)
        ≡ text_from trace world.net.output_rails 0 (take number asked) ++ cycle_text trace world.net.output_rails number cycle
    text-longer = ap (text_from trace world.net.output_rails 0) (take-more asked number cycle at)
        ∙ (text-more trace world.net.output_rails (take number asked) cycle
        ∙ ap (λ n. text_from trace world.net.output_rails 0 (take number asked) ++ cycle_text trace world.net.output_rails n cycle) count)

    -- the next cycle was written
    pub scripts-more : Appends now new (cycle_text trace world.net.output_rails number cycle) → ScriptsSo trace world asked old (number + 1) after new
    scripts-more grown = record {
      made = made-longer;
      grown = subst (Appends old new) (sym text-longer)
          (Appends-trans old now new (text_from trace world.net.output_rails 0 (take number asked)) (cycle_text trace world.net.output_rails number cycle) so.grown grown);
    }

    -- the next cycle was not written whole: what was written is a prefix of the text of all that are made
    pub scripts-failed : ExciteIsOpened → RelaxIsOpened → DeliveriesKeep → ScriptsEnd → IsBetween after → ((c : Cycle) → IsIn c asked → length c.vector ≡ after.net.inputs)
        → TookPrefix now new (cycle_text trace world.net.output_rails number cycle)
        → (all : List Cycle) × (fault : Option CycleFault) × MakesUpTo world asked all fault × TookPrefix old new (text_from trace world.net.output_rails 0 all)
    scripts-failed excites relaxes keep end between width took =
        let rest = comes excites relaxes keep end (number + 1) after (drop (number + 1) asked) between (λ c i. width c (drop-IsIn (number + 1) asked c i)) in
        let rails = world.net.output_rails in
        let longer = take (number + 1) asked in
        let so_far = text_from trace rails 0 (take number asked) in
        let one = cycle_text trace rails number cycle in
        let within = slice_get_within asked number cycle at in
        let many : length longer ≡ number + 1 = take-length asked (number + 1) (omega arith) in (
          longer ++ rest.0,
          rest.2,
          record {
            last = rest.3;
            left = rest.1;
            parts = sym (take-append-drop (number + 1) asked) ∙ (ap (λ cs. longer ++ cs) rest.4 ∙ sym (append_assoc longer rest.0 rest.1));
            makes = cycles-append Anywhere 0 world after rest.3 longer rest.0 made-longer (cycles-anywhere 0 (step_after 0 longer) after rest.0 rest.3 rest.5);
            stops = subst (λ n. StopsAt n rest.3 rest.1 rest.2) (sym (length-append longer rest.0 ∙ ap (λ n. n + length rest.0) many)) rest.6;
          },
          subst (TookPrefix old new) (sym (text-all trace rails longer rest.0 ∙ ap (λ l. l ++ text_from trace rails (length longer) rest.0) text-longer))
              (prefix_of_first old new (so_far ++ one) (text_from trace rails (length longer) rest.0) (prefix_of_second old now new so_far one so.grown took)),
        )

  -- the next cycle has a fault
  pub scripts-stop : (fault : CycleFault) → fault.cycle ≡ number → Fails mid cycle fault.phase fault.fault → MakesUpTo world asked (take number asked) (Some fault)
  scripts-stop fault is fails = record {
    last = mid;
    left = cycle ∷ drop (number + 1) asked;
    parts = sym (take-append-drop number asked) ∙ ap (λ cs. take number asked ++ cs) (drop-more asked number cycle at);
    makes = so.made;
    stops = (is ∙ sym count, fails);
  }

-- all cycles were made
pub scripts-all : (trace : Bool) (world : PlainWorld) (asked : List Cycle) (old : Option (List ℕ)) (number : ℕ) (mid : PlainWorld) (now : Option (List ℕ))
    → ScriptsSo trace world asked old number mid now → length asked ≤ number → MakesUpTo world asked (take number asked) None
scripts-all trace world asked old number mid now so le = record {
  last = mid;
  left = [];
  parts = sym (append-nil (take number asked) ∙ take-all asked number le);
  makes = so.made;
  stops = tt;
}

-- the cycle of a number among those that vectors and scripts ask for
asked-from : (number k : ℕ) (vectors : List (List Bool)) (scripts : List (List WireId)) (vector : List Bool) → slice_get vectors k ≡ Some vector
    → slice_get (scripted_from number vectors scripts) k
    ≡ Some (record { vector = vector; excite = script_at scripts (2 * (number + k)); relax = script_at scripts (2 * (number + k) + 1) })
asked-from number k [] scripts vector e = cc
asked-from number zero (v ∷ vectors) scripts vector e =
    let same : v ≡ vector = cc in
    let n : number ≡ number + 0 = omega arith in
    ap (λ (x : List Bool × ℕ). Some (cycle-of x.0 (script_at scripts (2 * x.1)) (script_at scripts (2 * x.1 + 1)))) (pair-is v vector number (number + 0) same n)
  where
    cycle-of : List Bool → List ℕ → List ℕ → Cycle
    cycle-of v e r = record { vector = v; excite = e; relax = r }

    pair-is : (v w : List Bool) (m n : ℕ) → v ≡ w → m ≡ n → ◌≡◌ {A = List Bool × ℕ} (v, m) (w, n)
    pair-is v w m n e f = rw (e, f) refl
asked-from number (suc k) (v ∷ vectors) scripts vector e =
    let n : number + 1 + k ≡ number + suc k = omega arith in
    subst (λ m. slice_get (scripted_from (number + 1) vectors scripts) k ≡ Some (record { vector = vector; excite = script_at scripts (2 * m); relax = script_at scripts (2 * m + 1) }))
    n (asked-from (number + 1) k vectors scripts vector e)

pub asked-is : (read : PlainVectors) (k : ℕ) (vector : List Bool) (excite relax : List WireId) → slice_get read.vectors k ≡ Some vector → excite ≡ get_or read.scripts (2 * k) []
    → relax ≡ get_or read.scripts (2 * k + 1) [] → slice_get (scripted read) k ≡ Some (record { vector = vector; excite = map wire_number excite; relax = map wire_number relax })
asked-is read k vector excite relax at e r =
    let same : 0 + k ≡ k = omega arith in
    subst (λ x. slice_get (scripted read) k ≡ Some (record { vector = vector; excite = map wire_number x; relax = map wire_number relax })) (sym e)
    (subst (λ x. slice_get (scripted read) k ≡ Some (record { vector = vector; excite = script_at read.scripts (2 * k); relax = map wire_number x })) (sym r)
    (subst (λ m. slice_get (scripted read) k ≡ Some (record { vector = vector; excite = script_at read.scripts (2 * m); relax = script_at read.scripts (2 * m + 1) }))
    same (asked-from 0 k read.vectors read.scripts vector at)))

pub asked-length : (number : ℕ) (vectors : List (List Bool)) (scripts : List (List WireId)) → length (scripted_from number vectors scripts) ≡ length vectors
asked-length number [] scripts = refl
asked-length number (v ∷ vectors) scripts = ap suc (asked-length (number + 1) vectors scripts)

pub asked-vector : (number : ℕ) (vectors : List (List Bool)) (scripts : List (List WireId)) (cycle : Cycle) → IsIn cycle (scripted_from number vectors scripts) → IsIn cycle.vector vectors
asked-vector number [] scripts cycle i = absurd i
asked-vector number (v ∷ vectors) scripts cycle (inl e) = inl (ap vector_of e)
asked-vector number (v ∷ vectors) scripts cycle (inr i) = inr (asked-vector (number + 1) vectors scripts cycle i)

-- no script is too long
pub short-at : (scripts : List (List WireId)) (k : ℕ) (script : List WireId) → ((one : List WireId) → IsIn one scripts → length one < 2 ^ 32) → script ≡ get_or scripts k [] → length script < 2 ^ 32
short-at [] k script short e = subst (λ (s : List WireId). length s < 2 ^ 32) (sym e) (omega arith)
short-at (one ∷ scripts) zero script short e = subst (λ (s : List WireId). length s < 2 ^ 32) (sym e) (short one (inl refl))
short-at (one ∷ scripts) (suc k) script short e = short-at scripts k script (λ s i. short s (inr i)) e

-- an answer that is a failure
pub tells-failed : {E : Type 0} (fault : Option CycleFault) (answer : Result (Option CycleFault) E) → IsErr answer → Tells fault answer
tells-failed fault (Ok told) err = cc
tells-failed fault (Err x) err = tt

pub failed-without : {E : Type 0} (answer : Result (Option CycleFault) E) → IsErr answer → IsErr (without_fault answer)
failed-without (Ok told) err = cc
failed-without (Err x) err = refl
