-- A counter is in range and well founded.
use Rattle.std.proofs.Common.{◌≡◌, ℕ, zero, suc, ◌+◌, ◌*◌, ◌≤◌, ◌<◌, inl, inr, List, [], ◌∷◌, ◌++◌, length, map, All, IfSome, None, refl, sym, ◌∙◌, ap, subst, arith}
use Rattle.std.proofs.lemmas.List.{length-map}
use Rattle.std.proofs.lemmas.List.Elements.{All-nil, All-cons, All-append, All-from_recursion}
use Rattle.pulse_ids.specs.Names.{IsPortName}
use Rattle.pulse_ids.specs.Lists.{IsIn, occurrences, upto}
use Rattle.pulse_ids.proofs.CallerLemmas.{IsIn-map, IsIn-from_map, IsIn-flat_map, IsIn-from_flat_map}
use Rattle.pulse_ids.proofs.CallerLemmasOnCounts.{length-upto}
use Rattle.source_machine.specs.Machines.{PlainLiteral, PlainEquation}
use Rattle.source_machine.specs.Examples.{plain, inverse}
use Rattle.source_machine.specs.Fitting.{LiteralFits, EquationFits, LatchFits, IsNumbered, Fits, size_of_equations}
use Rattle.source_machine.specs.Grounding.{Grounded, of_input, of_latch, of_equation, IsWellFounded, driven_twice, undriven, ungrounded}
use Rattle.source_machine.specs.Refusals.{IsRefusedFor}
use Rattle.source_machine.specs.Laws.{FoundedIsNotRefused}
use Rattle.source_machine.specs.declared.grounding.Grounding.{Grounding}
use Rattle.source_machine.specs.declared.grounding.Grounding.TheVariants as refusals
use Rattle.source_machine.proofs.CallerLemmasOnRanges.{used_in_range}
use Rattle.workload_circuits.specs.Counters.{held, carry, neither, toggled, incoming, conjunction, bit_latch, bit_equations, counter_latches, counter_outputs, counter_equations, counter}
use Rattle.workload_circuits.proofs.Adding.{equations_upto_more}
use Rattle.workload_circuits.proofs.Rising.{upto-IsIn, IsIn-upto, all_upto, rising-IsIn, rising_once}
use Rattle.workload_circuits.proofs.Driving.{counter_drives}

module _ (bits : ℕ) where
  held_grounded : (bit : ℕ) → bit < bits → Grounded (counter bits) (held bit)
  held_grounded bit lt =
      of_latch (held bit) (IsIn-map (λ latch. latch.out) (bit_latch bits bit) (counter_latches bits bits) (IsIn-map (bit_latch bits) bit (upto bits) (upto-IsIn bits bit lt)))

  both_grounded : (a b used : ℕ) → Grounded (counter bits) a → Grounded (counter bits) b → IsIn used (a ∷ b ∷ []) → Grounded (counter bits) used
  both_grounded a b used g h (inl e) = subst (Grounded (counter bits)) e g
  both_grounded a b used g h (inr (inl e)) = subst (Grounded (counter bits)) e h
  both_grounded a b used g h (inr (inr i)) = absurd i

  -- an equation of a bit is grounded where its two literals are
  made_grounded : (bit net : ℕ) (first second : PlainLiteral) → bit < bits → IsIn (conjunction net first second) (bit_equations bits bit)
      → Grounded (counter bits) first.net → Grounded (counter bits) second.net → Grounded (counter bits) net
  made_grounded bit net first second lt i g h =
      of_equation net (conjunction net first second)
      (IsIn-flat_map (bit_equations bits) (conjunction net first second) bit (upto bits) (upto-IsIn bits bit lt) i)
      refl (λ used j. both_grounded first.net second.net used g h j)

  incoming_grounded : (bit : ℕ) → bit < bits → Grounded (counter bits) (incoming bits bit)
  incoming_grounded zero lt = of_input 1 (inl refl)
  incoming_grounded (suc bit) lt =
      made_grounded bit (carry bits bit) (plain (held bit)) (plain (incoming bits bit)) (omega arith) (inl refl) (held_grounded bit (omega arith))
      (incoming_grounded bit (omega arith))

  carry_grounded : (bit : ℕ) → bit < bits → Grounded (counter bits) (carry bits bit)
  carry_grounded bit lt =
      made_grounded bit (carry bits bit) (plain (held bit)) (plain (incoming bits bit)) lt (inl refl) (held_grounded bit lt) (incoming_grounded bit lt)

  neither_grounded : (bit : ℕ) → bit < bits → Grounded (counter bits) (neither bits bit)
  neither_grounded bit lt =
      made_grounded bit (neither bits bit) (inverse (held bit)) (inverse (incoming bits bit)) lt (inr (inl refl)) (held_grounded bit lt)
      (incoming_grounded bit lt)

  toggled_grounded : (bit : ℕ) → bit < bits → Grounded (counter bits) (toggled bits bit)
  toggled_grounded bit lt =
      made_grounded bit (toggled bits bit) (inverse (carry bits bit)) (inverse (neither bits bit)) lt (inr (inr (inl refl))) (carry_grounded bit lt)
      (neither_grounded bit lt)

  bit_grounded : (bit : ℕ) → bit < bits → (equation : PlainEquation) → IsIn equation (bit_equations bits bit) → Grounded (counter bits) equation.net
  bit_grounded bit lt equation (inl e) = subst (λ (x : PlainEquation). Grounded (counter bits) x.net) e (carry_grounded bit lt)
  bit_grounded bit lt equation (inr (inl e)) = subst (λ (x : PlainEquation). Grounded (counter bits) x.net) e (neither_grounded bit lt)
  bit_grounded bit lt equation (inr (inr (inl e))) = subst (λ (x : PlainEquation). Grounded (counter bits) x.net) e (toggled_grounded bit lt)
  bit_grounded bit lt equation (inr (inr (inr i))) = absurd i

  all_grounded : (net : ℕ) → IsIn net (map (λ equation. equation.net) (counter_equations bits bits)) → Grounded (counter bits) net
  all_grounded net h =
      let e = IsIn-from_map (λ (equation : PlainEquation). equation.net) net (counter_equations bits bits) h in
      let b = IsIn-from_flat_map (bit_equations bits) e.0 (upto bits) e.1 in
      subst (Grounded (counter bits)) e.2 (bit_grounded b.0 (IsIn-upto bits b.0 b.1) e.0 b.2)

-- three equations of one cube of two literals for each bit
size-append : (one other : List PlainEquation) → size_of_equations (one ++ other) ≡ size_of_equations one + size_of_equations other
size-append [] other = omega arith
size-append (equation ∷ one) other = let rest = size-append one other in omega arith

counter_size : (bits count : ℕ) → size_of_equations (counter_equations bits count) ≡ 9 * count
counter_size bits zero = refl
counter_size bits (suc count) =
    (let next : suc count ≡ count + 1 = omega arith in ap (λ (n : ℕ). size_of_equations (counter_equations bits n)) next)
    ∙ ap size_of_equations (equations_upto_more bits count)
    ∙ (let parts = size-append (counter_equations bits count) (bit_equations bits count) in
    let rest = counter_size bits count in
    omega arith)

-- the nets of a bit are numbered
bit_fits : (bits bit : ℕ) → bit < bits → All (EquationFits (4 * bits + 1)) (bit_equations bits bit)
bit_fits bits bit lt =
    All-from_recursion (EquationFits (4 * bits + 1)) (bit_equations bits bit) (
      one (carry bits bit) (plain (held bit)) (plain (incoming bits bit)) (omega arith, omega arith) (omega arith) (low bit lt),
      (
        one (neither bits bit) (inverse (held bit)) (inverse (incoming bits bit)) (omega arith, omega arith) (omega arith) (low bit lt),
        (one (toggled bits bit) (inverse (carry bits bit)) (inverse (neither bits bit)) (omega arith, omega arith) (omega arith) (omega arith), tt),
      ),
    )
  where
    low : (k : ℕ) → k < bits → incoming bits k ≤ 4 * bits + 1
    low zero h = omega arith
    low (suc k) h = omega arith

    one : (net : ℕ) (first second : PlainLiteral) → IsNumbered (4 * bits + 1) net → first.net ≤ 4 * bits + 1 → second.net ≤ 4 * bits + 1
        → EquationFits (4 * bits + 1) (conjunction net first second)
    one net first second numbered p q =
        (numbered, All-from_recursion (All (LiteralFits (4 * bits + 1))) ((first ∷ second ∷ []) ∷ []) (All-from_recursion (LiteralFits (4 * bits + 1)) (first ∷ second ∷ []) (p, (q, tt)), tt))

equations_fit : (bits count : ℕ) → count ≤ bits → All (EquationFits (4 * bits + 1)) (counter_equations bits count)
equations_fit bits zero le = All-nil (EquationFits (4 * bits + 1))
equations_fit bits (suc count) le =
    (let next : count + 1 ≡ suc count = omega arith in
    subst (λ (n : ℕ). All (EquationFits (4 * bits + 1)) (counter_equations bits n)) next
    (subst (All (EquationFits (4 * bits + 1))) (sym (equations_upto_more bits count))
    (All-append (EquationFits (4 * bits + 1)) (counter_equations bits count) (bit_equations bits count) (equations_fit bits count (omega arith)) (bit_fits bits count (omega arith)))))

outputs_counted : (count : ℕ) → length (counter_outputs count) ≡ count
outputs_counted count = length-map (upto count) (λ bit. plain (held bit)) ∙ length-upto count

nameless : (outputs : List PlainLiteral) → All (λ name. IfSome name IsPortName) (map (λ output. None) outputs)
nameless [] = All-nil (λ name. IfSome name IsPortName)
nameless (output ∷ outputs) = All-cons (λ name. IfSome name IsPortName) None (map (λ output. None) outputs) tt (nameless outputs)

pub counters_fit : (bits : ℕ) → bits ≤ 4096 → Fits (counter bits)
counters_fit bits le = record {
  nets_fit = record {
    inputs_fit = All-from_recursion (IsNumbered (4 * bits + 1)) (1 ∷ []) ((omega arith, omega arith), tt);
    latches_fit = all_upto (LatchFits (4 * bits + 1)) (bit_latch bits) bits (λ bit lt. ((omega arith, omega arith), omega arith));
    equations_fit = equations_fit bits bits (omega arith);
    outputs_fit = all_upto (LiteralFits (4 * bits + 1)) (λ bit. plain (held bit)) bits (λ bit lt. omega arith);
  };
  input_names_fit = (refl, All-from_recursion (λ name. IfSome name IsPortName) (None ∷ []) (tt, tt));
  output_names_fit = (length-map (counter_outputs bits) (λ output. None), nameless (counter_outputs bits));
  limits = record {
    few_inputs = omega arith;
    few_outputs = omega (arith, outputs_counted bits);
    few_latches = omega (arith, length-map (upto bits) (bit_latch bits), length-upto bits);
    few_nets = omega arith;
    small = omega (arith, counter_size bits bits);
  };
}

pub counters_are_founded : (bits : ℕ) → bits ≤ 4096 → IsWellFounded (counter bits)
counters_are_founded bits le = record {
  driven_once = λ net twice. let once = subst (λ (l : List ℕ). occurrences net l ≤ 1) (sym (counter_drives bits)) (rising_once 1 (4 * bits + 1) net) in omega arith;
  all_driven = λ net ne used.
      let low = used_in_range (counter bits) (counters_fit bits le) net used in
      subst (IsIn net) (sym (counter_drives bits)) (rising-IsIn 1 (4 * bits + 1) net (omega arith) (omega arith));
  all_grounded = all_grounded bits;
}

pub counters_are_not_refused : FoundedIsNotRefused → (bits : ℕ) → bits ≤ 4096 → (refusal : Grounding) → IsRefusedFor (counter bits) refusal → refusal ≡ refusals.NoMemory
counters_are_not_refused law bits le (refusals.DoubleDriver net) h = absurd (law (counter bits) (counters_are_founded bits le) (driven_twice net.number) h)
counters_are_not_refused law bits le (refusals.Undriven net) h = absurd (law (counter bits) (counters_are_founded bits le) (undriven net.number) h)
counters_are_not_refused law bits le (refusals.Cycle net) h = absurd (law (counter bits) (counters_are_founded bits le) (ungrounded net.number) h)
counters_are_not_refused law bits le refusals.NoMemory h = refl
