-- A counter is made bit by bit.
use Rattle.std.proofs.Common.{◌≡◌, ℕ, suc, ◌+◌, List, [], ◌∷◌, ◌++◌, map, None, sym, ◌∙◌, ap, arith}
use Rattle.std.specs.declared.option.Option.{Option}
use Rattle.std.proofs.lemmas.List.{append_assoc, append-nil, map_push}
use Rattle.std.proofs.lemmas.Grind.{flat_map-append}
use Rattle.std.specs.List.{flat_map}
use Rattle.pulse_ids.specs.Lists.{upto}
use Rattle.source_machine.specs.Machines.{PlainLiteral, PlainLatch, PlainEquation, PlainMachine}
use Rattle.source_machine.specs.Examples.{plain}
use Rattle.source_machine.specs.Additions.{with_latch, with_output}
use Rattle.workload_circuits.specs.Counters.{held, bit_latch, bit_equations, counter_latches, counter_outputs, counter_equations, with_latches, with_outputs, with_equations}

upto_more : (count : ℕ) → upto (count + 1) ≡ upto count ++ count ∷ []
upto_more count = let next : count + 1 ≡ suc count = omega arith in ap upto next

-- a list by bits, with one bit more
pub map_upto_more : {X : Type 0} (f : ℕ → X) (count : ℕ) → map f (upto (count + 1)) ≡ map f (upto count) ++ f count ∷ []
map_upto_more f count = ap (map f) (upto_more count) ∙ map_push f (upto count) count

pub equations_upto_more : (bits count : ℕ) → counter_equations bits (count + 1) ≡ counter_equations bits count ++ bit_equations bits count
equations_upto_more bits count =
    ap (flat_map (bit_equations bits)) (upto_more count) ∙ flat_map-append (bit_equations bits) (upto count) (count ∷ [])
    ∙ ap (λ (l : List PlainEquation). counter_equations bits count ++ l) (append-nil (bit_equations bits count))

pub no_latches : (machine : PlainMachine) → with_latches machine [] ≡ machine
no_latches machine = ap (λ (l : List PlainLatch). record machine { latches = l }) (append-nil machine.latches)

pub more_latches : (machine : PlainMachine) (bits count : ℕ)
    → with_latch (with_latches machine (counter_latches bits count)) (bit_latch bits count) ≡ with_latches machine (counter_latches bits (count + 1))
more_latches machine bits count =
    ap (λ (l : List PlainLatch). record machine { latches = l })
    (append_assoc machine.latches (counter_latches bits count) (bit_latch bits count ∷ [])
    ∙ ap (λ (l : List PlainLatch). machine.latches ++ l) (sym (map_upto_more (bit_latch bits) count)))

pub no_outputs : (machine : PlainMachine) → with_outputs machine [] ≡ machine
no_outputs machine =
    ap (λ (l : List PlainLiteral). record machine { outputs = l; output_names = machine.output_names ++ [] }) (append-nil machine.outputs)
    ∙ ap (λ (l : List (Option (List ℕ))). record machine { output_names = l }) (append-nil machine.output_names)

nameless_more : (names : List (Option (List ℕ))) (outputs : List PlainLiteral) (output : PlainLiteral)
    → (names ++ map (λ output. None) outputs) ++ None ∷ [] ≡ names ++ map (λ output. None) (outputs ++ output ∷ [])
nameless_more names outputs output =
    append_assoc names (map (λ output. None) outputs) (None ∷ [])
    ∙ ap (λ (l : List (Option (List ℕ))). names ++ l) (sym (map_push (λ output. None) outputs output))

-- one output more behind others
one_output_more : (machine : PlainMachine) (outputs : List PlainLiteral) (output : PlainLiteral)
    → with_output (with_outputs machine outputs) output None ≡ with_outputs machine (outputs ++ output ∷ [])
one_output_more machine outputs output =
    ap (λ (l : List PlainLiteral). record machine { outputs = l; output_names = (machine.output_names ++ map (λ output. None) outputs) ++ None ∷ [] })
    (append_assoc machine.outputs outputs (output ∷ []))
    ∙ ap (λ (l : List (Option (List ℕ))). record machine { outputs = machine.outputs ++ (outputs ++ output ∷ []); output_names = l })
    (nameless_more machine.output_names outputs output)

pub more_outputs : (machine : PlainMachine) (count : ℕ)
    → with_output (with_outputs machine (counter_outputs count)) (plain (held count)) None ≡ with_outputs machine (counter_outputs (count + 1))
more_outputs machine count =
    one_output_more machine (counter_outputs count) (plain (held count))
    ∙ ap (with_outputs machine) (sym (map_upto_more (λ bit. plain (held bit)) count))

pub no_equations : (machine : PlainMachine) → with_equations machine [] ≡ machine
no_equations machine = ap (λ (l : List PlainEquation). record machine { equations = l }) (append-nil machine.equations)

pub more_equations : (machine : PlainMachine) (bits count : ℕ)
    → with_equations (with_equations machine (counter_equations bits count)) (bit_equations bits count) ≡ with_equations machine (counter_equations bits (count + 1))
more_equations machine bits count =
    ap (λ (l : List PlainEquation). record machine { equations = l })
    (append_assoc machine.equations (counter_equations bits count) (bit_equations bits count)
    ∙ ap (λ (l : List PlainEquation). machine.equations ++ l) (sym (equations_upto_more bits count)))
