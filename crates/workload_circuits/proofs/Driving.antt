-- What a counter drives: each of its nets once.
use Rattle.std.proofs.Common.{◌≡◌, ℕ, zero, suc, ◌+◌, ◌*◌, List, [], ◌∷◌, ◌++◌, map, refl, ◌∙◌, ap, arith}
use Rattle.std.proofs.lemmas.List.{map-append}
use Rattle.std.proofs.lemmas.Simd.{map-map}
use Rattle.pulse_ids.specs.Lists.{upto}
use Rattle.source_machine.specs.Machines.{PlainEquation}
use Rattle.source_machine.specs.Runs.{driven_nets}
use Rattle.workload_circuits.specs.Counters.{carry, neither, toggled, bit_latch, bit_equations, counter_latches, counter_equations, counter}
use Rattle.workload_circuits.proofs.Adding.{equations_upto_more}
use Rattle.workload_circuits.proofs.Rising.{rising, rising-append}

held_nets : (bits count : ℕ) → map (λ latch. latch.out) (counter_latches bits count) ≡ rising 2 count
held_nets bits count = map-map (λ latch. latch.out) (bit_latch bits) (upto count)

-- the nets of one bit's equations follow those of the bits below
bit_nets : (bits bit : ℕ) → map (λ equation. equation.net) (bit_equations bits bit) ≡ rising (bits + 2 + 3 * bit) 3
bit_nets bits bit = let first : carry bits bit ≡ carry bits bit + 0 = omega arith in ap (λ (n : ℕ). n ∷ neither bits bit ∷ toggled bits bit ∷ []) first

made_nets : (bits count : ℕ) → map (λ equation. equation.net) (counter_equations bits count) ≡ rising (bits + 2) (3 * count)
made_nets bits zero = refl
made_nets bits (suc count) =
    (let next : suc count ≡ count + 1 = omega arith in
    ap (λ (n : ℕ). map (λ (equation : PlainEquation). equation.net) (counter_equations bits n)) next)
    ∙ ap (map (λ (equation : PlainEquation). equation.net)) (equations_upto_more bits count)
    ∙ map-append (λ (equation : PlainEquation). equation.net) (counter_equations bits count) (bit_equations bits count)
    ∙ ap (λ (l : List ℕ). l ++ map (λ (equation : PlainEquation). equation.net) (bit_equations bits count)) (made_nets bits count)
    ∙ ap (λ (l : List ℕ). rising (bits + 2) (3 * count) ++ l) (bit_nets bits count) ∙ rising-append (bits + 2) (3 * count) 3
    ∙ (let sum : 3 * count + 3 ≡ 3 * suc count = omega arith in ap (rising (bits + 2)) sum)

-- the nets from 1 on, in order
pub counter_drives : (bits : ℕ) → driven_nets (counter bits) ≡ rising 1 (4 * bits + 1)
counter_drives bits =
    ap (λ (l : List ℕ). 1 ∷ (l ++ map (λ (equation : PlainEquation). equation.net) (counter_equations bits bits))) (held_nets bits bits)
    ∙ ap (λ (l : List ℕ). 1 ∷ (rising 2 bits ++ l)) (made_nets bits bits)
    ∙ (let behind : bits + 2 ≡ 2 + bits = omega arith in ap (λ (n : ℕ). 1 ∷ (rising 2 bits ++ rising n (3 * bits))) behind)
    ∙ ap (λ (l : List ℕ). 1 ∷ l) (rising-append 2 bits (3 * bits)) ∙ rising-append 1 1 (bits + 3 * bits)
    ∙ (let all : 1 + (bits + 3 * bits) ≡ 4 * bits + 1 = omega arith in ap (rising 1) all)
