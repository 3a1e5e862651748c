-- One cycle more behind others.
use Rattle.std.proofs.Common.{◌≡◌, ◌+◌, ℕ, Bool, Some, List, [], ◌∷◌, ◌++◌, take, slice_get, subst, refl, ap, ◌∙◌}
use Rattle.std.proofs.lemmas.List.{take_more}
use Rattle.std.proofs.lemmas.Option.{slice_get_within}
use Rattle.cell_netlist.specs.Netlists.{PlainNetlist}
use Rattle.cell_netlist.specs.World.{State}
use Rattle.timed_texts.proofs.TextLines.{item_read}
use Rattle.timed_texts.specs.declared.cycles.PhaseTimes.{PhaseTimes}
use Rattle.timed_texts.specs.TimedCycles.{TimesCycle, TimesCycles}
use Rattle.timed_world.specs.Delays.{PlainDelays}

pub cycles_more : (delays : PlainDelays) (net : PlainNetlist) (vectors : List (List Bool)) (cycles : List PhaseTimes) (before mid after : State)
    (vector : List Bool) (times : PhaseTimes) → TimesCycles delays net before vectors cycles mid → TimesCycle delays net mid vector times after
    → TimesCycles delays net before (vectors ++ vector ∷ []) (cycles ++ times ∷ []) after
cycles_more delays net [] [] before mid after vector times e one = (after, subst (λ s. TimesCycle delays net s vector times after) e one, refl)
cycles_more delays net [] (t ∷ cycles) before mid after vector times h one = absurd h
cycles_more delays net (v ∷ vectors) [] before mid after vector times h one = absurd h
cycles_more delays net (v ∷ vectors) (t ∷ cycles) before mid after vector times (next, first, rest) one =
    (next, first, cycles_more delays net vectors cycles next mid after vector times rest one)

-- the first vectors and the next one
pub vectors_more : (vectors : List (List Bool)) (number : ℕ) (vector : List Bool) → slice_get vectors number ≡ Some vector
    → take (number + 1) vectors ≡ take number vectors ++ vector ∷ []
vectors_more vectors number vector e =
    take_more vectors number vector (slice_get_within vectors number vector e)
    ∙ ap (λ v. take number vectors ++ v ∷ []) (item_read vectors number vector e)

-- a cycle more of the first vectors
pub cycles_next : (delays : PlainDelays) (net : PlainNetlist) (vectors : List (List Bool)) (number : ℕ) (vector : List Bool) (cycles longer : List PhaseTimes)
    (times : PhaseTimes) (before mid after : State) → slice_get vectors number ≡ Some vector → longer ≡ cycles ++ times ∷ []
    → TimesCycles delays net before (take number vectors) cycles mid → TimesCycle delays net mid vector times after
    → TimesCycles delays net before (take (number + 1) vectors) longer after
cycles_next delays net vectors number vector cycles longer times before mid after at is so one =
    rw (is, vectors_more vectors number vector at) (cycles_more delays net (take number vectors) cycles before mid after vector times so one)
