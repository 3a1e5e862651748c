use Rattle.std.proofs.Common.{ℕ, List, length, subst}
use Rattle.std.specs.List.Sorted.{IsPermutation}
use Rattle.std.proofs.lemmas.List.Sorted.{IsNonDecreasingBy-from_sort}
use Rattle.rail_checker.specs.Rails.{IsTwice, IsRepeated, keys_from}
use Rattle.rail_checker.specs.Verdicts.{IsFirst}
use Rattle.rail_checker.proofs.RailKeys.{repeated_twice, twice_repeated}
use Rattle.rail_checker.proofs.Refusing.{first_same}
use Rattle.rail_checker.proofs.repeats.first_twice.Goals as goal

pub returns : goal.returns
returns c =
    let moved : IsPermutation (keys_from 0 c.args.rails.now) c.sort_unstable.new.self.items =
    subst (λ (l : List ℕ). IsPermutation l c.sort_unstable.new.self.items) c.in_ok-keys.ensures c.sort_unstable.ensures.permutation in
    let rising = IsNonDecreasingBy-from_sort (λ (x : ℕ). x) c.sort_unstable.new.self.items c.sort_unstable.ensures.sorted in
    first_same (IsRepeated c.sort_unstable.new.self.items (length c.sort_unstable.new.self.items)) (IsTwice c.args.rails.now)
    (repeated_twice c.args.rails.now c.requires c.sort_unstable.new.self.items moved rising)
    (twice_repeated c.args.rails.now c.requires c.sort_unstable.new.self.items moved rising) c.first_repeated.result
    (subst (λ (l : List ℕ). IsFirst (IsRepeated l (length l)) c.first_repeated.result) c.as_slice.ensures.value c.first_repeated.ensures)
