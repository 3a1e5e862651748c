-- Where a list lies.
use Rattle.std.proofs.Common.{◌≡◌, ◌∙◌, ◌-◌, ◌∷◌, take, drop, get_or, ap, refl, arith}
use Rattle.flat_lists.proofs.EndedLists.{lies_at}
use Rattle.flat_lists.proofs.flat_lists.span_of.Goals as goal

pub returns-clause-rise : goal.returns-clause-rise
returns-clause-rise g c = let lies = lies_at 0 c.args.ends.now c.args.items.now c.args.k c.requires.ends c.requires.there in omega (arith, lies.rise, c.start_of.ensures)

pub returns-clause-within : goal.returns-clause-within
returns-clause-within g c = let lies = lies_at 0 c.args.ends.now c.args.items.now c.args.k c.requires.ends c.requires.there in omega (arith, lies.within)

pub returns-clause-is : goal.returns-clause-is
returns-clause-is g c =
    let ends = c.args.ends.now in
    let from = get_or (0 ∷ ends) c.args.k 0 in
    let same : from - 0 ≡ from = omega arith in
    (lies_at 0 ends c.args.items.now c.args.k c.requires.ends c.requires.there).is ∙ ap (λ n. take (get_or ends c.args.k 0 - from) (drop n c.args.items.now)) same
    ∙ rw c.start_of.ensures refl
