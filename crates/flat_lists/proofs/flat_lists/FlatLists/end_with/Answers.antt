-- More items, and the list ends.
use Rattle.std.proofs.Common.{◌≡◌, ◌∙◌, ◌+◌, ◌++◌, ◌∷◌, [], length, ap, sym, subst, arith}
use Rattle.flat_lists.specs.FlatLists.{PlainLists, AreEnds, lists_of}
use Rattle.flat_lists.proofs.EndedLists.{end-added, ends-stay, ended_with}
use Rattle.flat_lists.proofs.flat_lists.FlatLists.end_with.Goals as goal

pub invariant_of-self-2 : goal.invariant_of-self-2
invariant_of-self-2 g c =
    let ends = c.self.inside.ends.items in
    let items = c.self.inside.items.items in
    let more = c.args.items.now in
    let all = c.len.result in
    let grown = c.in_ok-extend_from_slice.ensures.items in
    let longer = ap length grown in
    let size : all ≡ 0 + length (items ++ more) = omega (arith, c.len.ensures, c.extend_from_slice.new.self.ok.0, longer) in
    subst (λ ends. AreEnds 0 ends c.extend_from_slice.new.self.items) (sym (c.push_reserved.ensures.items ∙ ap (λ ends. ends ++ all ∷ []) c.in_ok-reserve.ensures.items))
    (subst (AreEnds 0 (ends ++ all ∷ [])) (sym grown) (end-added 0 ends (items ++ more) all size (ends-stay 0 ends items more c.self.invariant)))

pub returns-clause-ended : goal.returns-clause-ended
returns-clause-ended g c =
    let ends = c.self.inside.ends.items in
    let items = c.self.inside.items.items in
    let more = c.args.items.now in
    let all = c.len.result in
    let grown = c.in_ok-extend_from_slice.ensures.items in
    let longer = ap length grown in
    let size : all ≡ length (items ++ more) = omega (arith, c.len.ensures, c.extend_from_slice.new.self.ok.0, longer) in
    ap (λ ends. lists_of ends c.extend_from_slice.new.self.items) (c.push_reserved.ensures.items ∙ ap (λ ends. ends ++ all ∷ []) c.in_ok-reserve.ensures.items)
    ∙ ap (lists_of (ends ++ all ∷ [])) grown
    ∙ ended_with ends items more all size c.self.invariant
    ∙ ap (λ (l : PlainLists g.row.T.Denot). record { lists = l.lists ++ (l.begun ++ more) ∷ []; begun = [] }) c.self.view_is
