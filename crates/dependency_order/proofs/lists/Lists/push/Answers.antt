use Rattle.std.proofs.Common.{arith, ◌≡◌, ◌+◌, ◌<◌, ◌^◌, ◌++◌, ◌∷◌, [], length, sym, subst, ap, ◌∙◌}
use Rattle.dependency_order.specs.Lists.{lists_from, AreEnds}
use Rattle.dependency_order.proofs.Cuts.{list_more, ends_more}
use Rattle.dependency_order.proofs.lists.Lists.push.Goals as goal

pub returns-clause-lists : goal.returns-clause-lists
returns-clause-lists c =
    let end : c.len-end.result ≡ length c.args.self.now.values.items + length c.args.list.now = omega
    (arith, c.len-end.ensures, c.in_ok-extend_from_slice.ensures.len, c.args.self.now.values.ok.0) in
    let low : c.len-end.result < 2 ^ 32 = omega (arith, end, c.requires.few) in
    let ends : c.push.new.self.items ≡ c.args.self.now.ends.items ++ c.len-end.result ∷ [] = c.in_ok-push.ensures.items ∙ ap (λ n. c.args.self.now.ends.items ++ n ∷ [])
    (omega (arith, low)) in
    ap (λ l. lists_from 0 l c.extend_from_slice.new.self.items) ends ∙ ap (λ l. lists_from 0
    (c.args.self.now.ends.items ++ c.len-end.result ∷ []) l) c.in_ok-extend_from_slice.ensures.items
    ∙ list_more 0 c.args.self.now.ends.items c.args.self.now.values.items c.args.list.now c.len-end.result c.requires.table end

pub returns-clause-table : goal.returns-clause-table
returns-clause-table c =
    let end : c.len-end.result ≡ length c.args.self.now.values.items + length c.args.list.now = omega
    (arith, c.len-end.ensures, c.in_ok-extend_from_slice.ensures.len, c.args.self.now.values.ok.0) in
    let low : c.len-end.result < 2 ^ 32 = omega (arith, end, c.requires.few) in
    let ends : c.push.new.self.items ≡ c.args.self.now.ends.items ++ c.len-end.result ∷ [] = c.in_ok-push.ensures.items ∙ ap (λ n. c.args.self.now.ends.items ++ n ∷ [])
    (omega (arith, low)) in
    subst (λ l. AreEnds 0 l c.extend_from_slice.new.self.items) (sym ends) (subst (λ l. AreEnds 0 (c.args.self.now.ends.items ++ c.len-end.result ∷ []) l)
    (sym c.in_ok-extend_from_slice.ensures.items) (ends_more 0 c.args.self.now.ends.items c.args.self.now.values.items c.args.list.now c.len-end.result c.requires.table end))
