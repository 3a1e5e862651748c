use Rattle.std.proofs.Common.{◌≡◌, ◌+◌, ◌++◌, ℕ, List, Some, drop, slice_get, sym, ap, subst, ◌∙◌, arith}
use Rattle.std.proofs.Math.ListN.{drop_of_length-le}
use Rattle.cell_netlist.specs.declared.lines.Rail.{Rail}
use Rattle.rail_checker.specs.Rails.{keys_from}
use Rattle.rail_checker.proofs.RailKeys.{keys_next, append_nil}
use Rattle.rail_checker.proofs.repeats.rail_keys.Goals as goal

pub loop-number-init : goal.loop-number-init
loop-number-init c = ap (λ (l : List ℕ). l ++ keys_from 0 c.args.rails.now) c.in_ok-keys.ensures.items

pub loop-number-preserved : goal.loop-number-preserved
loop-number-preserved c =
    let at : slice_get c.args.rails.now c.loop-number.number ≡ Some c.get.result.now = subst (λ k. slice_get c.args.rails.now k ≡ Some c.get.result.now) c.new.ensures c.get.ensures in
    ap (λ (l : List ℕ). l ++ keys_from (c.loop-number.number + 1) (drop (c.loop-number.number + 1) c.args.rails.now)) c.in_ok-push.ensures.items
    ∙ keys_next c.args.rails.now c.loop-number.number c.get.result.now c.loop-number.keys.items c.key.result at c.key.ensures ∙ c.loop-number.invariant

pub returns : goal.returns
returns c =
    sym (append_nil c.loop-number.keys.items)
    ∙ subst (λ (l : List Rail). c.loop-number.keys.items ++ keys_from c.loop-number.number l ≡ keys_from 0 c.args.rails.now)
    (drop_of_length-le c.args.rails.now (omega arith)) c.loop-number.invariant
