-- The bits of digits.
use Rattle.std.proofs.Common.{◌+◌, drop, get_or, subst}
use Rattle.std.proofs.lemmas.List.{at_drop_more, at_drop_all}
use Rattle.schedule_replay.specs.AddedItems.{AddsItem}
use Rattle.schedule_replay.specs.VectorLines.{bit_of}
use Rattle.schedule_replay.proofs.Adding.{AddsUpTo, one_added, none_added, all_added}
use Rattle.schedule_replay.proofs.vector_lines.push_bits.Goals as goal

pub loop-digit-preserved : goal.loop-digit-preserved
loop-digit-preserved c =
    let digits = c.args.digits.now in
    let i = c.loop-digit.digit-index in
    let so_far = subst (λ rest. AddsUpTo bit_of digits rest c.args.bits.now c.loop-digit.bits) (at_drop_more (λ l. l) digits i 0 c.loop-digit-test.true) c.loop-digit.invariant in
    let adds = subst (λ o. AddsItem c.in_ok-push_if.field-0 o c.loop-digit.bits c.push_if.new.lists) c.bit_of.ensures c.in_ok-push_if.ensures in
    one_added bit_of digits (get_or digits i 0) (drop (i + 1) digits) c.args.bits.now c.loop-digit.bits c.push_if.new.lists c.in_ok-push_if.field-0 c.if-not-branch.false adds so_far

pub returns-then-not-branch : goal.returns-then-not-branch
returns-then-not-branch c =
    let digits = c.args.digits.now in
    let i = c.loop-digit.digit-index in
    let so_far = subst (λ rest. AddsUpTo bit_of digits rest c.args.bits.now c.loop-digit.bits) (at_drop_more (λ l. l) digits i 0 c.loop-digit-test.true) c.loop-digit.invariant in
    let adds = subst (λ o. AddsItem c.in_ok-push_if.field-0 o c.loop-digit.bits c.push_if.new.lists) c.bit_of.ensures c.in_ok-push_if.ensures in
    none_added bit_of digits (get_or digits i 0) (drop (i + 1) digits) c.args.bits.now c.loop-digit.bits c.push_if.new.lists c.in_ok-push_if.field-0
    c.if-not-branch.true adds so_far c.push_if.new.lists

pub returns : goal.returns
returns c =
    let digits = c.args.digits.now in
    all_added bit_of digits c.args.bits.now c.loop-digit.bits
    (subst (λ rest. AddsUpTo bit_of digits rest c.args.bits.now c.loop-digit.bits) (at_drop_all (λ l. l) digits c.loop-digit.digit-index c.loop-digit-test.false) c.loop-digit.invariant)
