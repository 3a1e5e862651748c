-- The wires of numbers.
use Rattle.std.proofs.Common.{subst}
use Rattle.std.specs.Prelude.{IfOk}
use Rattle.schedule_replay.specs.AddedItems.{AddsItem}
use Rattle.schedule_replay.specs.VectorLines.{wire_of, spaced}
use Rattle.schedule_replay.proofs.Adding.{AddsUpTo, one_added, none_added, last_if}
use Rattle.schedule_replay.proofs.Spaces.{parts_of, whole_of}
use Rattle.schedule_replay.proofs.vector_lines.push_wires.Goals as goal

pub loop-number-preserved : goal.loop-number-preserved
loop-number-preserved c =
    let numbers = spaced c.args.numbers.now in
    let parts = parts_of c.loop-number.rest.now c.in-Some.number.now c.in-Some.after.now c.in-Some.ensures.found in
    let so_far = subst (λ rest. AddsUpTo wire_of numbers rest c.args.wires.now c.loop-number.wires) parts.spaced_is c.loop-number.invariant in
    let adds = subst (λ o. AddsItem c.in_ok-push_if.field-0 o c.loop-number.wires c.push_if.new.lists) c.wire_of.ensures c.in_ok-push_if.ensures in
    one_added wire_of numbers c.in-Some.number.now (spaced c.in-Some.after.now) c.args.wires.now c.loop-number.wires c.push_if.new.lists c.in_ok-push_if.field-0
    c.if-not-branch.false adds so_far

pub loop-number-smaller : goal.loop-number-smaller
loop-number-smaller c = (parts_of c.loop-number.rest.now c.in-Some.number.now c.in-Some.after.now c.in-Some.ensures.found).shorter

pub returns-then-not-branch : goal.returns-then-not-branch
returns-then-not-branch c =
    let numbers = spaced c.args.numbers.now in
    let parts = parts_of c.loop-number.rest.now c.in-Some.number.now c.in-Some.after.now c.in-Some.ensures.found in
    let so_far = subst (λ rest. AddsUpTo wire_of numbers rest c.args.wires.now c.loop-number.wires) parts.spaced_is c.loop-number.invariant in
    let adds = subst (λ o. AddsItem c.in_ok-push_if.field-0 o c.loop-number.wires c.push_if.new.lists) c.wire_of.ensures c.in_ok-push_if.ensures in
    none_added wire_of numbers c.in-Some.number.now (spaced c.in-Some.after.now) c.args.wires.now c.loop-number.wires c.push_if.new.lists c.in_ok-push_if.field-0
    c.if-not-branch.true adds so_far c.push_if.new.lists

pub returns : goal.returns
returns c =
    let numbers = spaced c.args.numbers.now in
    let rest = c.loop-number.rest.now in
    let so_far = subst (λ parts. AddsUpTo wire_of numbers parts c.args.wires.now c.loop-number.wires) (whole_of rest c.in_default.ensures.none) c.loop-number.invariant in
    last_if wire_of numbers rest c.args.wires.now c.loop-number.wires c.push_if-2.new.lists c.push_if-2.result
    (subst (λ o. IfOk c.push_if-2.result (λ added. AddsItem added o c.loop-number.wires c.push_if-2.new.lists)) c.wire_of-2.ensures c.push_if-2.ensures) so_far
