-- How much is taken of an input.
use Rattle.std.proofs.Common.{◌≡◌, ◌⊎◌, inl, inr, ◌<◌, ◌≤◌, ◌+◌, ℕ, Bool, true, false, ltb, ltb-true, ltb-false, List, [], length, take, drop, Some, None, refl, sym, ap, ◌∙◌, arith, length-append, length-take, take-append-drop, zero-le}
use Rattle.std.specs.declared.option.Option.{Option}
use Rattle.std.specs.Io.KnownBytes.{Consumes}
use Rattle.xsfq_cli.specs.declared.orders.Order.{Order}
use Rattle.xsfq_cli.specs.declared.orders.Order.TheVariants.{Check, Compile, Report, Simulate, Workload}
use Rattle.run_outcomes.specs.declared.outcomes.Outcome.{Outcome}
use Rattle.xsfq_cli.specs.InputLimit as inputs
use Rattle.xsfq_cli.specs.Judgements.{most_bytes, reads, shown, Refuses}
use Rattle.xsfq_cli.specs.Laws.{BoundedLaw}
use Rattle.xsfq_cli.specs.Limited as sources
use Rattle.xsfq_cli.specs.NetTextLimit as net_texts
use Rattle.xsfq_cli.specs.Simulated.{has_scripts}
use Rattle.xsfq_cli.specs.Table.{AnswersOrder, Input, Output, ReadsAll, StopsAs, Took, Unread}
use Rattle.xsfq_cli.proofs.Stopping.{took_nothing}

-- what was taken is at most a read more than the greatest number of bytes
order_limited : (order : Order) → reads order ≡ true → (text : List ℕ) → most_bytes order < length text → shown order text ≡ None → ⊥
order_limited (Compile ask version) reading text long none = sources.long_shown text long none
order_limited Check reading text long none = net_texts.long_shown text long none
order_limited Report reading text long none = net_texts.long_shown text long none
order_limited (Simulate schedule trace) reading text long none = inputs.long_input_shown (has_scripts schedule) text long none
order_limited (Workload bits) reading text long none = cc

few_taken : (order : Order) → reads order ≡ true → (input : Input) (bytes : List ℕ) → Took (shown order) input bytes → length bytes ≤ most_bytes order + 4096
few_taken order reading input bytes took = go (ltb (most_bytes order) (length bytes)) refl
  where
    first : List ℕ
    first = take (most_bytes order + 1) bytes

    size : most_bytes order < length bytes → length first ≡ most_bytes order + 1
    size long = omega (arith, length-take (most_bytes order + 1) bytes, long)

    sums : length first + length (drop (most_bytes order + 1) bytes) ≡ length bytes
    sums = sym (length-append first (drop (most_bytes order + 1) bytes)) ∙ ap length (take-append-drop (most_bytes order + 1) bytes)

    by_shown : (o : Option Outcome) → shown order first ≡ o → most_bytes order < length bytes → length bytes ≤ most_bytes order + 4096
    by_shown None e long = absurd (order_limited order reading first (omega (arith, size long)) e)
    by_shown (Some refusal) e long =
        let more = took.past first (drop (most_bytes order + 1) bytes) refusal (sym (take-append-drop (most_bytes order + 1) bytes)) e in
        omega (arith, sums, size long, more)

    go : (b : Bool) → ltb (most_bytes order) (length bytes) ≡ b → length bytes ≤ most_bytes order + 4096
    go true long = by_shown (shown order first) refl (ltb-true _ _ long)
    go false short = omega (arith, ltb-false _ _ short)

abbrev FewTaken : Order → Input → Type 0
FewTaken order input = (taken : List ℕ) × Consumes input.before input.now taken × (length taken ≤ most_bytes order + 4096)

few_unread : (order : Order) (input : Input) → Unread input → FewTaken order input
few_unread order input unread = ([], (took_nothing (shown order) input unread).consumed, zero-le)

read_few : (order : Order) (reading : Bool) (input : Input) (bytes : List ℕ) → reads order ≡ reading → ReadsAll reading (shown order) input bytes → FewTaken order input
read_few order true input bytes is whole = (bytes, whole.took.consumed, few_taken order is input bytes whole.took)
read_few order false input bytes is (unread, e) = few_unread order input unread

stopped_few : (order : Order) (reading : Bool) (input : Input) (outcome : Outcome) → reads order ≡ reading
    → StopsAs reading (shown order) (Refuses order) input outcome → FewTaken order input
stopped_few order true input outcome is (inl refused) = (refused.taken, refused.took.consumed, few_taken order is input refused.taken refused.took)
stopped_few order true input outcome is (inr (inl (e, failed))) = (failed.taken, failed.took.consumed, few_taken order is input failed.taken failed.took)
stopped_few order true input outcome is (inr (inr (e, starved))) = (starved.taken, starved.took.consumed, few_taken order is input starved.taken starved.took)
stopped_few order false input outcome is (e, unread) = few_unread order input unread

pub bounded_law : BoundedLaw
bounded_law order input output outcome answers = go answers
  where
    go : AnswersOrder order input output outcome → FewTaken order input
    go (inl (stops, unwritten)) = stopped_few order (reads order) input outcome refl stops
    go (inr performed) = read_few order (reads order) input performed.bytes refl performed.reads_all
