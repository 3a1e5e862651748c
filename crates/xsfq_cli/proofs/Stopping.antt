-- A command that reads nothing stops as one that reads and took nothing.
use Rattle.std.proofs.Common.{◌≡◌, ◌⊎◌, inl, inr, ◌≤◌, ℕ, Bool, true, false, List, [], ◌∷◌, ◌++◌, length, Option, sym, subst, zero-le}
use Rattle.std.specs.Io.KnownBytes.{Consumes}
use Rattle.std.proofs.KnownBytes.{Consumes-nil}
use Rattle.xsfq_cli.specs.declared.orders.Order.{Order}
use Rattle.run_outcomes.specs.declared.outcomes.Outcome.{Outcome}
use Rattle.xsfq_cli.specs.Judgements.{reads, shown, Refuses}
use Rattle.xsfq_cli.specs.Table.{AnswersOrder, Input, Output, Performed, Stops, StopsAs, Took, Unread, Unwritten}

none_past : (first more : List ℕ) → [] ≡ first ++ more → length more ≤ 4095
none_past [] [] e = zero-le
none_past [] (byte ∷ more) e = cc
none_past (byte ∷ first) more e = cc

pub took_nothing : (shows : List ℕ → Option Outcome) (input : Input) → Unread input → Took shows input []
took_nothing shows input unread = record {
  consumed = subst (λ (now : Option (List ℕ)). Consumes input.before now []) (sym unread.left) (Consumes-nil input.before);
  past = λ first more refusal e shown. none_past first more e;
}

as_stops : (reading : Bool) (shows : List ℕ → Option Outcome) (refuses : List ℕ → Outcome → Type 0) (input : Input) (outcome : Outcome)
    → StopsAs reading shows refuses input outcome → Stops shows refuses input outcome
as_stops true shows refuses input outcome stops = stops
as_stops false shows refuses input outcome (e, unread) =
    inr (inr (e, record { calm = unread.faults; taken = []; took = took_nothing shows input unread }))

-- what an order answers, without what a command that reads nothing leaves
abbrev pub AnswersLike : Order → Input → Output → Outcome → Type 0
AnswersLike order input output outcome = (Stops (shown order) (Refuses order) input outcome × Unwritten output) ⊎ Performed order input output outcome

pub answers_like : (order : Order) (input : Input) (output : Output) (outcome : Outcome) → AnswersOrder order input output outcome → AnswersLike order input output outcome
answers_like order input output outcome (inl (stops, unwritten)) = inl (as_stops (reads order) (shown order) (Refuses order) input outcome stops, unwritten)
answers_like order input output outcome (inr performed) = inr performed
