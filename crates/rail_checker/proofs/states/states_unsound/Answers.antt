use Rattle.std.proofs.Common.{ℕ, false, length, replicate, ap, ◌∙◌, arith}
use Rattle.rail_checker.proofs.StateMarks.{none_of_none}
use Rattle.rail_checker.proofs.states.states_unsound.Goals as goal

pub loose_state-requires-clause-found : goal.loose_state-requires-clause-found
loose_state-requires-clause-found c = none_of_none c.args.net.now (omega arith)

pub first_loose-requires : goal.first_loose-requires
first_loose-requires c = c.in_ok-named.ensures ∙ ap (λ (n : ℕ). replicate n false) (c.len.ensures ∙ ap length c.cells.ensures)
