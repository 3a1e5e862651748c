-- A machine is well founded or refused for one reason, and what holds of all grounded nets.
use Rattle.std.proofs.Common.{◌≡◌, ℕ, ◌≤◌, ◌<◌, ◌⊎◌, inl, inr, map, ap, subst, arith}
use Rattle.std.proofs.lemmas.Bool.{cases_lt}
use Rattle.pulse_ids.specs.Lists.{IsIn}
use Rattle.source_machine.specs.Machines.{PlainEquation, PlainMachine}
use Rattle.source_machine.specs.Grounding.{Grounded, of_constant, of_input, of_latch, of_equation, cube_nets, driven_twice, undriven, ungrounded, IsLowest, IsDrivenTwice, IsUndriven, IsUngrounded}
use Rattle.source_machine.specs.Laws.{FoundedIsNotRefused, RefusalsAreEqual}

-- what holds of net 0, inputs, latch outputs, and of an equation's net where it holds of all its cube nets, holds of each grounded net
pub Grounded-induction : (machine : PlainMachine) (P : ℕ → Type 0) → P 0 → ((net : ℕ) → IsIn net machine.inputs → P net)
    → ((net : ℕ) → IsIn net (map (λ latch. latch.out) machine.latches) → P net)
    → ((equation : PlainEquation) → IsIn equation machine.equations → ((used : ℕ) → IsIn used (cube_nets equation) → P used) → P equation.net)
    → (net : ℕ) → Grounded machine net → P net
Grounded-induction machine P zero_holds inputs_hold latches_hold equations_hold _ of_constant = zero_holds
Grounded-induction machine P zero_holds inputs_hold latches_hold equations_hold _ (of_input net i) = inputs_hold net i
Grounded-induction machine P zero_holds inputs_hold latches_hold equations_hold _ (of_latch net i) = latches_hold net i
Grounded-induction machine P zero_holds inputs_hold latches_hold equations_hold _ (of_equation net equation i e below) =
    subst P e
    (equations_hold equation i (λ used j. Grounded-induction machine P zero_holds inputs_hold latches_hold equations_hold used (below used j)))

pub founded_is_not_refused : FoundedIsNotRefused
founded_is_not_refused machine founded (driven_twice net) first = founded.driven_once net first.0
founded_is_not_refused machine founded (undriven net) first =
    let u = first.1.0 in u.2 (founded.all_driven net u.0 u.1)
founded_is_not_refused machine founded (ungrounded net) first =
    let u = first.2.0 in u.1 (founded.all_grounded net u.0)

lowest_same : (P : ℕ → Type 0) (a b : ℕ) → IsLowest P a → IsLowest P b → a ≡ b
lowest_same P a b p q = go (cases_lt a b) (cases_lt b a)
  where
    go : (a < b) ⊎ (b ≤ a) → (b < a) ⊎ (a ≤ b) → a ≡ b
    go (inl lt) other = absurd (q.1 a lt p.0)
    go (inr le) (inl lt) = absurd (p.1 b lt q.0)
    go (inr le) (inr le') = omega arith

pub refusals_are_equal : RefusalsAreEqual
refusals_are_equal machine (driven_twice a) (driven_twice b) p q =
    ap driven_twice (lowest_same (IsDrivenTwice machine) a b p q)
refusals_are_equal machine (driven_twice a) (undriven b) p q = absurd (q.0 a p.0)
refusals_are_equal machine (driven_twice a) (ungrounded b) p q = absurd (q.0 a p.0)
refusals_are_equal machine (undriven a) (driven_twice b) p q = absurd (p.0 b q.0)
refusals_are_equal machine (undriven a) (undriven b) p q =
    ap undriven (lowest_same (IsUndriven machine) a b p.1 q.1)
refusals_are_equal machine (undriven a) (ungrounded b) p q = absurd (q.1 a p.1.0)
refusals_are_equal machine (ungrounded a) (driven_twice b) p q = absurd (p.0 b q.0)
refusals_are_equal machine (ungrounded a) (undriven b) p q = absurd (p.1 b q.1.0)
refusals_are_equal machine (ungrounded a) (ungrounded b) p q =
    ap ungrounded (lowest_same (IsUngrounded machine) a b p.2 q.2)
