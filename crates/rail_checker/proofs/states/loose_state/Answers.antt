use Rattle.std.proofs.Common.{ℕ, Option, refl, sym, subst}
use Rattle.cell_netlist.specs.declared.unsound.Unsound.{Unsound}
use Rattle.cell_netlist.specs.declared.unsound.Unsound.TheVariants.{LooseState}
use Rattle.cell_netlist.specs.Sound.{Breaks}
use Rattle.rail_checker.specs.Verdicts.{IsFirst, IsJudged}
use Rattle.rail_checker.proofs.Refusing.{state_at, judged_some, judged_none}
use Rattle.rail_checker.proofs.states.loose_state.Goals as goal

pub returns-in_err-k : goal.returns-in_err-k
returns-in_err-k c =
    let first = subst (λ (o : Option ℕ). IsFirst (λ n. Breaks c.args.net.now (LooseState n)) o) c.in_err-k.was c.requires.found in
    subst (λ (v : Option Unsound). IsJudged c.args.net.now 11 v) (sym c.from_residual.ensures)
    (judged_none c.args.net.now 10 11 (λ n. LooseState n) refl state_at c.requires.clear first)

pub returns : goal.returns
returns c =
    let first = subst (λ (o : Option ℕ). IsFirst (λ n. Breaks c.args.net.now (LooseState n)) o) c.in_ok-k.was c.requires.found in
    judged_some c.args.net.now 10 11 (λ n. LooseState n) refl state_at c.requires.clear c.in_ok-k.k first (LooseState c.in_ok-k.k) refl refl
