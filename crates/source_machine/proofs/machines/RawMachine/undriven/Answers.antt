use Rattle.std.proofs.Common.{◌∙◌, inl, inr, subst, arith}
use Rattle.pulse_ids.specs.Lists.{IsIn}
use Rattle.pulse_ids.proofs.CallerLemmas.{IsIn-behind}
use Rattle.source_machine.specs.Machines.{machine_of}
use Rattle.source_machine.specs.Runs.{driven_nets}
use Rattle.source_machine.specs.Grounding.{used_nets}
use Rattle.source_machine.specs.LowestNets.{IsFirstMissing}
use Rattle.source_machine.proofs.CallerLemmasOnRanges.{driven_fit, used_fit}
use Rattle.source_machine.proofs.FaultyNets.{undriven_is}
use Rattle.source_machine.proofs.machines.RawMachine.undriven.Goals as goal

pub first_missing-requires-clause-nets_fit : goal.first_missing-requires-clause-nets_fit
first_missing-requires-clause-nets_fit c net i =
    omega (arith, c.net_count.ensures, used_fit (machine_of c.args.self.now) c.requires net (subst (λ l. IsIn net l) (c.as_slice.ensures.value ∙ c.in_ok-used.ensures) i))

pub first_missing-requires-clause-removed_fit : goal.first_missing-requires-clause-removed_fit
first_missing-requires-clause-removed_fit c net i =
    elim (IsIn-behind net 0 (driven_nets (machine_of c.args.self.now)) (subst (λ l. IsIn net l) (c.as_slice-2.ensures.value ∙ c.in_ok-driven.ensures) i)) [
      | inl j ↦ omega (arith, c.net_count.ensures, driven_fit (machine_of c.args.self.now) c.requires net j)
      | inr e ↦ omega (arith, c.net_count.ensures, e)
    ]

pub returns : goal.returns
returns c =
    undriven_is (machine_of c.args.self.now) c.in_ok-found.found
    (subst (λ l. IsFirstMissing (used_nets (machine_of c.args.self.now)) l c.in_ok-found.found) (c.as_slice-2.ensures.value ∙ c.in_ok-driven.ensures)
    (subst (λ l. IsFirstMissing l c.as_slice-2.result.now c.in_ok-found.found) (c.as_slice.ensures.value ∙ c.in_ok-used.ensures) c.in_ok-found.ensures))
