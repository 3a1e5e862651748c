-- The name of the net that a machine's refusal names.
use Rattle.std.proofs.Common.{◌≡◌, ◌-◌, Some, subst}
use Rattle.std.specs.Prelude.{slice_get}
use Rattle.source_machine.specs.declared.grounding.Grounding.{Grounding}
use Rattle.source_machine.specs.Refusals.{IsRefusedFor}
use Rattle.blif_reader.proofs.finishing.machine_cause.Goals as goal

pub returns-in_ok-name-in-Undriven : goal.returns-in_ok-name-in-Undriven
returns-in_ok-name-in-Undriven c = λ machine h. (
  c.in-Undriven.net.number,
  subst (λ n. slice_get c.args.nets.now (n - 1) ≡ Some c.in_ok-name-in-Undriven.name) c.number-in-Undriven.ensures c.in_ok-name-in-Undriven.ensures,
  subst (λ (g : Grounding). IsRefusedFor machine g) c.in-Undriven.is h,
)
