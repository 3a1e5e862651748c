use Rattle.source_machine.proofs.machines.RawMachine.nets_fit.Goals as goal
use Rattle.source_machine.proofs.machines.RawMachine.nets_fit.Goals.{then-inputs_fit, else-inputs_fit, then-latches_fit, else-latches_fit}

pub returns-then-equations_fit : goal.returns-then-equations_fit
returns-then-equations_fit c =
    elim c.if-latches_fit.branch [
      | then-latches_fit w ↦ elim c.if-inputs_fit.branch [
        | then-inputs_fit v ↦ (
          λ t. record {
            inputs_fit = c.inputs_fit.ensures.0 (cc);
            latches_fit = v.latches_fit.ensures.0 (cc);
            equations_fit = w.equations_fit.ensures.0 (cc);
            outputs_fit = c.outputs_fit.ensures.0 t;
          },
          λ h. c.outputs_fit.ensures.1 h.outputs_fit,
        )
        | else-inputs_fit v ↦ cc
      ]
      | else-latches_fit w ↦ cc
    ]

pub returns-else-equations_fit : goal.returns-else-equations_fit
returns-else-equations_fit c =
    elim c.if-latches_fit.branch [
      | then-latches_fit w ↦ (λ t. cc, λ h. let e = w.equations_fit.ensures.1 h.equations_fit in cc)
      | else-latches_fit w ↦ elim c.if-inputs_fit.branch [
        | then-inputs_fit v ↦ (λ t. cc, λ h. let e = v.latches_fit.ensures.1 h.latches_fit in cc)
        | else-inputs_fit v ↦ (λ t. cc, λ h. let e = c.inputs_fit.ensures.1 h.inputs_fit in cc)
      ]
    ]
