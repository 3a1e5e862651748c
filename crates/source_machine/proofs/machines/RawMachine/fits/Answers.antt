use Rattle.std.proofs.Common.{IsTrue}
use Rattle.source_machine.specs.Machines.{literal_of}
use Rattle.source_machine.proofs.PlainLists.{nets_fit_of_raw, raw_nets_fit, names_mapped, names_from_mapped}
use Rattle.source_machine.proofs.machines.RawMachine.fits.Goals as goal
use Rattle.source_machine.proofs.machines.RawMachine.fits.Goals.{then-nets_fit, else-nets_fit}

pub returns-then-names_fit : goal.returns-then-names_fit
returns-then-names_fit c =
    elim c.if-nets_fit.branch [
      | then-nets_fit w ↦ (
        λ t. let named : IsTrue w.names_fit.result = cc in record {
          nets_fit = nets_fit_of_raw c.args.self.now (c.nets_fit.ensures.0 (cc));
          input_names_fit = names_mapped (λ net. net.number) c.args.self.now.inputs.items c.args.self.now.input_names.items (w.names_fit.ensures.0 named).0;
          output_names_fit = names_mapped literal_of c.args.self.now.outputs.items c.args.self.now.output_names.items (w.names_fit.ensures.0 named).1;
          limits = c.is_within_limits.ensures.0 t;
        },
        λ h. c.is_within_limits.ensures.1 h.limits,
      )
      | else-nets_fit w ↦ cc
    ]

pub returns-else-names_fit : goal.returns-else-names_fit
returns-else-names_fit c =
    elim c.if-nets_fit.branch [
      | then-nets_fit w ↦ (
        λ t. cc,
        λ h. let e = w.names_fit.ensures.1 (
          names_from_mapped (λ net. net.number) c.args.self.now.inputs.items c.args.self.now.input_names.items h.input_names_fit,
          names_from_mapped literal_of c.args.self.now.outputs.items c.args.self.now.output_names.items h.output_names_fit,
        ) in cc,
      )
      | else-nets_fit w ↦ (λ t. cc, λ h. let e = c.nets_fit.ensures.1 (raw_nets_fit c.args.self.now h.nets_fit) in cc)
    ]
