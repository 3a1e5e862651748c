-- The input fits what is asked of it, and its text was written, or not.
use Rattle.std.proofs.Common.{ap, sym, subst, ◌∙◌}
use Rattle.cell_netlist.specs.Netlists.{PlainNetlist, IsNetlist}
use Rattle.xsfq_cli.specs.Simulated.{has_scripts}
use Rattle.xsfq_cli.proofs.SimulationLaws.{not_simulated, scripts_short, simulated, vectors_fit}
use Rattle.xsfq_cli.proofs.simulating.simulate.Goals as goal

pub emit-requires-clause-width : goal.emit-requires-clause-width
emit-requires-clause-width g c = λ vector among.
    vectors_fit c.inputs_have_their_form.ensures (has_scripts c.args.schedule) c.in-Ok.ensures.0 c.in-Ok.read c.in-Ok.ensures.2 vector among
    ∙ ap (λ net. net.inputs) (sym c.in-Ok-new.ensures)

pub emit-requires-clause-short : goal.emit-requires-clause-short
emit-requires-clause-short g c = λ script among.
    scripts_short c.inputs_have_their_form.ensures (has_scripts c.args.schedule) c.in-Ok.ensures.0 c.in-Ok.read c.in-Ok.ensures.2 script among

pub returns-in-Ok-emit : goal.returns-in-Ok-emit
returns-in-Ok-emit g c =
    simulated c.args.schedule c.args.trace _ _ c.in-Ok.read c.in-Ok-new.simulation c.in-Ok-new.ensures c.every_order.ensures.rails
    (subst (λ (net : PlainNetlist). IsNetlist net) c.net.ensures.net c.wires.ensures.netlist) c.in-Ok.ensures c.in-Ok-emit.outcome c.in-Ok-emit.ensures

pub returns : goal.returns
returns g c =
    not_simulated c.args.schedule c.args.trace _ _ c.in-Ok.read c.in-Ok-new.simulation c.in-Ok-new.ensures c.every_order.ensures.rails
    (subst (λ (net : PlainNetlist). IsNetlist net) c.net.ensures.net c.wires.ensures.netlist) c.in-Ok.ensures c.in-Err-emit.field-0 c.in-Err-emit.ensures
