-- The form of the vectors is the schedule's.
use Rattle.std.proofs.Common.{sym, subst}
use Rattle.xsfq_cli.specs.declared.orders.Schedule.{Schedule}
use Rattle.xsfq_cli.specs.Halves.{Reads}
use Rattle.xsfq_cli.specs.Simulated.{HasInput, has_scripts, input_shown}
use Rattle.xsfq_cli.specs.Table.{input_of}
use Rattle.xsfq_cli.proofs.simulation_inputs.read_input.Goals as goal

pub returns-in-Order : goal.returns-in-Order
returns-in-Order g c =
    let input = input_of g.S.Source.left g.S.Source.faults c.args.input.now c.read_form.new.input in
    subst (λ (s : Schedule). Reads (input_shown (has_scripts s)) (HasInput (has_scripts s)) input c.read_form.result) (sym c.in-Order.is) c.read_form.ensures

pub returns-in-Script : goal.returns-in-Script
returns-in-Script g c =
    let input = input_of g.S.Source.left g.S.Source.faults c.args.input.now c.read_form-in-Script.new.input in
    subst (λ (s : Schedule). Reads (input_shown (has_scripts s)) (HasInput (has_scripts s)) input c.read_form-in-Script.result) (sym c.in-Script.is)
    c.read_form-in-Script.ensures
