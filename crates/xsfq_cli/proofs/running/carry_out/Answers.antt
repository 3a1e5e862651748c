-- An order that is there is carried out.
use Rattle.std.proofs.Common.{Option, sym, subst}
use Rattle.xsfq_cli.specs.declared.orders.Order.{Order}
use Rattle.xsfq_cli.specs.Table.{Answers, input_of, output_of}
use Rattle.xsfq_cli.proofs.running.carry_out.Goals as goal

pub returns-in-Some : goal.returns-in-Some
returns-in-Some g c =
    let input = input_of g.S.Source.left g.S.Source.faults c.args.input.now c.order_carried_out.new.input in
    let output = output_of g.K.Sink.taken g.K.Sink.faults g.K.Sink.flushed c.args.output.now c.order_carried_out.new.output in
    subst (λ (order : Option Order). Answers order input output c.order_carried_out.result) (sym c.in-Some.is) c.order_carried_out.ensures
