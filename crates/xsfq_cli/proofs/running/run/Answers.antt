-- What the words order is carried out and noted.
use Rattle.std.proofs.Common.{Option, subst}
use Rattle.xsfq_cli.specs.declared.orders.Order.{Order}
use Rattle.xsfq_cli.specs.Table.{Answers, input_of, output_of}
use Rattle.xsfq_cli.proofs.running.run.Goals as goal

pub returns : goal.returns
returns g c =
    let input = input_of g.S.Source.left g.S.Source.faults c.args.input.now c.carry_out-outcome.new.input in
    let output = output_of g.K.Sink.taken g.K.Sink.faults g.K.Sink.flushed c.args.output.now c.carry_out-outcome.new.output in
    record {
      answers = subst (λ (order : Option Order). Answers order input output c.carry_out-outcome.result) c.from_words.ensures.order c.carry_out-outcome.ensures;
      noted = c.write_note.ensures;
    }
