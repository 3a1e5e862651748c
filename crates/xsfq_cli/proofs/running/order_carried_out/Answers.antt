-- An order is its variant.
use Rattle.std.proofs.Common.{sym, subst}
use Rattle.xsfq_cli.specs.declared.orders.Order.{Order}
use Rattle.xsfq_cli.specs.Workloads.{IsInRange}
use Rattle.xsfq_cli.specs.Table.{AnswersOrder, input_of, output_of}
use Rattle.xsfq_cli.proofs.running.order_carried_out.Goals as goal

pub returns-in-Compile : goal.returns-in-Compile
returns-in-Compile g c =
    let input = input_of g.S.Source.left g.S.Source.faults c.args.input.now c.perform.new.input in
    let output = output_of g.K.Sink.taken g.K.Sink.faults g.K.Sink.flushed c.args.output.now c.perform.new.output in
    subst (λ (order : Order). AnswersOrder order input output c.perform.result) (sym c.in-Compile.is) c.perform.ensures

pub returns-in-Check : goal.returns-in-Check
returns-in-Check g c =
    let input = input_of g.S.Source.left g.S.Source.faults c.args.input.now c.perform-in-Check.new.input in
    let output = output_of g.K.Sink.taken g.K.Sink.faults g.K.Sink.flushed c.args.output.now c.perform-in-Check.new.output in
    subst (λ (order : Order). AnswersOrder order input output c.perform-in-Check.result) (sym c.in-Check.is) c.perform-in-Check.ensures

pub returns-in-Report : goal.returns-in-Report
returns-in-Report g c =
    let input = input_of g.S.Source.left g.S.Source.faults c.args.input.now c.perform-in-Report.new.input in
    let output = output_of g.K.Sink.taken g.K.Sink.faults g.K.Sink.flushed c.args.output.now c.perform-in-Report.new.output in
    subst (λ (order : Order). AnswersOrder order input output c.perform-in-Report.result) (sym c.in-Report.is) c.perform-in-Report.ensures

pub returns-in-Simulate : goal.returns-in-Simulate
returns-in-Simulate g c =
    let input = input_of g.S.Source.left g.S.Source.faults c.args.input.now c.simulate.new.input in
    let output = output_of g.K.Sink.taken g.K.Sink.faults g.K.Sink.flushed c.args.output.now c.simulate.new.output in
    subst (λ (order : Order). AnswersOrder order input output c.simulate.result) (sym c.in-Simulate.is) c.simulate.ensures

pub perform-requires-in-Workload : goal.perform-requires-in-Workload
perform-requires-in-Workload g c = subst (λ (order : Order). IsInRange order) c.in-Workload.is c.requires

pub returns-in-Workload : goal.returns-in-Workload
returns-in-Workload g c =
    let input = input_of g.S.Source.left g.S.Source.faults c.args.input.now c.perform-in-Workload.new.input in
    let output = output_of g.K.Sink.taken g.K.Sink.faults g.K.Sink.flushed c.args.output.now c.perform-in-Workload.new.output in
    subst (λ (order : Order). AnswersOrder order input output c.perform-in-Workload.result) (sym c.in-Workload.is) c.perform-in-Workload.ensures
