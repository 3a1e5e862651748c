-- One more input.
use Rattle.std.proofs.Common.{◌∙◌, ap, None}
use Rattle.source_machine.specs.Machines.{machine_of}
use Rattle.source_machine.specs.Additions.{with_input}
use Rattle.aiger_reader.proofs.Inputs.{input_more}
use Rattle.aiger_reader.proofs.adding.add_inputs.Goals as goal

pub loop-input-preserved : goal.loop-input-preserved
loop-input-preserved c =
    input_more (machine_of c.loop-input.raw) (machine_of c.add_input.new.self) c.loop-input.input c.args.inputs c.loop-input-test.true
    (c.in_ok-add_input.ensures.added ∙ ap (λ n. with_input (machine_of c.loop-input.raw) n None) c.new.ensures)
    ∙ c.loop-input.invariant
