use Rattle.std.proofs.Common.{List, ◌∙◌, ap}
use Rattle.std.specs.List.{list_any, list_all}
use Rattle.pulse_ids.specs.Ids.{Lit}
use Rattle.pulse_ids.specs.Lists.{bit_at}
use Rattle.source_machine.specs.Machines.{literal_of}
use Rattle.source_machine.specs.Runs.{literal_value}
use Rattle.source_machine.proofs.Evaluating.{value_if}
use Rattle.source_machine.proofs.machines.Equation.bit.Goals as goal

pub returns : goal.returns
returns c =
    c.value_if.ensures ∙ value_if (bit_at c.args.bits.now) c.args.self.now c.is_met.result
    (c.is_met.ensures ∙ ap (λ (l : List (List Lit)). list_any (λ cube. list_all (λ literal. literal_value (bit_at c.args.bits.now) (literal_of literal)) cube) l) c.as_slice.ensures.value)
