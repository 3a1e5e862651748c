-- A netlist's text without an `end` line is refused.
use Rattle.std.proofs.Common.{Err, ap, ◌∙◌}
use Rattle.netlist_reader.specs.declared.refusals.NetRefusal.{NetRefusal}
use Rattle.simulation_reader.proofs.Inputs.{open-judged}
use Rattle.simulation_reader.proofs.Feeding.{net-memory}
use Rattle.simulation_reader.proofs.readers.unended.Goals as goal

pub returns-clause-verdict : goal.returns-clause-verdict
returns-clause-verdict c = λ scripted text before. open-judged scripted text before.quiet before.open_end

pub returns-in-Err-clause-no_memory : goal.returns-in-Err-clause-no_memory
returns-in-Err-clause-no_memory c = net-memory c.args.net c.in-Err.refusal (λ same. c.finish.ensures.no_memory (c.in-Err.is ∙ ap (λ (r : NetRefusal). Err r) same))
