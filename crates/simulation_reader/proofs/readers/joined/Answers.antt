-- The verdict of the vectors, with the netlist before them.
use Rattle.std.proofs.Common.{◌≡◌, Option, Some, None, Err, sym, ap, ◌∙◌}
use Rattle.netlist_reader.specs.declared.refusals.NetRefusal.{NetRefusal}
use Rattle.schedule_replay.specs.declared.refusals.VectorRefusal.{VectorRefusal}
use Rattle.simulation_reader.proofs.Feeding.{after-judged, both-judged, form_after, net-memory, never-refused, vector-memory, vector-verdict}
use Rattle.simulation_reader.proofs.readers.joined.Goals as goal

pub returns-in-Err-clause-verdict : goal.returns-in-Err-clause-verdict
returns-in-Err-clause-verdict c =
    λ scripted text after. vector-verdict _ _ _ c.in-Err.refusal (after-judged scripted text c.args.net c.args.vectors after)
    (c.in-Err.ensures.verdict (form_after scripted after.first) after.rest after.has_read)

pub returns-in-Err-finish-clause-verdict : goal.returns-in-Err-finish-clause-verdict
returns-in-Err-finish-clause-verdict c =
    λ scripted text after. never-refused _ after.first c.args.net c.in-Err-finish.refusal after.begun (c.in-Err-finish.ensures.err after.first after.begun.read)

pub returns-in-Ok-finish-clause-verdict : goal.returns-in-Ok-finish-clause-verdict
returns-in-Ok-finish-clause-verdict c =
    λ scripted text after. both-judged scripted text c.args.net c.args.vectors after c.in-Ok-finish.net c.in-Ok.vectors (c.in-Ok-finish.ensures.net after.first after.begun.read)
    (c.in-Ok.ensures.verdict (form_after scripted after.first) after.rest after.has_read)

pub returns-in-Err-clause-no_memory : goal.returns-in-Err-clause-no_memory
returns-in-Err-clause-no_memory c =
    λ scripted text after. vector-memory c.args.vectors c.in-Err.refusal (λ same. c.finish.ensures.no_memory (c.in-Err.is ∙ ap (λ (r : VectorRefusal). Err r) same))

pub returns-in-Err-finish-clause-no_memory : goal.returns-in-Err-finish-clause-no_memory
returns-in-Err-finish-clause-no_memory c =
    λ scripted text after memory.
    let stopped = net-memory c.args.net c.in-Err-finish.refusal (λ same. c.finish-in-Ok.ensures.no_memory (c.in-Err-finish.is ∙ ap (λ (r : NetRefusal). Err r) same)) memory in
    let none : ◌≡◌ {A = Option NetRefusal} (Some c.in-Err-finish.refusal) None = sym stopped ∙ after.begun.goes_on in
    absurd cc
