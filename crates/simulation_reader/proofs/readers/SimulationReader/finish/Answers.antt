-- The verdict before the `end` line, or after it.
use Rattle.std.proofs.Common.{Option, Err, ap, sym, subst}
use Rattle.std.specs.Prelude.{IfErr}
use Rattle.schedule_replay.specs.declared.readings.Reading.{Reading}
use Rattle.simulation_reader.specs.declared.readers.SimulationInput.{SimulationInput}
use Rattle.simulation_reader.specs.Reading.{HasAnsweredBy, IsNoMemory}
use Rattle.simulation_reader.proofs.Feeding.{again-after, again-before, taken-after, taken-before}
use Rattle.simulation_reader.proofs.readers.SimulationReader.finish.Goals as goal

pub returns-in-None-clause-verdict : goal.returns-in-None-clause-verdict
returns-in-None-clause-verdict c =
    let reader = c.args.self in
    λ text has. c.unended.ensures.verdict reader.scripted text (taken-before reader.scripted text reader.net reader.vectors c.in-None.is has.taken)

pub returns-in-None-clause-again : goal.returns-in-None-clause-again
returns-in-None-clause-again c =
    let reader = c.args.self in
    again-before SimulationInput reader.net reader.vectors (Err c.unended.result) c.in-None.is (λ refusal e. ap (λ r. Err r) (c.unended.ensures.again refusal e))

pub returns-in-Some-clause-verdict : goal.returns-in-Some-clause-verdict
returns-in-Some-clause-verdict c =
    let reader = c.args.self in
    λ text has. c.joined.ensures.verdict reader.scripted text (taken-after reader.scripted text reader.net reader.vectors c.in-Some.vectors c.in-Some.is has.taken)

pub returns-in-Some-clause-again : goal.returns-in-Some-clause-again
returns-in-Some-clause-again c =
    let reader = c.args.self in
    again-after SimulationInput reader.net reader.vectors c.in-Some.vectors c.joined.result c.in-Some.is c.joined.ensures.again

pub returns-in-None-clause-no_memory : goal.returns-in-None-clause-no_memory
returns-in-None-clause-no_memory c =
    let reader = c.args.self in
    λ text has memory. subst (λ (b : Option Reading). HasAnsweredBy b reader.net c.unended.result) (sym c.in-None.is) (c.unended.ensures.no_memory memory)

pub returns-in-Some-clause-no_memory : goal.returns-in-Some-clause-no_memory
returns-in-Some-clause-no_memory c =
    let reader = c.args.self in
    λ text has. subst (λ (b : Option Reading). IfErr c.joined.result (λ refusal. IsNoMemory refusal → HasAnsweredBy b reader.net refusal)) (sym c.in-Some.is)
    (c.joined.ensures.no_memory reader.scripted text (taken-after reader.scripted text reader.net reader.vectors c.in-Some.vectors c.in-Some.is has.taken))
