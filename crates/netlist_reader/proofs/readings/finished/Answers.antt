-- What the end of the bytes gives.
use Rattle.std.proofs.Common.{Option, subst, sym, ◌∙◌, arith}
use Rattle.netlist_reader.specs.declared.refusals.NetRefusal.{NetRefusal}
use Rattle.netlist_reader.specs.Readings.{HasStopped, CanGoOn}
use Rattle.netlist_reader.proofs.Texts.{verdict_shown}
use Rattle.netlist_reader.proofs.Ends.{ended_verdict, unended_verdict}
use Rattle.netlist_reader.proofs.readings.finished.Goals as goal

pub returns-then-not-has_ended-clause-err : goal.returns-then-not-has_ended-clause-err
returns-then-not-has_ended-clause-err c =
    let r = c.args.reading in
    λ text read.
    let stands = subst (λ (s : Option NetRefusal). HasStopped s text r.lines r.built r.taken) c.in-None.is read in
    unended_verdict text r.lines r.built (omega (arith, stands.0, c.requires.within)) stands.1 (sym c.has_ended.ensures ∙ c.if-not-has_ended.true)

pub returns-in-Some-clause-err : goal.returns-in-Some-clause-err
returns-in-Some-clause-err c =
    let r = c.args.reading in
    λ text read. verdict_shown text c.in-Some.refusal (subst (λ (s : Option NetRefusal). HasStopped s text r.lines r.built r.taken) c.in-Some.is read).0

pub returns-else-not-has_ended-clause-net : goal.returns-else-not-has_ended-clause-net
returns-else-not-has_ended-clause-net c =
    let r = c.args.reading in
    λ text read.
    let stands = subst (λ (s : Option NetRefusal). HasStopped s text r.lines r.built r.taken) c.in-None.is read in
    let safe = subst (λ (s : Option NetRefusal). CanGoOn s r.lines r.built r.taken) c.in-None.is c.requires.goes_on in
    ended_verdict text r.lines r.built (omega (arith, stands.0, c.requires.within)) stands.1 safe.0 (sym c.has_ended.ensures ∙ c.if-not-has_ended.false)
