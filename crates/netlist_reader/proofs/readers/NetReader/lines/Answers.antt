-- A reader that goes on took no more lines than bytes.
use Rattle.std.proofs.Common.{◌≡◌, Option, Some, None, sym, subst, arith}
use Rattle.netlist_reader.specs.declared.readings.Reading.{Reading}
use Rattle.netlist_reader.specs.declared.refusals.NetRefusal.{NetRefusal}
use Rattle.netlist_reader.specs.Readings.{CanGoOn, IsReading, HasStopped, StopsAt}
use Rattle.netlist_reader.proofs.readers.NetReader.lines.Goals as goal

pub returns-clause-few : goal.returns-clause-few
returns-clause-few c =
    let r = c.self.inside.reading in
    λ going.
    let stopped : r.stopped ≡ None = subst (λ (x : Reading). x.stopped ≡ None) (sym c.self.view_is) going in
    let safe = subst (λ (s : Option NetRefusal). CanGoOn s r.lines r.built r.taken) stopped c.self.invariant.goes_on in
    omega (arith, safe.1, c.self.invariant.within)

pub returns-clause-stops : goal.returns-clause-stops
returns-clause-stops c =
    let r = c.self.inside.reading in
    λ text refusal read stopped.
    let inner : IsReading text r = subst (λ (x : Reading). IsReading text x) (sym c.self.view_is) read in
    let stands : r.stopped ≡ Some refusal = subst (λ (x : Reading). x.stopped ≡ Some refusal) (sym c.self.view_is) stopped in
    let known = (subst (λ (s : Option NetRefusal). HasStopped s text r.lines r.built r.taken) stands inner).1 in
    subst (λ (x : Reading). StopsAt text refusal r.built.lines x.built.inputs) c.self.view_is known
