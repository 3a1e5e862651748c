-- The number of input ports that the lines so far say.
use Rattle.std.proofs.Common.{◌≡◌, Option, Some, None, sym, subst, arith}
use Rattle.netlist_reader.specs.declared.readings.Reading.{Reading}
use Rattle.netlist_reader.specs.declared.refusals.NetRefusal.{NetRefusal}
use Rattle.netlist_reader.specs.Readings.{IsReading, HasStopped, StopsAt}
use Rattle.netlist_reader.proofs.Ends.{inputs_are}
use Rattle.netlist_reader.proofs.readers.NetReader.inputs.Goals as goal

pub returns-clause-inputs : goal.returns-clause-inputs
returns-clause-inputs c =
    let r = c.self.inside.reading in
    λ text read going.
    let inner : IsReading text r = subst (λ (x : Reading). IsReading text x) (sym c.self.view_is) read in
    let stopped : r.stopped ≡ None = subst (λ (x : Reading). x.stopped ≡ None) (sym c.self.view_is) going in
    let stands = subst (λ (s : Option NetRefusal). HasStopped s text r.lines r.built r.taken) stopped inner in
    inputs_are text r.lines r.built (omega (arith, stands.0, c.self.invariant.within)) stands.1

pub returns-clause-stops : goal.returns-clause-stops
returns-clause-stops c =
    let r = c.self.inside.reading in
    λ text refusal read stopped.
    let inner : IsReading text r = subst (λ (x : Reading). IsReading text x) (sym c.self.view_is) read in
    let stands : r.stopped ≡ Some refusal = subst (λ (x : Reading). x.stopped ≡ Some refusal) (sym c.self.view_is) stopped in
    let known = (subst (λ (s : Option NetRefusal). HasStopped s text r.lines r.built r.taken) stands inner).1 in
    subst (λ (x : Reading). StopsAt text refusal x.built.lines r.built.inputs) c.self.view_is known
