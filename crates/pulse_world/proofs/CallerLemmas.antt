-- For callers: ways of events one after the other, the vector of a phase, what the output rails have counted, and what cells keep at the start.
use Rattle.std.proofs.Common.{◌≡◌, List, ◌++◌, map, Bool, Some, slice_get}
use Rattle.pulse_ids.specs.Lists.{IsIn, occurrences}
use Rattle.cell_netlist.specs.declared.lines.Cell.{Cell}
use Rattle.cell_netlist.specs.Netlists.{PlainNetlist, wire_of}
use Rattle.cell_netlist.specs.RailEquations.{first_state}
use Rattle.cell_netlist.specs.Runs.{Stage, Moment, Event, IsRun}
use Rattle.cell_netlist.specs.Sound.{IsSound}
use Rattle.cell_netlist.specs.World.{preloaded}
use Rattle.pulse_world.specs.DuePulses.{resting}
use Rattle.pulse_world.specs.LaterMoments.{LeadsOn}
use Rattle.pulse_world.proofs.CycleEnds as ends
use Rattle.pulse_world.proofs.RunMoments as moments
use Rattle.pulse_world.proofs.WholeRuns as runs

-- one way after another
pub leads_joined : (net : PlainNetlist) (vectors : List (List Bool)) (events more : List Event) (first mid last : Moment) → LeadsOn net vectors events first mid
    → LeadsOn net vectors more mid last → LeadsOn net vectors (more ++ events) first last
leads_joined = runs.leads-joined

-- an output rail has counted what was delivered on its wire in the phase
pub counts_are : (net : PlainNetlist) (vectors : List (List Bool)) (events : List Event) (moment : Moment) → IsRun net vectors events moment
    → moment.state.counted ≡ map (λ rail. occurrences (wire_of rail) moment.delivered) net.output_rails
counts_are = moments.counts-are

-- a phase has a vector
pub vector_of : (net : PlainNetlist) (vectors : List (List Bool)) (events : List Event) (moment : Moment) → IsRun net vectors events moment
    → (stage : Stage) → moment.stage ≡ Some stage → (vector : List Bool) × (slice_get vectors stage.cycle ≡ Some vector)
vector_of = moments.vector-of

-- at the start each cell keeps what it keeps at rest, by the first state of the latches
pub starts_at_rest : (net : PlainNetlist) → IsSound net → (cell : Cell) → IsIn cell net.cells → preloaded cell ≡ resting (first_state net) cell
starts_at_rest = ends.starts
