use Rattle.std.proofs.Common.{◌≤◌, length, arith}
use Rattle.cell_netlist.specs.Netlists.{used}
use Rattle.pulse_world.specs.PackedStates.{drocs_from}
use Rattle.pulse_world.proofs.ClockedCells.{clocked-none, clocked-droc, clocked-room, clocked-more, clocked-states, clocked-wires}
use Rattle.pulse_world.proofs.opening.clock_cells.Goals as goal

pub loop-place-init : goal.loop-place-init
loop-place-init c = (0, clocked-none c.args.cell_states.now c.args.pending.now c.requires)

pub clock_at-output-requires : goal.clock_at-output-requires
clock_at-output-requires c =
    clocked-droc c.args.cell_states.now c.loop-place.cell_states c.args.pending.now c.loop-place.pending c.loop-place.place c.loop-place.invariant.0
    c.drocs-place-end.ensures.fit c.loop-place.invariant.1 c.droc-id.result.number c.droc-id.ensures

pub append_if_used-requires : goal.append_if_used-requires
append_if_used-requires c =
    clocked-room c.args.cell_states.now c.loop-place.cell_states c.args.pending.now c.loop-place.pending c.loop-place.place c.loop-place.invariant.0
    c.drocs-place-end.ensures.fit c.loop-place.invariant.1 c.droc-id.result.number c.droc-id.ensures
    c.clock_at-output.new.cell_states (used c.clock_at-output.result) c.clock_at-output.ensures

pub loop-place-preserved : goal.loop-place-preserved
loop-place-preserved c = (
  _,
  clocked-more c.args.cell_states.now c.loop-place.cell_states c.args.pending.now c.loop-place.pending c.loop-place.place c.loop-place.invariant.0
      c.drocs-place-end.ensures.fit c.loop-place.invariant.1 c.droc-id.result.number c.droc-id.ensures
      c.clock_at-output.new.cell_states (used c.clock_at-output.result) c.clock_at-output.ensures c.append_if_used.new.pending c.append_if_used.ensures,
)

pub returns-clause-cleared : goal.returns-clause-cleared
returns-clause-cleared c =
    let past : length (drocs_from 0 c.args.cell_states.now.cells) ≤ c.loop-place.place =
    let low = c.loop-place-test.false in let all = c.drocs-place-end.ensures.count in omega arith in
    clocked-states c.args.cell_states.now c.loop-place.cell_states c.args.pending.now c.loop-place.pending c.loop-place.place c.loop-place.invariant.0
    c.drocs-place-end.ensures.fit c.loop-place.invariant.1 past

pub returns-clause-emitted : goal.returns-clause-emitted
returns-clause-emitted c =
    let past : length (drocs_from 0 c.args.cell_states.now.cells) ≤ c.loop-place.place =
    let low = c.loop-place-test.false in let all = c.drocs-place-end.ensures.count in omega arith in
    clocked-wires c.args.cell_states.now c.loop-place.cell_states c.args.pending.now c.loop-place.pending c.loop-place.place c.loop-place.invariant.0
    c.drocs-place-end.ensures.fit c.loop-place.invariant.1 past
