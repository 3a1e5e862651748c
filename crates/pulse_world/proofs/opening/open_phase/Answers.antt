use Rattle.std.proofs.Common.{◌∙◌, ◌++◌, ap}
use Rattle.cell_netlist.specs.World.{rail_pulses, clock_pulses}
use Rattle.pulse_world.proofs.QueueRoom.{room-split}
use Rattle.pulse_world.proofs.opening.open_phase.Goals as goal

pub pulse_rails-requires : goal.pulse_rails-requires
pulse_rails-requires c = rw c.input_rails.ensures
    (room-split c.args.pending.now (rail_pulses c.args.phase c.args.vector.now c.args.lines.now.input_rails)
    (clock_pulses c.args.cell_states.now.cells c.args.cell_states.now.states) c.requires).0

pub clock_cells-requires : goal.clock_cells-requires
clock_cells-requires c =
    let rails = rail_pulses c.args.phase c.args.vector.now c.args.lines.now.input_rails in
    let cells = clock_pulses c.args.cell_states.now.cells c.args.cell_states.now.states in
    let parts = room-split c.args.pending.now rails cells c.requires in
    let queue = c.pulse_rails.ensures ∙ ap (λ rs. record c.args.pending.now { wires = c.args.pending.now.wires ++ rail_pulses c.args.phase c.args.vector.now rs }) c.input_rails.ensures in
    rw queue parts.1
