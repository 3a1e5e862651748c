use Rattle.std.proofs.Common.{◌<◌, length, sym, subst, arith}
use Rattle.pulse_world.specs.Worlds.{PlainWorld, world_of}
use Rattle.pulse_world.proofs.WorldDeliveries.{world-shape}
use Rattle.pulse_world.proofs.worlds.World.pulsed.Goals as goal

pub has_pulsed-requires : goal.has_pulsed-requires
has_pulsed-requires c =
    let world = world_of c.self.inside.net.now c.self.inside.opened c.self.inside.vector.items c.self.inside.cell_states.states c.self.inside.pending.wires c.self.inside.counted in
    let shape = world-shape c.readers_of_wires.ensures.shape world c.self.invariant.0 in
    let rails = shape.1 in
    let low = subst (λ (w : PlainWorld). c.args.rail.number < length w.net.output_rails) (sym c.self.view_is) c.requires in
    omega arith
