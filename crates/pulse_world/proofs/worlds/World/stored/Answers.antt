use Rattle.std.proofs.Common.{◌<◌, length, ap, sym, subst, arith}
use Rattle.pulse_world.specs.Worlds.{PlainWorld}
use Rattle.pulse_world.proofs.worlds.World.stored.Goals as goal

pub at-requires : goal.at-requires
at-requires c =
    let same = ap length c.self.invariant.2 in
    let low = subst (λ (w : PlainWorld). c.args.cell.number < length w.net.cells) (sym c.self.view_is) c.requires in omega arith
