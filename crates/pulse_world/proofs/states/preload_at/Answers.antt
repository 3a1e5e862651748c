use Rattle.std.proofs.Common.{◌≡◌, false, subst}
use Rattle.cell_netlist.specs.declared.lines.Cell.{Cell}
use Rattle.cell_netlist.specs.World.{preloaded}
use Rattle.pulse_world.proofs.PreloadedStates.{preload-none}
use Rattle.pulse_world.proofs.states.preload_at.Goals as goal

pub returns-else-preload : goal.returns-else-preload
returns-else-preload c =
    let same : c.cell.result ≡ c.requires.0 = let here = c.cell.ensures in let there = c.requires.1 in cc in
    let clear : (preloaded c.cell.result).bit ≡ false = let is = c.preload.ensures in let test = c.if-preload.false in cc in
    (c.requires.0, c.requires.1, preload-none c.args.kept.now c.args.id.number c.requires.0 c.requires.2 (subst (λ (cell : Cell). (preloaded cell).bit ≡ false) same clear))
