use Rattle.std.proofs.Common.{◌*◌, ap}
use Rattle.pulse_world.proofs.StateBits.{states-empty}
use Rattle.pulse_world.proofs.states.CellStates.empty.Goals as goal

pub returns : goal.returns
returns c = rw (c.in_ok-bits.ensures, c.items.ensures) (ap (λ states. record { cells = c.args.cells.now; states = states })
    (states-empty c.args.cells.now (2 * c.len.result) (ap (λ n. 2 * n) c.len.ensures)))
