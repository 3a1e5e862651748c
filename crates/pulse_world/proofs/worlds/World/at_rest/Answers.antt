use Rattle.std.proofs.Common.{◌≡◌, ◌↔◌, true, subst}
use Rattle.cell_netlist.specs.World.{IsAtRest}
use Rattle.pulse_world.specs.Worlds.{PlainWorld, state_of}
use Rattle.pulse_world.proofs.worlds.World.at_rest.Goals as goal

pub returns : goal.returns
returns c =
    subst (λ (w : PlainWorld). (c.do_rest.result ≡ true) ↔ IsAtRest (state_of w)) c.self.view_is
    c.do_rest.ensures
