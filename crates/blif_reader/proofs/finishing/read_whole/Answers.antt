-- What all lines tell fits.
use Rattle.std.proofs.Common.{sym, ap}
use Rattle.blif_reader.specs.States.{BlifState}
use Rattle.blif_reader.proofs.Bounding.{whole_fits}
use Rattle.blif_reader.proofs.finishing.read_whole.Goals as goal

pub machine_whole-requires : goal.machine_whole-requires
machine_whole-requires c =
    whole_fits c.args.state c.close.new.self _ _ c.requires c.in_ok-close.ensures (ap (λ (s : BlifState). s.machine) (sym c.state-2.view_is)) (ap (λ (s : BlifState). s.nets) (sym c.state-2.view_is))
