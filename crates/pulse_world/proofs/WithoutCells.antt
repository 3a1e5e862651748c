-- Where the input rails give the bits of the output rails.
use Rattle.std.proofs.Common.{◌≡◌, ℕ, List, Bool, ◌∙◌, ap, sym}
use Rattle.cell_netlist.specs.declared.lines.Rail.{Rail}
use Rattle.pulse_ids.specs.Lists.{bit_at}
use Rattle.cell_netlist.specs.Netlists.{wire_of}
use Rattle.cell_netlist.specs.World.{has_sign}
use Rattle.cell_netlist.specs.RailEquations.{IsRails, first_state}
use Rattle.cell_netlist.specs.NetRuns.{bits_in, latches_from}
use Rattle.cell_netlist.proofs.CallerLemmasOnRuns.{rails-from, run_exists}
use Rattle.pulse_world.specs.WithoutCells.{InputCarries, OrderLawWithoutCells, RunExistsWithoutCells, BitLawWithoutCells}
use Rattle.pulse_world.proofs.PortBits.{bit_law}
use Rattle.pulse_world.proofs.MomentInvariant.{order_law}

pub order_law_without_cells : OrderLawWithoutCells
order_law_without_cells net sound none = order_law net sound

pub run_exists_without_cells : RunExistsWithoutCells
run_exists_without_cells net sound none = run_exists net sound

pub bit_law_without_cells : BitLawWithoutCells
bit_law_without_cells net sound none vectors bit carry =
    let run = run_exists net sound vectors in
    bit_law net sound vectors run.0 bit run.1 (λ cycle vector e output i.
    carries run.0 cycle vector output (rails-from net (first_state net) vectors run.0 run.1 cycle vector e) (carry cycle vector e output i))
  where
    carries : (run : List (List Bool)) (cycle : ℕ) (vector : List Bool) (output : Rail) → IsRails net (latches_from net (first_state net) run cycle) vector (bits_in run cycle)
        → InputCarries net vector output (bit cycle output.port) → bit_at (bits_in run cycle) (wire_of output) ≡ has_sign (bit cycle output.port) output.sign
    carries run cycle vector output rails c =
        ap (bit_at (bits_in run cycle)) (sym c.wire) ∙ (rails.rails c.input c.among ∙ c.carries)
