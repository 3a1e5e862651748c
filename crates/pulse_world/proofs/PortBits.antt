-- From the bits of the wires to the bits of the output ports.
use Rattle.std.proofs.Common.{◌≡◌, ◌∙◌, ap, Some}
use Rattle.pulse_ids.specs.Lists.{bit_at}
use Rattle.cell_netlist.specs.Netlists.{wire_of}
use Rattle.cell_netlist.specs.World.{IsSettled, has_sign, pulses_in}
use Rattle.cell_netlist.specs.Runs.{Stage, Moment, IsMoment}
use Rattle.pulse_world.specs.Delivery.{due_counts}
use Rattle.cell_netlist.specs.NetRuns.{bits_in}
use Rattle.cell_netlist.proofs.CallerLemmasOnSums.{map-on}
use Rattle.pulse_ids.proofs.CallerLemmasOnCounts.{one_if}
use Rattle.pulse_world.specs.EveryOrder.{RailsToBits, BitLaw}
use Rattle.pulse_world.proofs.RunMoments.{vector-of}
use Rattle.pulse_world.proofs.MomentInvariant.{order_law}

pub rails_to_bits : RailsToBits
rails_to_bits net vectors run bit delivers carry = record {
  no_upset = delivers.no_upset;
  live = delivers.live;
  few = delivers.few;
  counts = counts;
  at_rest = delivers.at_rest;
}
  where
    counts : (moment : Moment) → IsMoment net vectors moment → (stage : Stage) → moment.stage ≡ Some stage → IsSettled moment.state
        → moment.state.counted ≡ due_counts (bit stage.cycle) stage.phase net.output_rails
    counts moment m stage e settled =
        let v = vector-of net vectors m.0 moment m.1 stage e in
        delivers.counts moment m stage e settled
        ∙ map-on (λ rail. one_if (pulses_in stage.phase (bit_at (bits_in run stage.cycle) (wire_of rail))))
        (λ rail. one_if (pulses_in stage.phase (has_sign (bit stage.cycle rail.port) rail.sign))) net.output_rails (λ rail i.
        ap (λ b. one_if (pulses_in stage.phase b)) (carry stage.cycle v.0 v.1 rail i))

-- a sound netlist delivers the bits that its wires carry
pub bit_law : BitLaw
bit_law net sound vectors run bit is_net_run carry = rails_to_bits net vectors run bit (order_law net sound vectors run is_net_run) carry
