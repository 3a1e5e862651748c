-- What the netlist of a machine is.
use Rattle.std.proofs.Common.{[], sym, ap, ◌∙◌, append-nil}
use Rattle.source_machine.specs.Fitting.{Fits}
use Rattle.source_machine.specs.Machines.{PlainMachine}
use Rattle.source_machine.specs.Runs.{bit_of}
use Rattle.graph_build.specs.Built.{PlainBuilt}
use Rattle.rail_demand.specs.Demands.{PlainDemand}
use Rattle.cell_netlist.specs.declared.kinds.Ask.{Ask}
use Rattle.cell_netlist.specs.declared.kinds.Version.{Version}
use Rattle.cell_netlist.specs.Netlists.{PlainNetlist, IsNetlist}
use Rattle.cell_netlist.specs.Text.{text_of}
use Rattle.netlist_reader.specs.Laws.{TextsAreRead}
use Rattle.netlist_reader.specs.Verdicts.{net_verdict}
use Rattle.pulse_world.specs.EveryOrder.{BitLaw}
use Rattle.pulse_world.specs.RailPulses.{RailLaw}
use Rattle.rail_mapper.specs.Mapped.{HasFewCells, IsMapped}
use Rattle.xsfq_cli.specs.Headline.{IsNetOf}
use Rattle.xsfq_cli.proofs.LatchesKept.{keeps_latches}
use Rattle.xsfq_cli.proofs.TextLimits.{within_limits}

pub mapped_is_net_of : RailLaw → BitLaw → TextsAreRead → (machine : PlainMachine) (built : PlainBuilt) (demand : PlainDemand) (ask : Ask) (version : Version) (net : PlainNetlist)
    → Fits machine → IsMapped machine built demand ask version net → HasFewCells machine net → IsNetlist net → IsNetOf machine ask version net
mapped_is_net_of rails law read machine built demand ask version net fits mapped few netlist = record {
  read_back = ap net_verdict (sym (append-nil (text_of net)))
      ∙ read net netlist (within_limits machine ask net fits.limits mapped.sound mapped.asked mapped.named few netlist) [];
  netlist = netlist;
  sound = mapped.sound;
  asked = mapped.asked;
  named = mapped.named;
  of_version = mapped.of_version;
  states = mapped.states.cells;
  follows = mapped.follows;
  pulses = rails net mapped.sound;
  carries = mapped.carries;
  lean = mapped.lean;
  delivers = λ vectors valuations are run.
      let net_run = (rails net mapped.sound).some_run vectors in
      law net mapped.sound vectors net_run.0 (bit_of machine valuations) net_run.1 (mapped.carries vectors valuations net_run.0 are run net_run.1);
  keeps = keeps_latches rails machine net mapped.sound mapped.follows;
  cells = few;
}
