use Rattle.std.proofs.Common.{ℕ, Option, List, sym, subst}
use Rattle.cell_netlist.specs.Netlists.{PlainNetlist}
use Rattle.source_machine.specs.Machines.{PlainMachine, machine_of}
use Rattle.graph_build.specs.Built.{IsGraphOf}
use Rattle.rail_mapper.specs.Mapped.{IsMapped, HasFewCells}
use Rattle.rail_mapper.specs.Naming.{NamesPorts}
use Rattle.rail_mapper.proofs.FewCells.{few_cells}
use Rattle.rail_mapper.proofs.LeanNets.{HasNodeLaws}
use Rattle.rail_mapper.proofs.MadeNets.{net_sound, net_mapped}
use Rattle.rail_mapper.proofs.mapping.map.Goals as goal

pub adopt-requires : goal.adopt-requires
adopt-requires c =
    net_sound c.args.machine.now c.args.built.now c.args.demand.now c.args.ask c.args.version c.requires.graph c.in_ok-draft.draft c.in_ok-draft.ensures c.as_slice.result.now c.as_slice-2.result.now
    c.into_net.result c.in_ok-net.net c.into_net.ensures c.in_ok-net.ensures

pub returns-in-Ok-clause-mapped : goal.returns-in-Ok-clause-mapped
returns-in-Ok-clause-mapped c =
    let raw = machine_of c.raw-raw.result.now in
    let laws : HasNodeLaws = record {
      pairs = c.nodes_have_values.ensures.pairs;
      inputs = c.nodes_have_places.ensures.inputs;
      latches = c.nodes_have_places.ensures.latches;
      ands = c.nodes_have_places.ensures.conjunctions;
      inside = c.demands_are_closed.ensures.inside;
    } in
    let graph = subst (λ (m : PlainMachine). IsGraphOf m c.args.built.now) (sym c.raw-raw.ensures.raw) c.requires.graph in
    let named : NamesPorts raw.input_names raw.output_names c.into_net.result c.in_ok-net.net =
    subst (λ (l : List (Option (List ℕ))). NamesPorts l raw.output_names c.into_net.result c.in_ok-net.net) c.as_slice.ensures.value
    (subst (λ (l : List (Option (List ℕ))). NamesPorts c.as_slice.result.now l c.into_net.result c.in_ok-net.net) c.as_slice-2.ensures.value c.in_ok-net.ensures) in
    let its : IsMapped raw c.args.built.now c.args.demand.now c.args.ask c.args.version c.in_ok-net.net =
    net_mapped raw c.args.built.now c.args.demand.now c.args.ask c.args.version graph c.nodes_have_values.ensures.bits laws c.requires.demand c.in_ok-draft.draft
    c.in_ok-draft.ensures c.into_net.result c.in_ok-net.net c.into_net.ensures named in
    subst (λ (n : PlainNetlist). IsMapped c.args.machine.now c.args.built.now c.args.demand.now c.args.ask c.args.version n) (sym c.in-Ok.ensures.sound)
    (subst (λ (m : PlainMachine). IsMapped m c.args.built.now c.args.demand.now c.args.ask c.args.version c.in_ok-net.net) c.raw-raw.ensures.raw its)

pub returns-in-Ok-clause-few : goal.returns-in-Ok-clause-few
returns-in-Ok-clause-few c =
    let raw = machine_of c.raw-raw.result.now in
    let laws : HasNodeLaws = record {
      pairs = c.nodes_have_values.ensures.pairs;
      inputs = c.nodes_have_places.ensures.inputs;
      latches = c.nodes_have_places.ensures.latches;
      ands = c.nodes_have_places.ensures.conjunctions;
      inside = c.demands_are_closed.ensures.inside;
    } in
    let graph = subst (λ (m : PlainMachine). IsGraphOf m c.args.built.now) (sym c.raw-raw.ensures.raw) c.requires.graph in
    let named : NamesPorts raw.input_names raw.output_names c.into_net.result c.in_ok-net.net =
    subst (λ (l : List (Option (List ℕ))). NamesPorts l raw.output_names c.into_net.result c.in_ok-net.net) c.as_slice.ensures.value
    (subst (λ (l : List (Option (List ℕ))). NamesPorts c.as_slice.result.now l c.into_net.result c.in_ok-net.net) c.as_slice-2.ensures.value c.in_ok-net.ensures) in
    let its : IsMapped raw c.args.built.now c.args.demand.now c.args.ask c.args.version c.in_ok-net.net =
    net_mapped raw c.args.built.now c.args.demand.now c.args.ask c.args.version graph c.nodes_have_values.ensures.bits laws c.requires.demand c.in_ok-draft.draft
    c.in_ok-draft.ensures c.into_net.result c.in_ok-net.net c.into_net.ensures named in
    subst (λ (n : PlainNetlist). HasFewCells c.args.machine.now n) (sym c.in-Ok.ensures.sound)
    (few_cells c.args.machine.now c.args.built.now c.args.demand.now c.in_ok-net.net c.requires.graph its.cells)
