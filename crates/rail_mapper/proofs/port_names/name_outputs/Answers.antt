use Rattle.std.proofs.Common.{◌≡◌, ◌<◌, ◌∙◌, ℕ, None, length, ap, subst, arith, refl}
use Rattle.std.specs.Prelude.{slice_index_or}
use Rattle.std.proofs.lemmas.Option.{get_or_from_slice_get, slice_get_read}
use Rattle.cell_netlist.specs.Netlists.{PlainNetlist}
use Rattle.rail_mapper.specs.Naming.{AreNamed}
use Rattle.rail_mapper.proofs.NamedPorts.{named_one, named_all}
use Rattle.rail_mapper.proofs.port_names.name_outputs.Goals as goal

pub loop-port-preserved : goal.loop-port-preserved
loop-port-preserved c =
    let low : c.loop-port.port < length c.args.names.now = omega (arith, c.loop-port-test.true, c.outputs-port-end.ensures, c.requires.fit.0) in
    let item : slice_index_or c.args.names.now c.loop-port.port None ≡ c.index-names-port.result =
    get_or_from_slice_get c.args.names.now c.loop-port.port c.index-names-port.result None
    (slice_get_read c.args.names.now (length c.args.names.now) c.loop-port.port c.index-names-port.result refl low c.index-names-port.is) in (
      named_one c.args.names.now c.loop-port.port c.index-names-port.result c.loop-port.net.output_names c.name_output.new.net.output_names item c.loop-port.invariant.0
          c.in_ok-name_output.ensures.named,
      c.in_ok-name_output.ensures.others ∙ ap (λ (n : PlainNetlist). record n { output_names = c.name_output.new.net.output_names }) c.loop-port.invariant.1,
    )

pub returns : goal.returns
returns c =
    let end : c.loop-port.port ≡ length c.args.names.now = omega (arith, c.loop-port-test, c.loop-port.auto.port-end, c.outputs-port-end.ensures, c.requires.fit.0) in
    record {
      added = c.loop-port.invariant.1;
      each =
          named_all c.args.names.now c.loop-port.net.output_names (subst (λ (k : ℕ). AreNamed c.args.names.now k c.loop-port.net.output_names) end c.loop-port.invariant.0);
    }
