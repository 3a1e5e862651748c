use Rattle.std.proofs.Common.{◌∙◌, ℕ, ap, sym, subst}
use Rattle.source_machine.specs.Fitting.{NamesFit}
use Rattle.cell_netlist.specs.Netlists.{PlainNetlist}
use Rattle.rail_mapper.proofs.NamedPorts.{names_ports}
use Rattle.rail_mapper.proofs.mapping.name_ports.Goals as goal

pub name_outputs-requires-clause-fit : goal.name_outputs-requires-clause-fit
name_outputs-requires-clause-fit c =
    subst (λ (k : ℕ). NamesFit k c.args.output_names.now) (sym (ap (λ (n : PlainNetlist). n.outputs) c.in_ok-name_inputs.ensures.added)) c.requires.outputs

pub name_outputs-requires-clause-unnamed : goal.name_outputs-requires-clause-unnamed
name_outputs-requires-clause-unnamed c = ap (λ (n : PlainNetlist). n.output_names) c.in_ok-name_inputs.ensures.added ∙ c.requires.no_output

pub returns : goal.returns
returns c =
    names_ports c.args.input_names.now c.args.output_names.now c.args.net c.name_inputs.new.net c.name_outputs.new.net c.in_ok-name_inputs.ensures c.in_ok-name_outputs.ensures
