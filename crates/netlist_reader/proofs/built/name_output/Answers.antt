-- The name of an output port.
use Rattle.std.proofs.Common.{◌∙◌}
use Rattle.netlist_reader.proofs.PortNames.{fits_above, output_port_name}
use Rattle.netlist_reader.proofs.built.name_output.Goals as goal

pub name_output-requires-clause-above : goal.name_output-requires-clause-above
name_output-requires-clause-above c = fits_above c.args.port c.args.net.now.outputs c.args.net.now.output_names c.requires.fits

pub name_output-requires-clause-name : goal.name_output-requires-clause-name
name_output-requires-clause-name c =
    output_port_name c.args.line.now c.in_ok-name.name c.args.port c.requires.plain c.requires.said c.requires.short (c.in_ok-name.ensures ∙ c.name_in.ensures)
