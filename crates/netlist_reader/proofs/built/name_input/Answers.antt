-- The name of an input port.
use Rattle.std.proofs.Common.{◌∙◌}
use Rattle.netlist_reader.proofs.PortNames.{fits_above, input_port_name}
use Rattle.netlist_reader.proofs.built.name_input.Goals as goal

pub name_input-requires-clause-above : goal.name_input-requires-clause-above
name_input-requires-clause-above c = fits_above c.args.port c.args.net.now.inputs c.args.net.now.input_names c.requires.fits

pub name_input-requires-clause-name : goal.name_input-requires-clause-name
name_input-requires-clause-name c =
    input_port_name c.args.line.now c.in_ok-name.name c.args.port c.requires.plain c.requires.said c.requires.short (c.in_ok-name.ensures ∙ c.name_in.ensures)
