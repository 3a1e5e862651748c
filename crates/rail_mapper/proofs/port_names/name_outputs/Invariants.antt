use Rattle.std.proofs.Common.{◌≡◌}
use Rattle.rail_mapper.specs.Naming.{AreNamed}
use Rattle.rail_mapper.proofs.port_names.name_outputs.Given as goal

-- the ports before this one have their names, and nothing else is changed
abbrev pub invariant-loop-port : goal.invariant-loop-port
invariant-loop-port l = AreNamed l.names l.port l.net.output_names × (l.net ≡ record l.fn.net { output_names = l.net.output_names })
