-- The rails of the literals of a graph.
use Rattle.pulse_ids.specs.Ids.{NodeLit}
use Rattle.pulse_ids.specs.Literals.{rail_sign}
use Rattle.pulse_ids.specs.declared.literals.Sign.{Sign}
use Rattle.rail_demand.specs.declared.rails.NodeRail.{NodeRail}

-- the rail of a literal's node that is the rail of this sign of the literal
abbrev pub literal_rail : NodeLit → Sign → NodeRail
literal_rail literal sign = record { node = literal.id; sign = rail_sign literal sign }
