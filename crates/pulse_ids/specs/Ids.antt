-- The five kinds of numbers by their names, and the identifier with a given number.
use Rattle.std.specs.Prelude.{ℕ}
use Rattle.pulse_ids.specs.declared.ids.CellKind.{CellKind}
use Rattle.pulse_ids.specs.declared.ids.Id.{Id}
use Rattle.pulse_ids.specs.declared.ids.NetKind.{NetKind}
use Rattle.pulse_ids.specs.declared.ids.NodeKind.{NodeKind}
use Rattle.pulse_ids.specs.declared.ids.RailKind.{RailKind}
use Rattle.pulse_ids.specs.declared.ids.WireKind.{WireKind}
use Rattle.pulse_ids.specs.declared.literals.Literal.{Literal}

abbrev pub NetId : Type 0
NetId = Id NetKind

abbrev pub WireId : Type 0
WireId = Id WireKind

abbrev pub CellId : Type 0
CellId = Id CellKind

abbrev pub RailId : Type 0
RailId = Id RailKind

abbrev pub NodeId : Type 0
NodeId = Id NodeKind

abbrev pub Lit : Type 0
Lit = Literal NetKind

abbrev pub NodeLit : Type 0
NodeLit = Literal NodeKind

-- the identifier of a kind with this number
abbrev pub numbered : {K : Type 0} → ℕ → Id K
numbered n = record { number = n; kind = record {} }
