use Rattle.std.proofs.Common.{not}
use Rattle.cell_netlist.specs.declared.lines.Cell.{Cell}
use Rattle.rail_checker.specs.Tables.{fits_by}
use Rattle.rail_checker.proofs.Refusing.{NonePassesBefore}
use Rattle.rail_checker.proofs.roles.first_loose.Given as goal

-- no cell so far passes the test
abbrev pub invariant-loop-number : goal.invariant-loop-number
invariant-loop-number l = NonePassesBefore (λ (cell : Cell). not (fits_by l.fronts l.backs l.roots cell)) l.cells l.number
