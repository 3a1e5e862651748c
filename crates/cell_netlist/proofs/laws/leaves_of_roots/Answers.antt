use Rattle.cell_netlist.specs.Netlists.{IsRoot}
use Rattle.cell_netlist.specs.Lean.{leaves}
use Rattle.cell_netlist.proofs.LeavesAreCounted.{one_count, leaves_counted, leaf_balanced}
use Rattle.cell_netlist.proofs.laws.leaves_of_roots.Goals as goal

pub returns-clause-counted : goal.returns-clause-counted
returns-clause-counted c = leaves_counted

pub returns-clause-one : goal.returns-clause-one
returns-clause-one c = λ net root k j. one_count (λ leaf. IsRoot net root leaf) (leaves net) k j

pub returns-clause-balanced : goal.returns-clause-balanced
returns-clause-balanced c = leaf_balanced
