use Rattle.pulse_world.proofs.WithoutCells.{order_law_without_cells, run_exists_without_cells, bit_law_without_cells}
use Rattle.pulse_world.proofs.orders.every_order_without_cells.Goals as goal

pub returns-clause-delivers : goal.returns-clause-delivers
returns-clause-delivers c = order_law_without_cells

pub returns-clause-run_exists : goal.returns-clause-run_exists
returns-clause-run_exists c = run_exists_without_cells

pub returns-clause-bits : goal.returns-clause-bits
returns-clause-bits c = bit_law_without_cells
