-- What steps do to what state lines name.
use Rattle.std.proofs.Common.{◌+◌, inl, inr, ℕ, List, ◌++◌}
use Rattle.cell_netlist.specs.declared.kinds.Role.TheVariants.{Back}
use Rattle.cell_netlist.specs.declared.lines.Cell.{Cell}
use Rattle.cell_netlist.specs.declared.lines.Cell.TheVariants.{Droc}
use Rattle.cell_netlist.specs.declared.lines.StateLine.{StateLine}
use Rattle.graph_build.specs.Built.{PlainBuilt}
use Rattle.rail_mapper.specs.StateLines.{IsStateOf}
use Rattle.splitter_trees.proofs.CallerLemmas.{place_stays}

-- more cells
pub more_state : (built : PlainBuilt) (label : ℕ → ℕ) (pending : List (ℕ × ℕ)) (cells more : List Cell) (line : StateLine)
    → IsStateOf built label pending cells line → IsStateOf built label pending (cells ++ more) line
more_state built label pending cells more line (inl waits) = inl waits
more_state built label pending cells more line (inr its) = inr (record {
  done = its.done;
  preload = its.preload;
  feed = its.feed;
  q = its.q;
  n = its.n;
  back = place_stays cells more line.cell.number (Droc Back its.preload its.feed its.q its.n) its.back;
  feed_is = its.feed_is;
})
