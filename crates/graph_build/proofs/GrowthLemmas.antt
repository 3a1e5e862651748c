-- What several conjunctions leave as it was.
use Rattle.std.proofs.Common.{◌≡◌, ℕ, ◌+◌, refl, ◌∙◌, arith}
use Rattle.aig_core.specs.Graphs.{PlainGraph}
use Rattle.aig_core.specs.Growth.{Grows}
use Rattle.graph_build.specs.Literals.{Grew}

pub grew_none : (graph : PlainGraph) → Grew 0 graph graph
grew_none graph = record {
  inputs = refl;
  latches = refl;
  at_least = omega arith;
  at_most = omega arith;
  values = λ state vector literal low. refl;
}

pub grew_both : (n m most : ℕ) (old mid new : PlainGraph) → most ≡ n + m → Grew n old mid → Grew m mid new → Grew most old new
grew_both n m most old mid new e g h = record {
  inputs = h.inputs ∙ g.inputs;
  latches = h.latches ∙ g.latches;
  at_least = omega (arith, g.at_least, h.at_least);
  at_most = omega (arith, e, g.at_most, h.at_most);
  values = λ state vector literal low. h.values state vector literal (omega (arith, low, g.at_least)) ∙ g.values state vector literal low;
}

pub grew_once : (old new : PlainGraph) → Grows old new → Grew 1 old new
grew_once old new g = record {
  inputs = g.inputs;
  latches = g.latches;
  at_least = g.at_least;
  at_most = omega (arith, g.at_most, g.inputs, g.latches);
  values = g.values;
}

pub grew_more : (n : ℕ) (old mid new : PlainGraph) → Grew n old mid → Grows mid new → Grew (n + 1) old new
grew_more n old mid new g h = grew_both n 1 (n + 1) old mid new refl g (grew_once mid new h)
