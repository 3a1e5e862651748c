use Rattle.std.proofs.Common.{◌<◌, ◌≤◌, ◌^◌, sym, subst, arith, length}
use Rattle.aig_core.specs.Graphs.{PlainGraph, count_of}
use Rattle.aig_core.specs.KeptPairs.{pairs_of}
use Rattle.aig_core.specs.Tidy.{IsTidyPair}
use Rattle.aig_core.proofs.PlaceLemmas.{placed_low, kept_placed}
use Rattle.aig_core.proofs.graphs.Graph.place.Goals as goal

-- the graph before the call
abbrev before : goal.In_ok-place → PlainGraph
before c =
    record { inputs = c.self.inside.inputs; latches = c.self.inside.latches; pairs = pairs_of c.self.inside.pairs }

low : (c : goal.In_ok-place) → c.in_ok-place.place ≤ 2 ^ 18
low c =
    placed_low (pairs_of c.self.inside.pairs) (pairs_of c.place.new.self) c.args.pair c.in_ok-place.place c.in_ok-place.ensures.placed
    (subst (λ graph. length graph.pairs < 2 ^ 18) (sym c.self.view_is) c.requires.room)

pub invariant_of-self-2 : goal.invariant_of-self-2
invariant_of-self-2 c =
    kept_placed (before c) c.args.pair c.in_ok-place.place (pairs_of c.place.new.self) c.in_ok-place.ensures.placed c.self.invariant
    (subst (λ graph. length graph.pairs < 2 ^ 18) (sym c.self.view_is) c.requires.room) (subst (λ graph. IsTidyPair (count_of graph) c.args.pair) (sym c.self.view_is) c.requires.pair)

pub overflow_cast-place : goal.overflow_cast-place
overflow_cast-place c = omega (arith, low c)

pub conjunction_literal-requires : goal.conjunction_literal-requires
conjunction_literal-requires c = low c
