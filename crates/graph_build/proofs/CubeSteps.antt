-- One literal more of a cube, and one cube more of an equation.
use Rattle.std.proofs.Common.{◌≡◌, ℕ, suc, ◌+◌, ◌<◌, List, [], ◌∷◌, Bool, true, not, if◌then◌else◌, ◌&&◌, ◌||◌, All, length, map, drop, get_or, drop-cons, add-one, refl, sym, ◌∙◌, ap, arith}
use Rattle.std.specs.List.{list_any}
use Rattle.std.proofs.lemmas.List.{length-map}
use Rattle.std.proofs.lemmas.List.Elements.{All-head, All-tail}
use Rattle.pulse_ids.specs.Ids.{Lit, NodeLit}
use Rattle.aig_core.specs.Graphs.{PlainGraph, count_of}
use Rattle.aig_core.specs.Growth.{Grows}
use Rattle.aig_core.specs.Values.{value_of}
use Rattle.source_machine.specs.Machines.{literal_of}
use Rattle.source_machine.specs.Fitting.{size_of_cubes}
use Rattle.source_machine.specs.Runs.{cube_value, literal_value}
use Rattle.graph_build.specs.Literals.{literal_at, node_literal, net_value, AllWithin}
use Rattle.graph_build.specs.Equations.{IsLiteralOf, IsCubeSoFar, AreCubesSoFar}
use Rattle.graph_build.proofs.GrowthLemmas.{grew_both, grew_none, grew_more}
use Rattle.graph_build.proofs.LiteralValues.{node_literal_value, node_literal_within, and_assoc, or_assoc}

pub cube_begins : (literals : List NodeLit) (cube : List Lit) (graph : PlainGraph) (one : NodeLit) → one.id.number < count_of graph
    → ((state vector : List Bool) → value_of graph state vector one ≡ true) → IsCubeSoFar literals cube graph 0 graph one
cube_begins literals cube graph one within value = record {
  grew = grew_none graph;
  within = within;
  joined = λ state vector. ap (λ b. b && cube_value (net_value graph literals state vector) (map literal_of cube)) (value state vector);
}

pub cube_goes_on : (literals : List NodeLit) (cube : List Lit) (old mid new : PlainGraph) (index : ℕ) (before item after : NodeLit) (d : Lit) → index < length cube
    → AllWithin old literals → (literal_of (get_or cube index d)).net < length literals → item ≡ node_literal literals (literal_of (get_or cube index d))
    → IsCubeSoFar literals cube old index mid before → Grows mid new → after.id.number < count_of new
    → ((state vector : List Bool) → value_of new state vector after ≡ (value_of mid state vector before && value_of mid state vector item))
    → IsCubeSoFar literals cube old (index + 1) new after
cube_goes_on literals cube old mid new index before item after d low within fits e h g placed value = record {
  grew = grew_more index old mid new h.grew g;
  within = placed;
  joined = joined;
}
  where
    item_value : (state vector : List Bool) → value_of mid state vector item ≡ literal_value (net_value old literals state vector) (literal_of (get_or cube index d))
    item_value state vector =
        ap (λ l. value_of mid state vector l) e ∙ h.grew.values state vector (node_literal literals (literal_of (get_or cube index d)))
        (node_literal_within old literals (literal_of (get_or cube index d)) within fits) ∙ node_literal_value old literals state vector (literal_of (get_or cube index d))

    rest : (state vector : List Bool) → cube_value (net_value old literals state vector) (map literal_of (drop index cube)) ≡
        (literal_value (net_value old literals state vector) (literal_of (get_or cube index d)) && cube_value (net_value old literals state vector)
        (map literal_of (drop (index + 1) cube)))
    rest state vector =
        ap (λ l. cube_value (net_value old literals state vector) (map literal_of l)) (drop-cons cube index d low ∙ ap (λ n. get_or cube index d ∷ drop n cube) (sym (add-one index)))

    joined : (state vector : List Bool) → (value_of new state vector after && cube_value (net_value old literals state vector)
        (map literal_of (drop (index + 1) cube))) ≡ cube_value (net_value old literals state vector) (map literal_of cube)
    joined state vector =
        ap (λ b. b && cube_value (net_value old literals state vector) (map literal_of (drop (index + 1) cube)))
        (value state vector ∙ ap (λ b. value_of mid state vector before && b) (item_value state vector))
        ∙ and_assoc (value_of mid state vector before) (literal_value (net_value old literals state vector) (literal_of (get_or cube index d)))
        (cube_value (net_value old literals state vector) (map literal_of (drop (index + 1) cube)))
        ∙ ap (λ b. value_of mid state vector before && b) (sym (rest state vector)) ∙ h.joined state vector

cube_same : (f g : ℕ → Bool) (cube : List Lit) (width : ℕ) → ((net : ℕ) → net < width → f net ≡ g net) → All (λ literal. literal.id.number < width) cube
    → cube_value f (map literal_of cube) ≡ cube_value g (map literal_of cube)
cube_same f g [] width same fit = refl
cube_same f g (literal ∷ cube) width same fit =
    let head : literal_value f (literal_of literal) ≡ literal_value g (literal_of literal) =
    ap (λ b. if literal.negated then not b else b) (same literal.id.number (All-head (λ l. l.id.number < width) literal cube fit)) in
    ap (λ b. b && cube_value f (map literal_of cube)) head
    ∙ ap (λ b. literal_value g (literal_of literal) && b) (cube_same f g cube width same (All-tail (λ l. l.id.number < width) literal cube fit))

pub cubes_go_on : (literals : List NodeLit) (cubes : List (List Lit)) (old mid first new : PlainGraph) (index : ℕ) (before item after : NodeLit) (cube : List Lit)
    → index < length cubes → cube ≡ get_or cubes index cube → AllWithin old literals → All (λ literal. literal.id.number < length literals) cube
    → AreCubesSoFar literals cubes old index mid before
    → IsLiteralOf (length cube) mid first (λ state vector. cube_value (net_value mid literals state vector) (map literal_of cube)) item
    → IsLiteralOf 1 first new (λ state vector. value_of first state vector before || value_of first state vector item) after
    → AreCubesSoFar literals cubes old (index + 1) new after
cubes_go_on literals cubes old mid first new index before item after cube low is_cube within fit h r e = record {
  spent = h.spent + (length cube + 1);
  grew = grew_both h.spent (length cube + 1) (h.spent + (length cube + 1)) old mid new refl h.grew (grew_both (length cube) 1 (length cube + 1) mid first new refl r.grew e.grew);
  left = omega (arith, h.left, ap (λ l. size_of_cubes (map (map literal_of) l)) split, length-map cube literal_of);
  within = e.within;
  joined = joined;
}
  where
    split : drop index cubes ≡ cube ∷ drop (index + 1) cubes
    split = drop-cons cubes index cube low ∙ ap (λ x. x ∷ drop (suc index) cubes) (sym is_cube) ∙ ap (λ n. cube ∷ drop n cubes) (sym (add-one index))

    cube_bits : (state vector : List Bool) → value_of first state vector item ≡ cube_value (net_value old literals state vector) (map literal_of cube)
    cube_bits state vector = r.value_is state vector
        ∙ cube_same (net_value mid literals state vector) (net_value old literals state vector) cube (length literals)
        (λ net lt. h.grew.values state vector (literal_at literals net) (within net lt)) fit

    joined : (state vector : List Bool) → (value_of new state vector after || list_any (cube_value (net_value old literals state vector))
        (map (map literal_of) (drop (index + 1) cubes))) ≡ list_any (cube_value (net_value old literals state vector)) (map (map literal_of) cubes)
    joined state vector =
        ap (λ b. b || list_any (cube_value (net_value old literals state vector)) (map (map literal_of) (drop (index + 1) cubes)))
        (e.value_is state vector ∙ ap (λ b. b || value_of first state vector item) (r.grew.values state vector before h.within)
        ∙ ap (λ b. value_of mid state vector before || b) (cube_bits state vector))
        ∙ or_assoc (value_of mid state vector before) (cube_value (net_value old literals state vector) (map literal_of cube))
        (list_any (cube_value (net_value old literals state vector)) (map (map literal_of) (drop (index + 1) cubes)))
        ∙ ap (λ l. value_of mid state vector before || list_any (cube_value (net_value old literals state vector)) (map (map literal_of) l)) (sym split) ∙ h.joined state vector
