-- The bit of each node of a tidy graph.
use Rattle.std.proofs.Common.{refl, arith}
use Rattle.aig_core.specs.declared.nodes.Node.TheVariants.{False, Input, Latch, And}
use Rattle.aig_core.specs.Laws.{NodesHaveTheirBits}
use Rattle.aig_core.proofs.NodePlaces.{conjunctions_are_pairs}
use Rattle.aig_core.proofs.ValueLemmas.{bit-of, and_settles}

pub nodes_have_their_bits : NodesHaveTheirBits
nodes_have_their_bits graph tidy state vector number False e =
    bit-of state vector graph number False e (λ bits nodes l. refl)
nodes_have_their_bits graph tidy state vector number (Input k) e =
    bit-of state vector graph number (Input k) e (λ bits nodes l. refl)
nodes_have_their_bits graph tidy state vector number (Latch k) e =
    bit-of state vector graph number (Latch k) e (λ bits nodes l. refl)
nodes_have_their_bits graph tidy state vector number (And low high) e =
    let r = conjunctions_are_pairs graph number low high e in
    let pair = tidy.each r.0 (record { low = low; high = high }) r.2 in
    bit-of state vector graph number (And low high) e
    (and_settles state vector number low high (omega (arith, r.1, pair.low_before)) (omega (arith, r.1, pair.high_before)))
