use Rattle.std.proofs.Common.{List, length, ap, ◌∙◌, arith}
use Rattle.std.proofs.lemmas.List.{length-set, length-replicate}
use Rattle.pulse_ids.specs.Ids.{WireId}
use Rattle.rail_checker.proofs.RootTable.{own_more}
use Rattle.rail_checker.proofs.roots.own_wires.Goals as goal

pub loop-wire-init : goal.loop-wire-init
loop-wire-init c = (
  ap (λ (l : List WireId). length l) c.in_ok-roots.ensures ∙ length-replicate {A = WireId} c.args.count c.new.result,
  λ w lt. absurd (omega arith),
)

pub set-requires : goal.set-requires
set-requires c = omega (arith, c.new-in-loop-wire.ensures, c.loop-wire.invariant.0)

pub loop-wire-preserved : goal.loop-wire-preserved
loop-wire-preserved c = (
  ap (λ (l : List WireId). length l) c.set.ensures ∙ length-set c.loop-wire.roots c.new-in-loop-wire.result.number c.new-in-loop-wire-2.result ∙ c.loop-wire.invariant.0,
  own_more c.loop-wire.roots c.loop-wire.wire c.new-in-loop-wire.result.number c.new-in-loop-wire-2.result c.set.new.self c.set.ensures c.new-in-loop-wire.ensures
      c.new-in-loop-wire-2.ensures (omega (arith, c.loop-wire.invariant.0)) c.loop-wire.invariant.1,
)

pub returns : goal.returns
returns c = record { width = c.loop-wire.invariant.0; own = λ w lt. c.loop-wire.invariant.1 w (omega (arith, lt, c.loop-wire-test.false)) }
