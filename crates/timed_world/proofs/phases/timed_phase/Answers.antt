use Rattle.std.proofs.Common.{◌≡◌, ◌<◌, ◌≤◌, ℕ, zero, suc, refl, subst, arith}
use Rattle.pulse_ids.proofs.CallerLemmasOnCounts.{occurrences-IsIn}
use Rattle.pulse_ids.specs.Lists.{occurrences}
use Rattle.cell_netlist.specs.Netlists.{PlainNetlist, number_of_wires}
use Rattle.cell_netlist.specs.Sound.{IsSound}
use Rattle.pulse_world.specs.Worlds.{state_of}
use Rattle.timed_world.proofs.phases.timed_phase.Goals as goal

positive : (n : ℕ) → (n ≡ 0 → ⊥) → 1 ≤ n
positive zero some = absurd (some refl)
positive (suc n) some = omega arith

pub returns-clause-timed : goal.returns-clause-timed
returns-clause-timed g c = record {
  delays = c.read-delays.result;
  given = c.read-delays.ensures;
  within = c.range.ensures;
  timed = c.settle_timed-time.ensures.timed;
  bounded = λ bound is.
      c.times_within_bound.ensures c.args.net.now (subst (λ (n : PlainNetlist). IsSound n) c.requires.world c.phase.ensures.world.sound) c.read-delays.result bound is
      (state_of c.args.world.now)
      (λ wire some. subst (λ (n : PlainNetlist). wire < number_of_wires n) c.requires.world
      (c.phase.ensures.below wire (occurrences-IsIn wire c.args.world.now.queue (positive (occurrences wire c.args.world.now.queue) some))))
      c.settle_timed-time.new.log.wires c.settle_timed-time.result (state_of c.settle_timed-time.new.world) c.settle_timed-time.ensures.timed;
}
