use Rattle.std.proofs.Common.{rules, ◌≡◌, Some, inl, inr, slice_get, subst, arith, refl}
use Rattle.std.proofs.lemmas.Option.{slice_get_within}
use Rattle.std.proofs.lemmas.Bool.{cases_eq}
use Rattle.cell_netlist.specs.declared.kinds.Held.TheVariants.{Rest}
use Rattle.cell_netlist.specs.declared.kinds.CellState.{CellState}
use Rattle.pulse_ids.proofs.CallerLemmas.{IsIn-place, place_of}
use Rattle.pulse_world.proofs.worlds.do_rest.Goals as goal

pub returns-then-not-rests : goal.returns-then-not-rests
returns-then-not-rests c =
    let moved : c.at.result.1.held ≡ Rest → ⊥ = search rules in
    (λ e. absurd cc, λ all. absurd (moved (all c.at.result.1 (IsIn-place c.at.result.1 c.args.cell_states.now.states c.new.result.number c.at.ensures.state))))

pub loop-number-preserved : goal.loop-number-preserved
loop-number-preserved c at its lt e = elim (cases_eq at c.loop-number.number) [
  | inr other ↦ c.loop-number.invariant at its (omega arith) e
  | inl same ↦
      let rests : c.at.result.1.held ≡ Rest = search rules in
      let here = subst (λ k. slice_get c.args.cell_states.now.states k ≡ Some c.at.result.1) c.new.ensures c.at.ensures.state in
      let there = subst (λ k. slice_get c.args.cell_states.now.states k ≡ Some its) same e in
      let is : c.at.result.1 ≡ its = cc in
      subst (λ (k : CellState). k.held ≡ Rest) is rests
]

pub returns : goal.returns
returns c = (
  λ e cell_state h.
      let place = place_of cell_state c.args.cell_states.now.states h in
      let inside = slice_get_within c.args.cell_states.now.states place.0 cell_state place.1 in
      let past = c.loop-number-test.false in
      let all = c.len-number-end.ensures in
      c.loop-number.invariant place.0 cell_state (omega arith) place.1,
  λ all. refl,
)
