use Rattle.std.proofs.Common.{map, ◌<◌, ◌+◌, get_or, length, set, take, refl, sym, ◌∙◌, subst, arith}
use Rattle.std.proofs.lemmas.List.{take_all, length-set, length-map}
use Rattle.std.proofs.lemmas.List.Elements.{Contains-get_or}
use Rattle.pulse_ids.proofs.CallerLemmas.{IsIn-map}
use Rattle.source_machine.specs.Grounding.{cube_nets}
use Rattle.source_machine.specs.Machines.{machine_of, equation_of}
use Rattle.source_machine.specs.Evaluating.{IsEvaluated}
use Rattle.source_machine.proofs.CallerLemmasOnRanges.{equation_in_range}
use Rattle.source_machine.proofs.Evaluating.{evaluated_more}
use Rattle.source_machine.proofs.CallerLemmasOnDependencies.{code_equation_at}
use Rattle.source_machine.proofs.machines.RawMachine.evaluate.Goals as goal

pub index-equation-requires : goal.index-equation-requires
index-equation-requires c =
    omega (
      arith,
      ((c.requires.order.exact _).0 (Contains-get_or c.args.order.now c.loop-number.number-index 0 c.loop-number-test.true)).0,
      length-map (map equation_of c.args.self.now.equations.items) cube_nets,
      length-map c.args.self.now.equations.items equation_of,
    )

pub bounds-bits-number : goal.bounds-bits-number
bounds-bits-number c =
    let lt : get_or c.args.order.now c.loop-number.number-index 0 < length c.args.self.now.equations.items =
    omega (
      arith,
      ((c.requires.order.exact _).0 (Contains-get_or c.args.order.now c.loop-number.number-index 0 c.loop-number-test.true)).0,
      length-map (map equation_of c.args.self.now.equations.items) cube_nets,
      length-map c.args.self.now.equations.items equation_of,
    ) in
    let at = code_equation_at c.args.self.now.equations.items _ c.index-equation.result.now lt c.index-equation.ensures in
    omega (
      arith,
      c.number.ensures,
      c.loop-number.invariant.width,
      c.requires.room,
      equation_in_range (machine_of c.args.self.now) c.requires.fits
          (equation_of c.index-equation.result.now).net (IsIn-map (λ x. x.net) (equation_of c.index-equation.result.now) (machine_of c.args.self.now).equations at.0),
    )

pub loop-number-preserved : goal.loop-number-preserved
loop-number-preserved c =
    let lt : get_or c.args.order.now c.loop-number.number-index 0 < length c.args.self.now.equations.items =
    omega (
      arith,
      ((c.requires.order.exact _).0 (Contains-get_or c.args.order.now c.loop-number.number-index 0 c.loop-number-test.true)).0,
      length-map (map equation_of c.args.self.now.equations.items) cube_nets,
      length-map c.args.self.now.equations.items equation_of,
    ) in
    let at = code_equation_at c.args.self.now.equations.items _ c.index-equation.result.now lt c.index-equation.ensures in
    let fits : (equation_of c.index-equation.result.now).net < length c.loop-number.bits =
    omega (
      arith,
      c.loop-number.invariant.width,
      c.requires.room,
      equation_in_range (machine_of c.args.self.now) c.requires.fits
          (equation_of c.index-equation.result.now).net (IsIn-map (λ x. x.net) (equation_of c.index-equation.result.now) (machine_of c.args.self.now).equations at.0),
    ) in
    record {
      width = length-set c.loop-number.bits c.number.result c.bit-bit.result ∙ c.loop-number.invariant.width;
      evaluated = λ state vector start. subst (λ n. IsEvaluated (machine_of c.args.self.now) state vector (take (c.loop-number.number-index + 1) c.args.order.now)
          (set c.loop-number.bits n c.bit-bit.result)) (sym c.number.ensures)
          (evaluated_more (machine_of c.args.self.now) state vector c.args.order.now c.loop-number.number-index (get_or c.args.order.now c.loop-number.number-index 0)
          (equation_of c.index-equation.result.now) c.bit-bit.result c.loop-number.bits c.requires.order c.loop-number-test.true refl at c.bit-bit.ensures fits
          (c.loop-number.invariant.evaluated state vector start));
    }

pub returns-clause-evaluated : goal.returns-clause-evaluated
returns-clause-evaluated c state vector start =
    subst (λ l. IsEvaluated (machine_of c.args.self.now) state vector l c.loop-number.bits) (take_all c.loop-number.number-index c.args.order.now (omega arith))
    (c.loop-number.invariant.evaluated state vector start)
