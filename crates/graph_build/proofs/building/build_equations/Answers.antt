use Rattle.std.proofs.Common.{◌≤◌, ◌<◌, ◌+◌, All, length, map, get_or, set, sym, ◌∙◌, ap, subst, arith}
use Rattle.source_machine.specs.declared.machines.Equation.{Equation}
use Rattle.source_machine.specs.Machines.{machine_of, equation_of, literal_of}
use Rattle.source_machine.specs.Fitting.{size_of_cubes}
use Rattle.source_machine.specs.Runs.{equation_value}
use Rattle.graph_build.specs.Literals.{net_value}
use Rattle.graph_build.specs.Equations.{IsLiteralOf}
use Rattle.graph_build.proofs.EquationSteps.{equation_fits, cubes_fit, equations_begin, number_inside, room, equation_goes_on}
use Rattle.graph_build.proofs.building.build_equations.Goals as goal

pub loop-number-init : goal.loop-number-init
loop-number-init c = equations_begin (machine_of c.args.raw.now) c.args.order.now c.args.graph.now c.args.literals.now c.requires.order c.requires.bare c.requires.has

pub index-equation-requires : goal.index-equation-requires
index-equation-requires c = omega (arith, number_inside c.args.raw.now c.args.order.now c.requires.order c.loop-number.number-index c.loop-number-test.true, c.args.raw.now.equations.ok.0)

pub equation_literal-requires-clause-fit : goal.equation_literal-requires-clause-fit
equation_literal-requires-clause-fit c =
    let low = number_inside c.args.raw.now c.args.order.now c.requires.order c.loop-number.number-index c.loop-number-test.true in
    subst (λ (e : Equation). All (λ cube. All (λ literal. literal.id.number < length c.loop-number.literals) cube) e.rows.items) (sym c.index-equation.ensures)
    (cubes_fit c.args.raw.now.nets (length c.loop-number.literals)
    (get_or c.args.raw.now.equations.items (get_or c.args.order.now c.loop-number.number-index 0) c.index-equation.result.now).rows.items c.loop-number.invariant.has.width
    (equation_fits c.args.raw.now c.requires.fits (get_or c.args.order.now c.loop-number.number-index 0) c.index-equation.result.now low).1)

pub equation_literal-requires-clause-room : goal.equation_literal-requires-clause-room
equation_literal-requires-clause-room c =
    subst (λ (e : Equation). length c.loop-number.graph.pairs + size_of_cubes (map (map literal_of) e.rows.items) ≤ 262144) (sym c.index-equation.ensures)
    (omega (
      arith,
      room c.args.raw.now c.requires.fits c.args.order.now c.requires.order c.loop-number.number-index c.loop-number-test.true c.index-equation.result.now
          c.loop-number.graph c.loop-number.literals c.loop-number.invariant,
      c.requires.fits.limits.small,
    ))

pub set-requires : goal.set-requires
set-requires c =
    let low = number_inside c.args.raw.now c.args.order.now c.requires.order c.loop-number.number-index c.loop-number-test.true in
    omega (
      arith,
      (equation_fits c.args.raw.now c.requires.fits (get_or c.args.order.now c.loop-number.number-index 0) c.index-equation.result.now low).0.1,
      ap (λ (e : Equation). e.net.number) c.index-equation.ensures,
      c.loop-number.invariant.has.width,
    )

pub loop-number-preserved : goal.loop-number-preserved
loop-number-preserved c =
    equation_goes_on c.args.raw.now c.requires.fits c.args.order.now c.requires.order c.loop-number.number-index c.loop-number-test.true c.index-equation.result.now
    c.loop-number.graph c.equation_literal.new.graph c.loop-number.literals c.set.new.self c.in_ok-literal.literal c.loop-number.invariant
    (subst (λ (e : Equation). IsLiteralOf (size_of_cubes (equation_of e).cubes) c.loop-number.graph c.equation_literal.new.graph
    (λ state vector. equation_value (net_value c.loop-number.graph c.loop-number.literals state vector) (equation_of e)) c.in_ok-literal.literal) c.index-equation.ensures
    c.in_ok-literal.ensures) (c.set.ensures ∙ ap (λ (e : Equation). set c.loop-number.literals e.net.number c.in_ok-literal.literal) c.index-equation.ensures)
