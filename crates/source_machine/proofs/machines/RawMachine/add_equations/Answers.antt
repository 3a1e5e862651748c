use Rattle.std.proofs.Common.{◌≡◌, ◌<◌, ◌∷◌, List, [], length, get_or, refl, ◌∙◌, ap, arith}
use Rattle.source_machine.specs.declared.machines.Equation.{Equation}
use Rattle.source_machine.specs.Machines.{equation_of}
use Rattle.source_machine.specs.Grounding.{cube_nets}
use Rattle.source_machine.proofs.OrderedEquations.{added_needs_fit, added_yields_fit, added_stays_small, added_is_first, all_added}
use Rattle.source_machine.proofs.machines.RawMachine.add_equations.Goals as goal

pub push-requires-clause-needs : goal.push-requires-clause-needs
push-requires-clause-needs c =
    let lt : c.loop-equation.equation-index < length c.args.self.now.equations.items =
    omega (arith, c.loop-equation-test.true, ap (λ (l : List Equation). length l) c.deref-equation-items.ensures.value) in
    let e : c.equation-item.result ≡ get_or c.args.self.now.equations.items c.loop-equation.equation-index c.equation-item.result =
    c.equation-item.is ∙ ap (λ (l : List Equation). get_or l c.loop-equation.equation-index c.equation-item.result) c.deref-equation-items.ensures.value in
    let needs : c.as_slice.result.now ≡ cube_nets (equation_of c.equation-item.result) = c.as_slice.ensures.value ∙ c.in_ok-push_cube_nets.ensures ∙ rw (c.clear.ensures.items) refl in
    added_needs_fit c.args.self.now c.requires.fits c.requires.once c.loop-equation.equation-index c.equation-item.result lt e c.loop-equation.dependencies
    c.loop-equation.invariant c.as_slice.result.now (c.number.result ∷ []) needs (ap (λ n. n ∷ []) c.number.ensures)

pub push-requires-clause-yields : goal.push-requires-clause-yields
push-requires-clause-yields c =
    let lt : c.loop-equation.equation-index < length c.args.self.now.equations.items =
    omega (arith, c.loop-equation-test.true, ap (λ (l : List Equation). length l) c.deref-equation-items.ensures.value) in
    let e : c.equation-item.result ≡ get_or c.args.self.now.equations.items c.loop-equation.equation-index c.equation-item.result =
    c.equation-item.is ∙ ap (λ (l : List Equation). get_or l c.loop-equation.equation-index c.equation-item.result) c.deref-equation-items.ensures.value in
    let needs : c.as_slice.result.now ≡ cube_nets (equation_of c.equation-item.result) = c.as_slice.ensures.value ∙ c.in_ok-push_cube_nets.ensures ∙ rw (c.clear.ensures.items) refl in
    added_yields_fit c.args.self.now c.requires.fits c.requires.once c.loop-equation.equation-index c.equation-item.result lt e c.loop-equation.dependencies
    c.loop-equation.invariant c.as_slice.result.now (c.number.result ∷ []) needs (ap (λ n. n ∷ []) c.number.ensures)

pub push-requires-clause-small : goal.push-requires-clause-small
push-requires-clause-small c =
    let lt : c.loop-equation.equation-index < length c.args.self.now.equations.items =
    omega (arith, c.loop-equation-test.true, ap (λ (l : List Equation). length l) c.deref-equation-items.ensures.value) in
    let e : c.equation-item.result ≡ get_or c.args.self.now.equations.items c.loop-equation.equation-index c.equation-item.result =
    c.equation-item.is ∙ ap (λ (l : List Equation). get_or l c.loop-equation.equation-index c.equation-item.result) c.deref-equation-items.ensures.value in
    let needs : c.as_slice.result.now ≡ cube_nets (equation_of c.equation-item.result) = c.as_slice.ensures.value ∙ c.in_ok-push_cube_nets.ensures ∙ rw (c.clear.ensures.items) refl in
    added_stays_small c.args.self.now c.requires.fits c.requires.once c.loop-equation.equation-index c.equation-item.result lt e c.loop-equation.dependencies
    c.loop-equation.invariant c.as_slice.result.now (c.number.result ∷ []) needs (ap (λ n. n ∷ []) c.number.ensures)

pub loop-equation-preserved : goal.loop-equation-preserved
loop-equation-preserved c =
    let lt : c.loop-equation.equation-index < length c.args.self.now.equations.items =
    omega (arith, c.loop-equation-test.true, ap (λ (l : List Equation). length l) c.deref-equation-items.ensures.value) in
    let e : c.equation-item.result ≡ get_or c.args.self.now.equations.items c.loop-equation.equation-index c.equation-item.result =
    c.equation-item.is ∙ ap (λ (l : List Equation). get_or l c.loop-equation.equation-index c.equation-item.result) c.deref-equation-items.ensures.value in
    let needs : c.as_slice.result.now ≡ cube_nets (equation_of c.equation-item.result) = c.as_slice.ensures.value ∙ c.in_ok-push_cube_nets.ensures ∙ rw (c.clear.ensures.items) refl in
    c.in_ok-push.ensures.ok ∙ added_is_first c.args.self.now c.requires.fits c.requires.once c.loop-equation.equation-index c.equation-item.result lt e
    c.loop-equation.dependencies c.loop-equation.invariant c.as_slice.result.now (c.number.result ∷ []) needs (ap (λ n. n ∷ []) c.number.ensures)

pub returns : goal.returns
returns c =
    c.loop-equation.invariant ∙ all_added c.args.self.now c.requires.fits c.requires.once c.loop-equation.equation-index
    (omega (arith, c.loop-equation-test.false, ap (λ (l : List Equation). length l) c.deref-equation-items.ensures.value))
