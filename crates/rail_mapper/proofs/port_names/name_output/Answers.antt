use Rattle.std.proofs.Common.{◌≡◌, ◌∙◌, ◌++◌, ◌∷◌, [], ℕ, Some, List, ap, sym}
use Rattle.cell_netlist.specs.Netlists.{PlainNetlist}
use Rattle.rail_mapper.specs.Naming.{named}
use Rattle.rail_mapper.proofs.Results.{on_ok}
use Rattle.rail_mapper.proofs.port_names.name_output.Goals as goal

pub returns-in_ok-clone-in-Some-clause-named : goal.returns-in_ok-clone-in-Some-clause-named
returns-in_ok-clone-in-Some-clause-named c =
    let its = c.in_ok-clone-in-Some.field-0 in
    let same : its ≡ c.in-Some.name = c.in_ok-clone-in-Some.ensures.cases in
    on_ok c.name_output.result _ _
    (λ (e : c.name_output.new.self ≡ record c.args.net.now { output_names = c.args.net.now.output_names ++ (let pair : ℕ × List ℕ = (c.args.port, its) in pair) ∷ [] }).
    named its (c.in-Some.is ∙ ap Some (sym same)) (ap (λ (n : PlainNetlist). n.output_names) e))
    c.name_output.ensures.named
