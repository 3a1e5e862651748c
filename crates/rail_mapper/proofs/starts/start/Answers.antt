use Rattle.std.proofs.Common.{◌≡◌, ◌*◌, ◌∙◌, ap, sym, subst, arith, length, ℕ}
use Rattle.aig_core.specs.Graphs.{count_of}
use Rattle.rail_mapper.specs.Counts.{with_reads}
use Rattle.rail_mapper.specs.Drafts.{PlainDraft, total}
use Rattle.rail_mapper.specs.InputStages.{InputsAt}
use Rattle.rail_mapper.specs.Labels.{rails_in}
use Rattle.rail_mapper.specs.Plans.{uses}
use Rattle.rail_mapper.specs.Starts.{first_draft}
use Rattle.rail_mapper.proofs.CountedReads.{total-none}
use Rattle.rail_mapper.proofs.Starting.{started}
use Rattle.rail_mapper.proofs.starts.start.Goals as goal

pub count_uses-requires-clause-few : goal.count_uses-requires-clause-few
count_uses-requires-clause-few c = ap (λ (d : PlainDraft). total d.counts) c.in_ok-draft.ensures ∙ total-none (2 * c.len-rails.result)

pub returns : goal.returns
returns c =
    let built = c.args.circuit.now.built.now in
    let rails : 2 * c.len-rails.result ≡ rails_in built = omega (arith, c.len-rails.ensures.count, ap count_of c.graph.ensures.graph) in
    let version = c.args.circuit.now.version in
    let same : c.in_ok-draft.draft ≡ first_draft version built.graph.inputs (length built.outputs) (rails_in built) =
    c.in_ok-draft.ensures ∙ ap (λ (k : ℕ). first_draft version k c.outputs.result (2 * c.len-rails.result)) c.requires.inputs
    ∙ ap (λ (k : ℕ). first_draft version built.graph.inputs k (2 * c.len-rails.result)) c.outputs.ensures.count
    ∙ ap (λ (k : ℕ). first_draft version built.graph.inputs (length built.outputs) k) rails in
    subst (InputsAt built c.args.circuit.now.demand.now c.args.circuit.now.ask version 0)
    (sym (c.count_uses.ensures ∙ ap (λ (d : PlainDraft). with_reads d (uses built c.args.circuit.now.demand.now c.args.circuit.now.ask)) same))
    (started built c.args.circuit.now.demand.now c.args.circuit.now.ask c.graph.ensures.within c.nodes_have_values.ensures.pairs version)
