-- Which rails the gate of a rail reads.
use Rattle.std.proofs.Common.{◌≡◌, ℕ, Bool, true, false, Option, Some, List, [], ◌∷◌, slice_get, ap, ◌∙◌, refl, if◌then◌else◌}
use Rattle.pulse_ids.specs.Ids.{NodeLit}
use Rattle.pulse_ids.specs.declared.literals.Sign.{Sign}
use Rattle.aig_core.specs.declared.nodes.Node.{Node}
use Rattle.aig_core.specs.declared.nodes.Node.TheVariants.{And}
use Rattle.aig_core.specs.Graphs.{nodes_of}
use Rattle.graph_build.specs.Built.{PlainBuilt}
use Rattle.rail_demand.specs.Demands.{PlainDemand, is_needed}
use Rattle.rail_mapper.specs.Labels.{rail_number, literal_number, sign_in}
use Rattle.rail_mapper.specs.Plans.{fan_in, rail_uses}
use Rattle.rail_mapper.proofs.StageSteps.{node_of, sign_of}

-- a conjunction's rail, where it is needed, reads two rails
pub needed_and : (built : PlainBuilt) (demand : PlainDemand) (node : ℕ) (sign : Sign) (low high : NodeLit) → is_needed demand node sign ≡ true
    → slice_get (nodes_of built.graph) node ≡ Some (And low high)
    → rail_uses built demand (rail_number node sign) ≡ literal_number low sign ∷ literal_number high sign ∷ []
needed_and built demand node sign low high need stands =
    ap (λ (k : ℕ). if is_needed demand k (sign_in (rail_number node sign)) then fan_in (slice_get (nodes_of built.graph) k) (sign_in (rail_number node sign)) else []) (node_of node sign)
    ∙ ap (λ (s : Sign). if is_needed demand node s then fan_in (slice_get (nodes_of built.graph) node) s else []) (sign_of node sign)
    ∙ ap (λ (b : Bool). if b then fan_in (slice_get (nodes_of built.graph) node) sign else []) need ∙ ap (λ (o : Option Node). fan_in o sign) stands

-- one that isn't needed reads none
pub unneeded_rail : (built : PlainBuilt) (demand : PlainDemand) (node : ℕ) (sign : Sign) → is_needed demand node sign ≡ false → rail_uses built demand (rail_number node sign) ≡ []
unneeded_rail built demand node sign none =
    ap (λ (k : ℕ). if is_needed demand k (sign_in (rail_number node sign)) then fan_in (slice_get (nodes_of built.graph) k) (sign_in (rail_number node sign)) else []) (node_of node sign)
    ∙ ap (λ (s : Sign). if is_needed demand node s then fan_in (slice_get (nodes_of built.graph) node) s else []) (sign_of node sign)
    ∙ ap (λ (b : Bool). if b then fan_in (slice_get (nodes_of built.graph) node) sign else []) none

abbrev no_reads : List ℕ
no_reads = []

-- nor does the rail of another node
pub other_rail : (built : PlainBuilt) (demand : PlainDemand) (node : ℕ) (sign : Sign) (its : Node) → slice_get (nodes_of built.graph) node ≡ Some its → fan_in (Some its) sign ≡ []
    → rail_uses built demand (rail_number node sign) ≡ []
other_rail built demand node sign its stands none =
    ap (λ (k : ℕ). if is_needed demand k (sign_in (rail_number node sign)) then fan_in (slice_get (nodes_of built.graph) k) (sign_in (rail_number node sign)) else []) (node_of node sign)
    ∙ ap (λ (s : Sign). if is_needed demand node s then fan_in (slice_get (nodes_of built.graph) node) s else []) (sign_of node sign)
    ∙ ap (λ (o : Option Node). if is_needed demand node sign then fan_in o sign else []) stands
    ∙ ap (λ (l : List ℕ). if is_needed demand node sign then l else []) none ∙ by (is_needed demand node sign)
  where
    by : (b : Bool) → (if b then no_reads else no_reads) ≡ no_reads
    by true = refl
    by false = refl
