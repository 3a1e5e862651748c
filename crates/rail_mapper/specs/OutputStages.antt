-- How far a draft has come with its output rails.
use Rattle.std.specs.Prelude.{◌≡◌, ◌≤◌, ◌<◌, ◌+◌, ◌^◌, ℕ, List, [], ◌∷◌, ◌++◌, map, drop, length}
use Rattle.std.specs.List.{flat_map}
use Rattle.pulse_ids.specs.Ids.{NodeLit}
use Rattle.pulse_ids.specs.declared.literals.Sign.{Sign}
use Rattle.cell_netlist.specs.declared.kinds.Ask.{Ask}
use Rattle.cell_netlist.specs.Asked.{rail_of, signs_of, asked_rails}
use Rattle.cell_netlist.specs.Netlists.{number_of_wires, most_lines}
use Rattle.graph_build.specs.Built.{PlainBuilt}
use Rattle.rail_mapper.specs.Drafts.{PlainDraft, readers_of, IsDraft}
use Rattle.rail_mapper.specs.Labels.{literal_number}
use Rattle.rail_mapper.specs.Stages.{IsClosing, Outputs}

-- the output rails of a port take the next leaves of the literal's rails, sign by sign
abbrev pub PutsOutputs : NodeLit → ℕ → List Sign → PlainDraft → PlainDraft → Type 0
PutsOutputs literal port [] before after = after ≡ before
PutsOutputs literal port (sign ∷ signs) before after =
    (middle : PlainDraft) × Outputs (literal_number literal sign) port sign before middle × PutsOutputs literal port signs middle after

-- the rails of the literal are the next that are to be read, and each has a leaf
pub record CanPut (literal : NodeLit) (signs : List Sign) (draft : PlainDraft) : Type 0 where
  pub left : List ℕ
  pub is_draft : IsDraft draft [] (map (λ _. 0) draft.pending) (map (literal_number literal) signs ++ left)
  pub spread : (rail : ℕ) → readers_of draft rail ≡ 0
  pub wires : number_of_wires draft.net ≤ 2 ^ 22
  pub few : length draft.net.output_rails + length signs ≤ most_lines
  pub node : literal.id.number < 2 ^ 30

-- the rails that the output rails from a port on read
abbrev pub outputs_from : PlainBuilt → Ask → ℕ → List ℕ
outputs_from built ask port = flat_map (λ literal. map (literal_number literal) (signs_of ask)) (drop port built.outputs)

-- all fronts stand, and the output rails of the ports below a number
pub record OutputsAt (built : PlainBuilt) (ask : Ask) (port : ℕ) (draft : PlainDraft) : Type 0 where
  pub closing : IsClosing built (outputs_from built ask port) draft
  pub no_pending : draft.pending ≡ []
  pub all_spread : (rail : ℕ) → readers_of draft rail ≡ 0
  pub rails : map rail_of draft.net.output_rails ≡ asked_rails ask port
  pub wires : number_of_wires draft.net ≤ 2 ^ 22
