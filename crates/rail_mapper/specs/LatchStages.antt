-- How far a draft has come with its latches and output rails.
use Rattle.std.specs.Prelude.{◌≡◌, ◌≤◌, ◌+◌, ◌*◌, ◌^◌, ◌||◌, ℕ, List, [], ◌∷◌, ◌++◌, map, length, slice_get, if◌then◌else◌}
use Rattle.std.specs.List.{flat_map, range_with_len}
use Rattle.pulse_ids.specs.Lists.{IsIn}
use Rattle.pulse_ids.specs.declared.literals.Sign.TheVariants.{Pos, Neg}
use Rattle.cell_netlist.specs.declared.kinds.Ask.{Ask}
use Rattle.cell_netlist.specs.Netlists.{number_of_wires}
use Rattle.graph_build.specs.Built.{PlainBuilt}
use Rattle.rail_demand.specs.Demands.{PlainDemand, is_needed}
use Rattle.rail_mapper.specs.Drafts.{PlainDraft, readers_of}
use Rattle.rail_mapper.specs.Plans.{front_use, output_uses}
use Rattle.rail_mapper.specs.Stages.{IsStage, IsClosing}
use Rattle.rail_mapper.specs.StateLines.{lines_of, backs_from}

-- the latches of which a rail is needed, of those below a number
abbrev pub latches_needed : PlainBuilt → PlainDemand → ℕ → List ℕ
latches_needed built demand count = flat_map (λ latch.
    if is_needed demand (1 + built.graph.inputs + latch) Pos || is_needed demand (1 + built.graph.inputs + latch) Neg then latch ∷ [] else [])
    (range_with_len 0 count)

-- no two pending pairs have one place
abbrev pub AreApart : List (ℕ × ℕ) → Type 0
AreApart [] = Unit
AreApart (pair ∷ pairs) = ((other : ℕ) → IsIn {X = ℕ × ℕ} (pair.0, other) pairs → ⊥) × AreApart pairs

-- the latches of pending pairs
abbrev pub latches_of : List (ℕ × ℕ) → List ℕ
latches_of pending = map (λ pair. pair.1) pending

-- the backs of the latches below a number stand with their trees, and wait for their fronts; there is no other back, and in version two each
-- has its state line
pub record BacksAt (built : PlainBuilt) (demand : PlainDemand) (ask : Ask) (latch : ℕ) (draft : PlainDraft) : Type 0 where
  pub stage : IsStage built demand ask (2 * (1 + built.graph.inputs + latch)) draft
  pub waiting : latches_of draft.pending ≡ latches_needed built demand latch
  pub apart : AreApart draft.pending
  pub lines : draft.net.states ≡ lines_of draft.net.version draft.pending
  pub places : backs_from 0 draft.net.cells ≡ map (λ pair. pair.0) draft.pending

-- the rails that the fronts of pending pairs read
abbrev pub fronts_of : PlainBuilt → List (ℕ × ℕ) → List ℕ
fronts_of built pending = flat_map (λ latch. front_use (slice_get built.nexts latch)) (latches_of pending)

-- all gates stand, and the fronts of the pending pairs and the output rails are to come
pub record FrontsAt (built : PlainBuilt) (ask : Ask) (draft : PlainDraft) : Type 0 where
  pub closing : IsClosing built (fronts_of built draft.pending ++ output_uses built ask) draft
  pub all_spread : (rail : ℕ) → readers_of draft rail ≡ 0
  pub apart : AreApart draft.pending
  pub latches : (place latch : ℕ) → IsIn {X = ℕ × ℕ} (place, latch) draft.pending → latch + 1 ≤ length built.nexts
  pub wires : number_of_wires draft.net + length draft.pending + 8 ≤ 2 ^ 22
  pub cells : length draft.net.cells ≤ number_of_wires draft.net
