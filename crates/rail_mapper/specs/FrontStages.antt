-- What one front does to a draft, and when it can be added.
use Rattle.std.specs.Prelude.{◌≡◌, ◌≤◌, ◌<◌, ◌+◌, ◌^◌, ℕ, Bool, List, ◌∷◌, length}
use Rattle.cell_netlist.specs.Netlists.{number_of_wires}
use Rattle.droc_pairs.specs.Pairs.{StandsBack}
use Rattle.rail_mapper.specs.Drafts.{PlainDraft, leaves_of, AreInside}
use Rattle.rail_mapper.specs.Stages.{Finishes}

-- the first of the pairs that wait for their fronts is this latch's
pub record WaitsFirst (latch : ℕ) (pending : List (ℕ × ℕ)) : Type 0 where
  pub place : ℕ
  pub rest : List (ℕ × ℕ)
  pub first : pending ≡ (let half : ℕ × ℕ = (place, latch) in half) ∷ rest

-- the first pair that waits has its back at its place, with this first bit, and its front can take a leaf of the rail
pub record CanFinish (rail : ℕ) (init : Bool) (draft : PlainDraft) : Type 0 where
  pub latch : ℕ
  pub waits : WaitsFirst latch draft.pending
  pub back : StandsBack draft.net waits.place init
  pub leaf : 1 ≤ length (leaves_of draft rail)
  pub inside : AreInside draft
  pub wires : number_of_wires draft.net + 4 ≤ 2 ^ 22
  pub cells : length draft.net.cells < 2 ^ 26

-- the front of the first pair that waits is added
pub record FinishesFirst (rail : ℕ) (init : Bool) (before after : PlainDraft) : Type 0 where
  pub latch : ℕ
  pub waits : WaitsFirst latch before.pending
  pub finishes : Finishes rail waits.place latch init waits.rest before after
  pub wires : number_of_wires after.net ≡ number_of_wires before.net + 1
