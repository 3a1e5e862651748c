-- Turns of the loops over latches.
use Rattle.std.proofs.Common.{◌≡◌, ◌<◌, ◌+◌, ℕ, Bool, Some, slice_get, subst, refl, arith}
use Rattle.pulse_ids.specs.declared.literals.Sign.TheVariants.{Pos, Neg}
use Rattle.cell_netlist.specs.declared.kinds.Ask.{Ask}
use Rattle.aig_core.specs.Laws.{LatchesFollow}
use Rattle.graph_build.specs.Built.{PlainBuilt}
use Rattle.rail_demand.specs.Demands.{PlainDemand}
use Rattle.rail_mapper.specs.Drafts.{PlainDraft}
use Rattle.rail_mapper.specs.Labels.{rail_number}
use Rattle.rail_mapper.specs.LatchStages.{BacksAt}
use Rattle.rail_mapper.specs.Stages.{IsPlan, BeginsLatch}
use Rattle.rail_mapper.proofs.LatchStageLemmas.{backs_one}

-- the rails of a latch's node
pub begun_rails : (latch node pos neg : ℕ) (init : Bool) (before after : PlainDraft) → pos ≡ rail_number node Pos → neg ≡ rail_number node Neg → BeginsLatch latch init pos neg before after
    → BeginsLatch latch init (rail_number node Pos) (rail_number node Neg) before after
begun_rails latch node pos neg init before after p n b =
    subst (λ (r : ℕ). BeginsLatch latch init r (rail_number node Neg) before after) p (subst (λ (r : ℕ). BeginsLatch latch init pos r before after) n b)

pub back_stands : (built : PlainBuilt) (demand : PlainDemand) (ask : Ask) (plan : IsPlan built demand ask) (law : LatchesFollow) (latch node : ℕ) (init : Bool) (before after : PlainDraft)
    → latch < built.graph.latches
    → node ≡ 1 + built.graph.inputs + latch → slice_get built.inits latch ≡ Some init → BacksAt built demand ask latch before
    → BeginsLatch latch init (rail_number node Pos) (rail_number node Neg) before after
    → BacksAt built demand ask (latch + 1) after
back_stands built demand ask plan law latch node init before after low is first h b =
    backs_one built demand ask plan latch ((law built.graph (1 + built.graph.inputs + latch) latch).1 (low, refl)) (omega arith) init before after first h
    (subst (λ (k : ℕ). BeginsLatch latch init (rail_number k Pos) (rail_number k Neg) before after) is b)
