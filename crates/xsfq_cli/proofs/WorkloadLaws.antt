-- What the table gives of `workload`, and what its netlist is.
use Rattle.std.proofs.Common.{◌≡◌, ◌⊎◌, inl, inr, ℕ, List, Option, Result, subst, ◌∙◌}
use Rattle.byte_ports.specs.Writing.{WritesText}
use Rattle.cell_netlist.specs.Netlists.{PlainNetlist}
use Rattle.cell_netlist.specs.Text.{text_of}
use Rattle.xsfq_cli.specs.declared.orders.Order.TheVariants.{Workload}
use Rattle.run_outcomes.specs.declared.outcomes.Outcome.{Outcome}
use Rattle.run_outcomes.specs.declared.outcomes.Outcome.TheVariants as outcomes
use Rattle.xsfq_cli.specs.declared.workloads.Work.{Work}
use Rattle.xsfq_cli.specs.Laws.{WorkloadLaw}
use Rattle.xsfq_cli.specs.Table.{AnswersOrder, Ends, Input, Output, Unread, Unwritten, WriteFailed, Wrote}
use Rattle.xsfq_cli.specs.Workloads.{IsDone, work_text}

-- the text of the same netlist
pub net_written : {E : Type 0} (old new : Option (List ℕ)) (before now : ℕ) (result : Result Unit E) (net same : PlainNetlist) → net ≡ same
    → WritesText old new before now result (text_of net) → WritesText old new before now result (text_of same)
net_written old new before now result net same e wrote = subst (λ (n : PlainNetlist). WritesText old new before now result (text_of n)) e wrote

abbrev Worked : ℕ → Input → Output → Outcome → Type 0
Worked bits input output outcome = Unread input × (((outcome ≡ outcomes.NoMemory) × Unwritten output)
    ⊎ ((work : Work) × (work.bits ≡ bits) × IsDone work
    × (((outcome ≡ outcomes.Done) × Wrote output (work_text work)) ⊎ ((outcome ≡ outcomes.WriteFault) × WriteFailed output (work_text work)))))

told : (output : Output) (outcome ending : Outcome) (text same : List ℕ) → text ≡ same → ending ≡ outcomes.Done → Ends output text ending outcome
    → ((outcome ≡ outcomes.Done) × Wrote output same) ⊎ ((outcome ≡ outcomes.WriteFault) × WriteFailed output same)
told output outcome ending text same e d (inl (is, wrote)) = inl (is ∙ d, subst (λ (l : List ℕ). Wrote output l) e wrote)
told output outcome ending text same e d (inr (is, failed)) = inr (is, subst (λ (l : List ℕ). WriteFailed output l) e failed)

pub workload_law : WorkloadLaw
workload_law bits input output outcome answers = go answers
  where
    go : AnswersOrder (Workload bits) input output outcome → Worked bits input output outcome
    go (inl ((e, unread), unwritten)) = (unread, inl (e, unwritten))
    go (inr performed) =
        let writes = performed.writes in (
          performed.reads_all.0,
          inr (writes.0, writes.1, writes.2, told output outcome performed.ending performed.text (work_text writes.0) writes.3 writes.4 performed.ends),
        )
