-- The headline of `compile`, from the table.
use Rattle.std.proofs.Common.{◌≡◌, ◌⊎◌, inl, inr, ◌++◌, List, ℕ, Ok, Err, refl, subst}
use Rattle.cell_netlist.specs.declared.kinds.Ask.{Ask}
use Rattle.cell_netlist.specs.declared.kinds.Version.{Version}
use Rattle.cell_netlist.specs.Netlists.{PlainNetlist}
use Rattle.cell_netlist.specs.Text.{text_of}
use Rattle.xsfq_cli.specs.declared.orders.Order.{Order}
use Rattle.xsfq_cli.specs.declared.orders.Order.TheVariants.{Compile}
use Rattle.run_outcomes.specs.declared.outcomes.Outcome.{Outcome}
use Rattle.run_outcomes.specs.declared.outcomes.Outcome.TheVariants as outcomes
use Rattle.xsfq_cli.specs.Headline.{IsCompiled}
use Rattle.xsfq_cli.specs.Judgements.{reads, shown, Refuses, Writes}
use Rattle.xsfq_cli.specs.Table.{AnswersOrder, Ends, Input, Output, ReadsAll, Wrote}
use Rattle.xsfq_cli.proofs.Stopping.{answers_like, AnswersLike}
use Rattle.xsfq_cli.specs.Laws.{AcceptedLaw, DoneLaw, MachineLaw, OneVerdict, RefusalsAreOfBytes}

-- after `Done` the input was read, and a text for it was written
pub record IsDone (order : Order) (input : Input) (output : Output) : Type 0 where
  pub bytes : List ℕ
  pub reads_all : ReadsAll (reads order) (shown order) input bytes
  pub text : List ℕ
  pub ending : Outcome
  pub writes : Writes order bytes text ending
  pub wrote : Wrote output text

pub done_writes : RefusalsAreOfBytes → (order : Order) (input : Input) (output : Output) → AnswersOrder order input output outcomes.Done → IsDone order input output
done_writes of order input output answers = go (answers_like order input output outcomes.Done answers)
  where
    go : AnswersLike order input output outcomes.Done → IsDone order input output
    go (inl (inl refused, unwritten)) = absurd (of order (refused.taken ++ refused.rest) outcomes.Done refused.refuses_all)
    go (inl (inr (inl (e, failed)), unwritten)) = cc
    go (inl (inr (inr (e, starved)), unwritten)) = cc
    go (inr performed) = by_end performed.ends
      where
        by_end : Ends output performed.text performed.ending outcomes.Done → IsDone order input output
        by_end (inl (e, wrote)) = record {
          bytes = performed.bytes;
          reads_all = performed.reads_all;
          text = performed.text;
          ending = performed.ending;
          writes = performed.writes;
          wrote = wrote;
        }
        by_end (inr (e, failed)) = cc

-- a text of `compile` that was written
written : (ask : Ask) (version : Version) (output : Output) (bytes text : List ℕ) (ending : Outcome) → Writes (Compile ask version) bytes text ending → Wrote output text
    → (net : PlainNetlist) × IsCompiled ask version bytes net × Wrote output (text_of net)
written ask version output bytes text ending (net, compiled, e, d) wrote = (net, compiled, subst (λ (l : List ℕ). Wrote output l) e wrote)

pub done_law : RefusalsAreOfBytes → DoneLaw
done_law of ask version input output answers =
    let done = done_writes of (Compile ask version) input output answers in
    let made = written ask version output done.bytes done.text done.ending done.writes done.wrote in
    (done.bytes, done.reads_all, made.0, made.1, made.2)

pub machine_law : OneVerdict → AcceptedLaw → MachineLaw
machine_law one accepted ask version input output outcome bytes machine e calm quiet answers verdict =
    go (accepted (Compile ask version) input output outcome bytes refl e calm quiet answers unrefused)
  where
    unrefused : (refusal : Outcome) → Refuses (Compile ask version) bytes refusal → ⊥
    unrefused refusal is = let both = one bytes (Ok machine) (Err refusal) verdict is in cc

    go : (outcome ≡ outcomes.NoMemory) ⊎ ((text : List ℕ) × Writes (Compile ask version) bytes text outcome × Wrote output text)
        → (outcome ≡ outcomes.NoMemory) ⊎ ((outcome ≡ outcomes.Done) × (net : PlainNetlist) × IsCompiled ask version bytes net × Wrote output (text_of net))
    go (inl none) = inl none
    go (inr (text, writes, wrote)) =
        let made = written ask version output bytes text outcome writes wrote in inr (writes.3, made.0, made.1, made.2)
