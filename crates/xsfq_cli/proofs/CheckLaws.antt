-- What the table gives of `check`.
use Rattle.std.proofs.Common.{◌≡◌, ◌⊎◌, inl, inr, List, [], ℕ, Ok, Err, refl, sym, ap, subst, ◌∙◌, append-nil}
use Rattle.std.specs.declared.result.Result.{Result}
use Rattle.cell_netlist.specs.Netlists.{PlainNetlist}
use Rattle.cell_netlist.specs.Text.{text_of}
use Rattle.netlist_reader.specs.Laws.{TextsAreRead}
use Rattle.netlist_reader.specs.Verdicts.{net_verdict}
use Rattle.xsfq_cli.specs.declared.orders.Order.TheVariants.{Check}
use Rattle.run_outcomes.specs.declared.outcomes.Outcome.{Outcome}
use Rattle.run_outcomes.specs.declared.outcomes.Outcome.TheVariants as outcomes
use Rattle.xsfq_cli.specs.Checked.{IsCheckBy, IsChecked, sound_line}
use Rattle.xsfq_cli.specs.Judgements.{Writes}
use Rattle.xsfq_cli.specs.Laws.{AcceptedLaw, CheckedLaw, HoldsNet, RefusalsAreOfBytes, RefusedLaw, SoundLaw, UnsoundLaw}
use Rattle.xsfq_cli.specs.NetTexts.{net_said}
use Rattle.xsfq_cli.specs.Table.{Input, Wrote}
use Rattle.xsfq_cli.proofs.HeadlineLaws.{done_writes}
use Rattle.xsfq_cli.proofs.Judging.{unrefused}
use Rattle.xsfq_cli.proofs.NetReading.{said_net}
use Rattle.cell_netlist.specs.Refused.{SoundIsNotRefused}

-- a line of `check` that was written
pub checked_law : RefusalsAreOfBytes → CheckedLaw
checked_law of input output answers =
    let made = done_writes of Check input output answers in
    (made.bytes, made.reads_all, made.writes.0, made.writes.1, subst (λ (l : List ℕ). Wrote output l) made.writes.2 made.wrote)

-- a netlist's text says it
pub said_so : TextsAreRead → (input : Input) (net : PlainNetlist) → HoldsNet input net → net_said (text_of net) ≡ Ok net
said_so read input net holds =
    said_net (text_of net) net (ap net_verdict (sym (append-nil (text_of net))) ∙ read net holds.netlist holds.limits [])

pub sound_law : TextsAreRead → SoundIsNotRefused → AcceptedLaw → SoundLaw
sound_law read unbroken accepted input output outcome net holds quiet answers sound =
    go (accepted Check input output outcome (text_of net) refl holds.text holds.calm quiet answers
    (λ refusal is. unrefused unbroken net (net_said (text_of net)) refusal (said_so read input net holds) sound is))
  where
    same : (other : PlainNetlist) → IsChecked (text_of net) other → other ≡ net
    same other checked = let both : net_said (text_of net) ≡ Ok net = said_so read input net holds in let one = checked.said in cc

    go : (outcome ≡ outcomes.NoMemory) ⊎ ((text : List ℕ) × Writes Check (text_of net) text outcome × Wrote output text)
        → (outcome ≡ outcomes.NoMemory) ⊎ ((outcome ≡ outcomes.Done) × Wrote output (sound_line net))
    go (inl none) = inl none
    go (inr (text, (other, checked, e, d), wrote)) =
        inr (d, subst (λ (l : List ℕ). Wrote output l) (e ∙ ap sound_line (same other checked)) wrote)

pub unsound_law : TextsAreRead → RefusedLaw → UnsoundLaw
unsound_law read refused input output outcome net unsound holds answers first =
    refused Check input output outcome (outcomes.Unsound unsound) (text_of net) refl holds.text holds.calm answers
    (subst (λ (said : Result PlainNetlist Outcome). IsCheckBy said (Err (outcomes.Unsound unsound))) (sym (said_so read input net holds)) (unsound, first, refl))
