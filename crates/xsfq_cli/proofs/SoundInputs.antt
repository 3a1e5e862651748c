-- What the check of an input is, once its text was read.
use Rattle.std.proofs.Common.{◌≡◌, ℕ, List, [], ◌∷◌, Ok, Err, sym, ap, subst, ◌∙◌, append-nil, length}
use Rattle.std.specs.declared.result.Result.{Result}
use Rattle.cell_netlist.specs.Netlists.{PlainNetlist, IsNetlist}
use Rattle.cell_netlist.specs.Sound.{IsSound}
use Rattle.cell_netlist.specs.Text.{text_of}
use Rattle.netlist_reader.specs.declared.refusals.NetRefusal.{NetRefusal}
use Rattle.netlist_reader.specs.Laws.{OnlyTextsAreRead}
use Rattle.netlist_reader.specs.Verdicts.{lines_in, net_verdict}
use Rattle.pulse_world.specs.RailPulses.{RailLaw}
use Rattle.run_outcomes.specs.declared.outcomes.Outcome.{Outcome}
use Rattle.xsfq_cli.specs.Answering.{IsOrNoMemory}
use Rattle.xsfq_cli.specs.Checked.{HasCheck, IsCheckBy, IsChecked, IsSoundOr}
use Rattle.xsfq_cli.specs.Halves.{Reads}
use Rattle.xsfq_cli.specs.NetTexts.{alone_by, in_outcomes, net_said, net_shown, SaysNet}
use Rattle.xsfq_cli.specs.Table.{Input, Stops}
use Rattle.xsfq_cli.proofs.Taking.{finished, stops_as}

-- a text that was read as a netlist is checked by the rules
pub checked_by_rules : (input : Input) (net : PlainNetlist) (result : Result PlainNetlist Outcome) → Reads net_shown SaysNet input (Ok net) → IsOrNoMemory (IsSoundOr net) result
    → Reads net_shown HasCheck input result
checked_by_rules input net result (bytes, whole, said) judged =
    finished net_shown HasCheck input bytes result whole
    (subst (λ (read : Result PlainNetlist Outcome). IsOrNoMemory (IsCheckBy read) result) (sym said) judged)

-- what refuses the text refuses the input
pub refused_text : (said : Result PlainNetlist Outcome) (outcome : Outcome) → said ≡ Err outcome → IsCheckBy said (Err outcome)
refused_text (Ok net) outcome e = cc
refused_text (Err refusal) outcome e = sym e

pub checked_by_text : (input : Input) (outcome : Outcome) → Stops net_shown (λ bytes refusal. SaysNet bytes (Err refusal)) input outcome
    → Stops net_shown (λ bytes refusal. HasCheck bytes (Err refusal)) input outcome
checked_by_text input outcome stops = stops_as net_shown _ _ input outcome (λ bytes e. refused_text (net_said bytes) outcome e) stops

-- an input whose check is a netlist says it, and it is sound
check_found : (said : Result PlainNetlist Outcome) (net : PlainNetlist) → IsCheckBy said (Ok net) → (said ≡ Ok net) × IsSound net
check_found (Ok other) net (e, sound) = (ap (λ n. Ok n) (sym e), subst IsSound (sym e) sound)
check_found (Err refusal) net e = cc

-- such an input is the netlist's text
found_alone : (lines : ℕ) (verdict : Result (PlainNetlist × List ℕ) NetRefusal) (net : PlainNetlist) → in_outcomes (alone_by lines verdict) ≡ Ok net → verdict ≡ Ok (net, [])
found_alone lines (Ok (other, [])) net e = let same : other ≡ net = cc in ap (λ (n : PlainNetlist). Ok (n, [])) same
found_alone lines (Ok (other, byte ∷ rest)) net e = cc
found_alone lines (Err refusal) net e = cc

pub is_checked : RailLaw → OnlyTextsAreRead → (bytes : List ℕ) (net : PlainNetlist) → HasCheck bytes (Ok net) → IsNetlist net → IsChecked bytes net
is_checked rails only bytes net check netlist =
    let found = check_found (net_said bytes) net check in
    record {
      said = found.0;
      text = only bytes net [] (found_alone (length (lines_in bytes)) (net_verdict bytes) net found.0) ∙ append-nil (text_of net);
      netlist = netlist;
      sound = found.1;
      pulses = rails net found.1;
    }
