-- The verdicts of netlist texts: a refusal is one of the bytes, and not want of memory.
use Rattle.std.proofs.Common.{◌≡◌, ℕ, Bool, true, false, cond, List, [], ◌∷◌, length, Some, None, Ok, Err, subst}
use Rattle.std.specs.declared.option.Option.{Option}
use Rattle.std.specs.declared.result.Result.{Result}
use Rattle.cell_netlist.specs.Netlists.{PlainNetlist}
use Rattle.netlist_reader.specs.declared.refusals.NetRefusal.{NetRefusal}
use Rattle.netlist_reader.specs.declared.refusals.NetRefusal.TheVariants as refusals
use Rattle.netlist_reader.specs.Places.{has_end, netlist_in}
use Rattle.netlist_reader.specs.Verdicts.{after_end, early, judged, lines_in}
use Rattle.netlist_reader.proofs.CallerLemmasOnRefusals.{early_of_bytes, IsOfBytes}
use Rattle.run_outcomes.specs.declared.outcomes.Outcome.{Outcome}
use Rattle.xsfq_cli.specs.NetTexts.{alone_by, in_outcomes, net_said, net_unless, rest_refusal}
use Rattle.run_outcomes.specs.Outcomes.{IsRefusal, net_outcome}

-- where a judgement is a refusal, its outcome is one of the bytes
abbrev RefusesBytes : Result PlainNetlist Outcome → Type 0
RefusesBytes (Ok net) = Unit
RefusesBytes (Err outcome) = IsRefusal outcome

of_refusal : (refusal : NetRefusal) → IsOfBytes (Some refusal) → IsRefusal (net_outcome refusal)
of_refusal (refusals.BadLine line) is = tt
of_refusal refusals.Truncated is = tt
of_refusal (refusals.Limit quantity) is = tt
of_refusal refusals.NoMemory is = absurd is

rest_of_bytes : (lines : ℕ) (rest : List ℕ) (net : PlainNetlist) → RefusesBytes (in_outcomes (net_unless (rest_refusal lines rest) net))
rest_of_bytes lines [] net = tt
rest_of_bytes lines (byte ∷ rest) net = tt

ended_of_bytes : (lines : ℕ) (text : List ℕ) (ended : Bool)
    → RefusesBytes (in_outcomes (alone_by lines (cond ended (Ok (netlist_in (lines_in text), after_end text)) (Err refusals.Truncated))))
ended_of_bytes lines text true = rest_of_bytes lines (after_end text) (netlist_in (lines_in text))
ended_of_bytes lines text false = tt

judged_of_bytes : (lines : ℕ) (text : List ℕ) (shown : Option NetRefusal) → IsOfBytes shown → RefusesBytes (in_outcomes (alone_by lines (judged shown text)))
judged_of_bytes lines text None is = ended_of_bytes lines text (has_end (lines_in text))
judged_of_bytes lines text (Some refusal) is = of_refusal refusal is

pub said_of_bytes : (text : List ℕ) (outcome : Outcome) → net_said text ≡ Err outcome → IsRefusal outcome
said_of_bytes text outcome e =
    subst RefusesBytes e (judged_of_bytes (length (lines_in text)) text (early text) (early_of_bytes text))
