-- Texts that hold one netlist and nothing after it: what their first bytes show, and what all of them say.
use Rattle.std.specs.Prelude.{◌≡◌, ℕ, ◌+◌, List, [], ◌∷◌, Option, Some, None, Result, Ok, Err, option_map, length}
use Rattle.std.specs.Option.{option_or}
use Rattle.cell_netlist.specs.Netlists.{PlainNetlist}
use Rattle.netlist_reader.specs.declared.refusals.NetRefusal.{NetRefusal}
use Rattle.netlist_reader.specs.declared.refusals.NetRefusal.TheVariants.{BadLine}
use Rattle.netlist_reader.specs.Verdicts.{after_end, early, lines_in, net_verdict}
use Rattle.run_outcomes.specs.declared.outcomes.Outcome.{Outcome}
use Rattle.run_outcomes.specs.Outcomes.{net_outcome}

-- a byte after so many lines, of which the last is `end`, is refused as the next line
abbrev pub rest_refusal : ℕ → List ℕ → Option NetRefusal
rest_refusal lines [] = None
rest_refusal lines (byte ∷ rest) = Some (BadLine (lines + 1))

-- the refusal that the first bytes show, whatever follows them
abbrev pub alone_early : List ℕ → Option NetRefusal
alone_early text = option_or (early text) (rest_refusal (length (lines_in text)) (after_end text))

-- a netlist, unless its text is refused
abbrev pub net_unless : Option NetRefusal → PlainNetlist → Result PlainNetlist NetRefusal
net_unless None net = Ok net
net_unless (Some refusal) net = Err refusal

abbrev pub alone_by : ℕ → Result (PlainNetlist × List ℕ) NetRefusal → Result PlainNetlist NetRefusal
alone_by lines (Ok (net, rest)) = net_unless (rest_refusal lines rest) net
alone_by lines (Err refusal) = Err refusal

-- the netlist of a text with nothing after it, or the refusal
abbrev pub alone_verdict : List ℕ → Result PlainNetlist NetRefusal
alone_verdict text = alone_by (length (lines_in text)) (net_verdict text)

-- the same, in outcomes
abbrev pub net_shown : List ℕ → Option Outcome
net_shown text = option_map net_outcome (alone_early text)

abbrev pub in_outcomes : Result PlainNetlist NetRefusal → Result PlainNetlist Outcome
in_outcomes (Ok net) = Ok net
in_outcomes (Err refusal) = Err (net_outcome refusal)

abbrev pub net_said : List ℕ → Result PlainNetlist Outcome
net_said text = in_outcomes (alone_verdict text)

abbrev pub SaysNet : List ℕ → Result PlainNetlist Outcome → Type 0
SaysNet text said = net_said text ≡ said
