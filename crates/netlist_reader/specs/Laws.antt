-- What holds of all texts.
use Rattle.std.specs.Prelude.{◌≡◌, ◌≤◌, ◌++◌, ℕ, List, Some, Ok, Err, length}
use Rattle.pulse_ids.specs.Quantities.{greatest_of}
use Rattle.pulse_ids.specs.declared.quantities.Quantity.TheVariants.{Inputs, Outputs}
use Rattle.cell_netlist.specs.Netlists.{PlainNetlist, IsNetlist}
use Rattle.cell_netlist.specs.Text.{text_of}
use Rattle.netlist_reader.specs.declared.refusals.NetRefusal.{NetRefusal}
use Rattle.netlist_reader.specs.Verdicts.{limit, early, net_verdict}

-- what the first bytes of a text show stays shown, and is its verdict
pub record EarlyStands : Type 0 where
  pub shown : (text more : List ℕ) (refusal : NetRefusal) → early text ≡ Some refusal → early (text ++ more) ≡ Some refusal
  pub judged : (text more : List ℕ) (refusal : NetRefusal) → early text ≡ Some refusal → net_verdict (text ++ more) ≡ Err refusal

-- a netlist whose ports and whose text are within the limits
pub record IsWithinLimits (net : PlainNetlist) : Type 0 where
  pub inputs : net.inputs ≤ greatest_of Inputs
  pub outputs : net.outputs ≤ greatest_of Outputs
  pub bytes : length (text_of net) ≤ limit

-- the verdict of a netlist's text is the netlist, whatever follows it, and what follows
abbrev pub TextsAreRead : Type 0
TextsAreRead = (net : PlainNetlist) → IsNetlist net → IsWithinLimits net → (rest : List ℕ) → net_verdict (text_of net ++ rest) ≡ Ok (net, rest)

-- a text whose verdict is a netlist is that netlist's text and what follows it
abbrev pub OnlyTextsAreRead : Type 0
OnlyTextsAreRead = (text : List ℕ) (net : PlainNetlist) (rest : List ℕ) → net_verdict text ≡ Ok (net, rest) → text ≡ text_of net ++ rest
