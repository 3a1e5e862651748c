-- Inputs that are added one by one.
use Rattle.std.proofs.Common.{◌≡◌, ℕ, suc, ◌+◌, ◌-◌, ◌<◌, ◌≤◌, ap, None, sym, ◌∙◌, arith}
use Rattle.source_machine.specs.Machines.{PlainMachine}
use Rattle.source_machine.specs.Additions.{with_input}
use Rattle.aiger_reader.specs.Building.{with_inputs}

pub input_more : (machine next : PlainMachine) (input inputs : ℕ) → input < inputs → next ≡ with_input machine (input + 1) None
    → with_inputs next ((input + 1) + 1) (inputs - (input + 1)) ≡ with_inputs machine (input + 1) (inputs - input)
input_more machine next input inputs lt e =
    let left : inputs - input ≡ suc (inputs - (input + 1)) = omega arith in
    ap (λ (m : PlainMachine). with_inputs m ((input + 1) + 1) (inputs - (input + 1))) e ∙ sym (ap (with_inputs machine (input + 1)) left)

pub inputs_done : (machine : PlainMachine) (input inputs : ℕ) → inputs ≤ input → with_inputs machine (input + 1) (inputs - input) ≡ machine
inputs_done machine input inputs le = let none : inputs - input ≡ 0 = omega arith in ap (with_inputs machine (input + 1)) none
