-- What is so of state lines whose latches rise.
use Rattle.std.proofs.Common.{◌≡◌, ◌<◌, ◌≤◌, ◌+◌, ◌^◌, ℕ, List, [], ◌∷◌, ◌++◌, length, slice_get, Some, sym, subst, inl, inr, arith, refl}
use Rattle.pulse_ids.specs.Lists.{IsIn}
use Rattle.pulse_ids.specs.Quantities.{greatest_of}
use Rattle.pulse_ids.specs.declared.quantities.Quantity.TheVariants.{Latches}
use Rattle.cell_netlist.specs.declared.kinds.Version.{Version}
use Rattle.cell_netlist.specs.declared.kinds.Version.TheVariants.{One, Two}
use Rattle.cell_netlist.specs.declared.lines.StateLine.{StateLine}
use Rattle.cell_netlist.specs.States.{AreStatesFrom, AreStatesOf, IsAboveStates}
use Rattle.cell_netlist.specs.Netlists.{PlainNetlist, IsKept}
use Rattle.cell_netlist.specs.Sound.{AreStatesRight}

-- a higher latch too
pub AreStatesFrom-behind : (low : ℕ) (lines : List StateLine) (line : StateLine) → AreStatesFrom low lines → low ≤ line.latch → IsAboveStates line.latch lines
    → line.latch < greatest_of Latches → line.cell.number < 2 ^ 32 → AreStatesFrom low (lines ++ line ∷ [])
AreStatesFrom-behind low [] line h least above limit cell = (least, limit, cell, tt)
AreStatesFrom-behind low (first ∷ lines) line h least above limit cell =
    (h.0, h.1, h.2, AreStatesFrom-behind (first.latch + 1) lines line h.3 (omega (arith, above first (inl refl))) (λ l i. above l (inr i)) limit cell)

-- so they are few
few-from : (low : ℕ) (lines : List StateLine) → AreStatesFrom low lines → low ≤ greatest_of Latches → low + length lines ≤ greatest_of Latches
few-from low [] h le = omega arith
few-from low (line ∷ lines) h le = let few = few-from (line.latch + 1) lines h.3 (omega (arith, h.1)) in omega (arith, h.0)

pub states_few : (version : Version) (lines : List StateLine) → AreStatesOf version lines → length lines ≤ greatest_of Latches
states_few One lines h = subst (λ (ls : List StateLine). length ls ≤ greatest_of Latches) (sym h) (omega arith)
states_few Two lines h = let few = few-from 0 lines h (omega arith) in omega arith

-- the numbers of a state line
pub record StateFits (line : StateLine) : Type 0 where
  pub latch : line.latch < 2 ^ 32
  pub cell : line.cell.number < 2 ^ 32

fits-from : (low : ℕ) (lines : List StateLine) → AreStatesFrom low lines → (line : StateLine) → IsIn line lines → StateFits line
fits-from low [] h line among = absurd among
fits-from low (first ∷ lines) h line (inl same) = subst StateFits same (record { latch = omega (arith, h.1); cell = h.2 })
fits-from low (first ∷ lines) h line (inr among) = fits-from (first.latch + 1) lines h.3 line among

pub states_fit : (version : Version) (lines : List StateLine) → AreStatesOf version lines → (line : StateLine) → IsIn line lines → StateFits line
states_fit One lines h line among = absurd (subst (λ (ls : List StateLine). IsIn line ls) h among)
states_fit Two lines h line among = fits-from 0 lines h line among

-- a state line more
pub kept_with_state : (net : PlainNetlist) (wires : ℕ) (line : StateLine) → IsKept net wires → net.version ≡ Two → line.latch < greatest_of Latches
    → IsAboveStates line.latch net.states → line.cell.number < 2 ^ 32 → IsKept (record net { states = net.states ++ line ∷ [] }) wires
kept_with_state net wires line kept two limit above cell = record {
  netlist = record {
    inputs = kept.netlist.inputs;
    outputs = kept.netlist.outputs;
    input_ports = kept.netlist.input_ports;
    output_ports = kept.netlist.output_ports;
    wires = kept.netlist.wires;
    input_names = kept.netlist.input_names;
    output_names = kept.netlist.output_names;
    states = subst (λ version. AreStatesOf version (net.states ++ line ∷ [])) (sym two)
        (AreStatesFrom-behind 0 net.states line (subst (λ version. AreStatesOf version net.states) two kept.netlist.states) (omega arith) above limit cell);
  };
  few = record { input_rails = kept.few.input_rails; cells = kept.few.cells; output_rails = kept.few.output_rails };
  wires_are = kept.wires_are;
}

-- where there is no state line, each is right
pub no_states_right : (net : PlainNetlist) → net.states ≡ [] → AreStatesRight net
no_states_right net none = record {
  backs = λ line among. absurd (subst (λ (ls : List StateLine). IsIn line ls) none among);
  apart = λ k line at_line before. absurd (let gone : slice_get [] k ≡ Some line = subst (λ (ls : List StateLine). slice_get ls k ≡ Some line) none at_line in cc);
}
