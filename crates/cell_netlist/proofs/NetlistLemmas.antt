-- What is so of every netlist stays so where a line is added.
use Rattle.std.proofs.Common.{◌≡◌, ◌<◌, ◌≤◌, ◌+◌, ◌^◌, ℕ, zero, suc, max, Some, List, [], ◌∷◌, ◌++◌, length, slice_get, slice_set, length-append, ap, subst, inl, inr, arith, refl}
use Rattle.pulse_ids.specs.Ids.{WireId}
use Rattle.cell_netlist.specs.declared.lines.Rail.{Rail}
use Rattle.cell_netlist.specs.declared.lines.Cell.{Cell}
use Rattle.pulse_ids.specs.Lists.{IsIn}
use Rattle.pulse_ids.specs.Quantities.{greatest_of}
use Rattle.pulse_ids.specs.declared.quantities.Quantity.TheVariants.{Wires}
use Rattle.pulse_ids.proofs.CallerLemmas.{IsIn-behind}
use Rattle.pulse_ids.specs.Names.{IsPortName}
use Rattle.cell_netlist.specs.Names.{IsAboveAll}
use Rattle.cell_netlist.proofs.NameLemmas.{AreNamesFrom-behind}
use Rattle.cell_netlist.specs.Netlists.{PlainNetlist, wire_of, IsKept, most_lines, cell_bound, with_feed, cells_with_feed, IsDrocUpTo}
use Rattle.cell_netlist.proofs.WireBounds.{number_of_wires-input, number_of_wires-output, number_of_wires-cell, number_of_wires-fed}

-- the ports of one rail more are numbers of 32 bits
ports-behind : (rails : List Rail) (rail : Rail) → ((r : Rail) → IsIn r rails → r.port < 2 ^ 32) → rail.port < 2 ^ 32
    → (r : Rail) → IsIn r (rails ++ rail ∷ []) → r.port < 2 ^ 32
ports-behind rails rail all one r h =
    elim (IsIn-behind r rail rails h) [ inl g ↦ all r g | inr e ↦ subst (λ (x : Rail). x.port < 2 ^ 32) e one ]

-- one line more
one-more : {X : Type 0} (xs : List X) (x : X) → length xs < most_lines → length (xs ++ x ∷ []) ≤ most_lines
one-more xs x room = let e = length-append xs (x ∷ []) in omega arith

pub IsKept-input : (net : PlainNetlist) (wires : ℕ) (rail : Rail) → IsKept net wires → length net.input_rails < most_lines → rail.port < 2 ^ 32 → wire_of rail < greatest_of Wires
    → IsKept (record net { input_rails = net.input_rails ++ rail ∷ [] }) (max wires (wire_of rail + 1))
IsKept-input net wires rail kept room port wire = record {
  netlist = record {
    inputs = kept.netlist.inputs;
    outputs = kept.netlist.outputs;
    input_ports = ports-behind net.input_rails rail kept.netlist.input_ports port;
    output_ports = kept.netlist.output_ports;
    wires = rw (number_of_wires-input net rail) (omega arith);
    input_names = kept.netlist.input_names;
    output_names = kept.netlist.output_names;
    states = kept.netlist.states;
  };
  few = record {
    input_rails = one-more net.input_rails rail room;
    cells = kept.few.cells;
    output_rails = kept.few.output_rails;
  };
  wires_are = rw (number_of_wires-input net rail, kept.wires_are) refl;
}

pub IsKept-output : (net : PlainNetlist) (wires : ℕ) (rail : Rail) → IsKept net wires → length net.output_rails < most_lines → rail.port < 2 ^ 32 → wire_of rail < greatest_of Wires
    → IsKept (record net { output_rails = net.output_rails ++ rail ∷ [] }) (max wires (wire_of rail + 1))
IsKept-output net wires rail kept room port wire = record {
  netlist = record {
    inputs = kept.netlist.inputs;
    outputs = kept.netlist.outputs;
    input_ports = kept.netlist.input_ports;
    output_ports = ports-behind net.output_rails rail kept.netlist.output_ports port;
    wires = rw (number_of_wires-output net rail) (omega arith);
    input_names = kept.netlist.input_names;
    output_names = kept.netlist.output_names;
    states = kept.netlist.states;
  };
  few = record {
    input_rails = kept.few.input_rails;
    cells = kept.few.cells;
    output_rails = one-more net.output_rails rail room;
  };
  wires_are = rw (number_of_wires-output net rail, kept.wires_are) refl;
}

pub IsKept-cell : (net : PlainNetlist) (wires : ℕ) (cell : Cell) → IsKept net wires → length net.cells < most_lines → cell_bound cell ≤ greatest_of Wires
    → IsKept (record net { cells = net.cells ++ cell ∷ [] }) (max wires (cell_bound cell))
IsKept-cell net wires cell kept room bound = record {
  netlist = record {
    inputs = kept.netlist.inputs;
    outputs = kept.netlist.outputs;
    input_ports = kept.netlist.input_ports;
    output_ports = kept.netlist.output_ports;
    wires = rw (number_of_wires-cell net cell) (let old = kept.netlist.wires in omega arith);
    input_names = kept.netlist.input_names;
    output_names = kept.netlist.output_names;
    states = kept.netlist.states;
  };
  few = record {
    input_rails = kept.few.input_rails;
    cells = one-more net.cells cell room;
    output_rails = kept.few.output_rails;
  };
  wires_are = rw (number_of_wires-cell net cell, kept.wires_are) refl;
}

pub length-fed : (c : ℕ) (wire : WireId) (cells : List Cell) → length (cells_with_feed c wire cells) ≡ length cells
length-fed c wire [] = refl
length-fed zero wire (cell ∷ cells) = refl
length-fed (suc c) wire (cell ∷ cells) = ap suc (length-fed c wire cells)

pub IsKept-fed : (net : PlainNetlist) (wires c : ℕ) (wire : WireId) → IsKept net wires → IsDrocUpTo (slice_get net.cells c) wire.number → wire.number < greatest_of Wires
    → IsKept (record net { cells = cells_with_feed c wire net.cells }) (max wires (wire.number + 1))
IsKept-fed net wires c wire kept droc bound = record {
  netlist = record {
    inputs = kept.netlist.inputs;
    outputs = kept.netlist.outputs;
    input_ports = kept.netlist.input_ports;
    output_ports = kept.netlist.output_ports;
    wires = rw (number_of_wires-fed net c wire droc) (let old = kept.netlist.wires in omega arith);
    input_names = kept.netlist.input_names;
    output_names = kept.netlist.output_names;
    states = kept.netlist.states;
  };
  few = record {
    input_rails = kept.few.input_rails;
    cells = rw (length-fed c wire net.cells) kept.few.cells;
    output_rails = kept.few.output_rails;
  };
  wires_are = rw (number_of_wires-fed net c wire droc, kept.wires_are) refl;
}

-- a DROC of the cells has a number below theirs
pub droc-inside : (cells : List Cell) (c wire : ℕ) → IsDrocUpTo (slice_get cells c) wire → c < length cells
droc-inside [] zero wire h = absurd h
droc-inside [] (suc c) wire h = absurd h
droc-inside (cell ∷ cells) zero wire h = omega arith
droc-inside (cell ∷ cells) (suc c) wire h = let lt = droc-inside cells c wire h in omega arith

-- the cell of a number put back with another feed
pub fed-is-set : (cells : List Cell) (c : ℕ) (wire : WireId) (cell : Cell) → slice_get cells c ≡ Some cell
    → slice_set cells c (with_feed wire cell) ≡ cells_with_feed c wire cells
fed-is-set [] zero wire cell e = absurd cc
fed-is-set [] (suc c) wire cell e = absurd cc
fed-is-set (first ∷ cells) zero wire cell e = let same : first ≡ cell = cc in ap (λ x. with_feed wire x ∷ cells) (subst (λ x. x ≡ first) same refl)
fed-is-set (first ∷ cells) (suc c) wire cell e = ap (λ cs. first ∷ cs) (fed-is-set cells c wire cell e)

-- an input name more
pub kept_with_input_name : (net : PlainNetlist) (wires port : ℕ) (bytes : List ℕ) → IsKept net wires → port < net.inputs → IsAboveAll port net.input_names → IsPortName bytes
    → IsKept (record net { input_names = net.input_names ++ (port, bytes) ∷ [] }) wires
kept_with_input_name net wires port bytes kept range above name = record {
  netlist = record {
    inputs = kept.netlist.inputs;
    outputs = kept.netlist.outputs;
    input_ports = kept.netlist.input_ports;
    output_ports = kept.netlist.output_ports;
    wires = kept.netlist.wires;
    input_names = AreNamesFrom-behind 0 net.inputs port net.input_names bytes kept.netlist.input_names (omega arith) above range name;
    output_names = kept.netlist.output_names;
    states = kept.netlist.states;
  };
  few = record { input_rails = kept.few.input_rails; cells = kept.few.cells; output_rails = kept.few.output_rails };
  wires_are = kept.wires_are;
}

-- an output name more
pub kept_with_output_name : (net : PlainNetlist) (wires port : ℕ) (bytes : List ℕ) → IsKept net wires → port < net.outputs → IsAboveAll port net.output_names → IsPortName bytes
    → IsKept (record net { output_names = net.output_names ++ (port, bytes) ∷ [] }) wires
kept_with_output_name net wires port bytes kept range above name = record {
  netlist = record {
    inputs = kept.netlist.inputs;
    outputs = kept.netlist.outputs;
    input_ports = kept.netlist.input_ports;
    output_ports = kept.netlist.output_ports;
    wires = kept.netlist.wires;
    input_names = kept.netlist.input_names;
    output_names = AreNamesFrom-behind 0 net.outputs port net.output_names bytes kept.netlist.output_names (omega arith) above range name;
    states = kept.netlist.states;
  };
  few = record { input_rails = kept.few.input_rails; cells = kept.few.cells; output_rails = kept.few.output_rails };
  wires_are = kept.wires_are;
}
