-- The lemmas on wires, decisions and computed runs that the crates above may cite.
pub use Rattle.cell_netlist.proofs.ComputedRuns.{phases, play, played, settles}
pub use Rattle.cell_netlist.proofs.ExampleRefusals.{looped_breaks, clear_pair_breaks}
pub use Rattle.cell_netlist.proofs.FeedLemmas.{leaves_rest}
pub use Rattle.cell_netlist.proofs.MoreLines.{chain-stays, cells_add, input_adds, output_adds}
pub use Rattle.cell_netlist.proofs.NetlistTexts.{text_spread}
pub use Rattle.cell_netlist.proofs.PlacesOfWires.{driver-is, reader-is, driver-only, reader-only, out-driver, read-reader}
pub use Rattle.cell_netlist.proofs.PlaceLemmas.{on_wire-append, on_wire-length}
pub use Rattle.cell_netlist.proofs.PlaceWires.{same_wire}
pub use Rattle.cell_netlist.proofs.Refusals.{first_refusal, grounded-known}
pub use Rattle.cell_netlist.proofs.Roots.{root_unique, root_found, Splits-out}
pub use Rattle.cell_netlist.proofs.RootsInRuns.{wires_carry_root_bits}
pub use Rattle.cell_netlist.proofs.SoundDecisions.{is_sound-at, none_driven_twice-is, SplittersBelow-one_more}
pub use Rattle.cell_netlist.proofs.StateDecisions.{names_back-at, names_back-from}
pub use Rattle.cell_netlist.proofs.StateLemmas.{StateFits, no_states_right, states_few, states_fit}
pub use Rattle.cell_netlist.proofs.TableLemmas.{written-append, written-length, written-one, written_rail, written_cell}
pub use Rattle.cell_netlist.proofs.UpsetCells.{upsets_are_of_cells, reading_cells_are_upset}
pub use Rattle.cell_netlist.proofs.WireBounds.{wire_bound-append, wire_below, occurrences-past, number_of_wires-parts, number_of_wires-input, number_of_wires-output, number_of_wires-cell, number_of_wires-fed, driven_within, read_within}
pub use Rattle.cell_netlist.proofs.WireLemmas.{named_below, driven_once, read_once, driving_cell-is, reading_cell-is, wire_grounded, wire_root}
