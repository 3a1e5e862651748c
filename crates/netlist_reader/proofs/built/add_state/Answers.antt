-- A state line.
use Rattle.netlist_reader.proofs.RisingLatches.{fits_two, fits_above_states, within_limit}
use Rattle.netlist_reader.proofs.built.add_state.Goals as goal

pub add_state-requires-clause-version : goal.add_state-requires-clause-version
add_state-requires-clause-version c = fits_two c.args.net.now.version c.args.state.latch c.args.net.now.states c.requires.fits

pub add_state-requires-clause-limit : goal.add_state-requires-clause-limit
add_state-requires-clause-limit c = within_limit c.args.state.latch c.requires.limit

pub add_state-requires-clause-above : goal.add_state-requires-clause-above
add_state-requires-clause-above c = fits_above_states c.args.net.now.version c.args.state.latch c.args.net.now.states c.requires.fits
