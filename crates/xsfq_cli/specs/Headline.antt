-- The headline: what it means that a source was compiled to a netlist.
use Rattle.std.specs.Prelude.{◌≡◌, ℕ, Bool, List, [], Ok, map, length}
use Rattle.source_machine.specs.Machines.{PlainMachine}
use Rattle.source_machine.specs.Fitting.{Fits}
use Rattle.source_machine.specs.Grounding.{IsWellFounded}
use Rattle.source_machine.specs.Runs.{IsRun, bit_of}
use Rattle.source_machine.specs.Laws.{AreVectors}
use Rattle.cell_netlist.specs.declared.kinds.Ask.{Ask}
use Rattle.cell_netlist.specs.declared.kinds.Version.{Version}
use Rattle.cell_netlist.specs.Asked.{Asks}
use Rattle.cell_netlist.specs.Lean.{IsLean}
use Rattle.cell_netlist.specs.NetRuns.{OutputsCarry}
use Rattle.cell_netlist.specs.RailEquations.{IsNetRun}
use Rattle.cell_netlist.specs.Netlists.{PlainNetlist, IsNetlist}
use Rattle.cell_netlist.specs.Sound.{IsSound}
use Rattle.cell_netlist.specs.Text.{text_of}
use Rattle.netlist_reader.specs.Verdicts.{net_verdict}
use Rattle.pulse_world.specs.Delivery.{Delivers}
use Rattle.pulse_world.specs.RailPulses.{PulsesAsItsRuns}
use Rattle.rail_mapper.specs.Mapped.{HasFewCells, Named, StatesFollow}
use Rattle.rail_mapper.specs.StateLines.{in_two, backs_from}
use Rattle.xsfq_cli.specs.LatchBits.{KeepsLatches}
use Rattle.xsfq_cli.specs.Sources.{HasVerdict}

-- A machine computes one thing: it is well founded and has exactly one run on every list of vectors.
pub record ComputesOnce (machine : PlainMachine) : Type 0 where
  pub fits : Fits machine
  pub founded : IsWellFounded machine
  pub some_run : (vectors : List (List Bool)) → AreVectors machine vectors → (valuations : List (List Bool)) × IsRun machine vectors valuations
  pub one_run : (vectors : List (List Bool)) → AreVectors machine vectors → (one other : List (List Bool))
      → IsRun machine vectors one → IsRun machine vectors other → one ≡ other

-- A netlist is one of a machine with the asked rails and version:
pub record IsNetOf (machine : PlainMachine) (ask : Ask) (version : Version) (net : PlainNetlist) : Type 0 where
  -- its text reads back as it, with nothing after it
  pub read_back : net_verdict (text_of net) ≡ Ok (net, [])
  -- it has a text, is sound, and has exactly the asked output rails and the machine's ports and names
  pub netlist : IsNetlist net
  pub sound : IsSound net
  pub asked : Asks ask (length machine.outputs) net
  pub named : Named machine net
  -- it is of the version that was asked for; in version two its state lines name exactly its backs, in version one there is none
  pub of_version : net.version ≡ version
  pub states : map (λ line. line.cell.number) net.states ≡ in_two version (backs_from 0 net.cells)
  -- the law of every order holds of it: it has a run of its rail equations on all vectors, and it pulses as they say
  pub pulses : PulsesAsItsRuns net
  -- by these equations the output rails carry the machine's outputs
  pub carries : (vectors valuations run : List (List Bool)) → AreVectors machine vectors → IsRun machine vectors valuations → IsNetRun net vectors run
      → OutputsCarry net vectors run (bit_of machine valuations)
  -- and the backs that the state lines name keep the machine's state
  pub follows : (vectors valuations run : List (List Bool)) → AreVectors machine vectors → IsRun machine vectors valuations → IsNetRun net vectors run
      → StatesFollow machine net vectors valuations run
  -- and under every order of deliveries it delivers them
  pub delivers : (vectors valuations : List (List Bool)) → AreVectors machine vectors → IsRun machine vectors valuations
      → Delivers net vectors (bit_of machine valuations)
  -- and in version two its cells keep the machine's latches
  pub keeps : KeepsLatches machine net
  -- it is lean: nothing in it is useless or there twice, no gate folds, and fan-out is no deeper than it has to be
  pub lean : IsLean net
  -- it has at most as many LA and as many FA cells as the machine's size, one constant, and as many backs as the
  -- machine has latches
  pub cells : HasFewCells machine net

-- The headline. A source of these bytes was compiled to a netlist with the asked rails: the verdict of the source is
-- a machine, and the netlist is one of it.
pub record IsCompiled (ask : Ask) (version : Version) (bytes : List ℕ) (net : PlainNetlist) : Type 0 where
  pub machine : PlainMachine
  pub verdict : HasVerdict bytes (Ok machine)
  pub computes : ComputesOnce machine
  pub net_of : IsNetOf machine ask version net
