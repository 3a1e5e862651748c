use Rattle.pulse_ids.specs.Ids.{numbered}
use Rattle.cell_netlist.specs.declared.lines.Driver.TheVariants as drivers_of
use Rattle.cell_netlist.specs.declared.lines.Reader.TheVariants as readers_of
use Rattle.cell_netlist.proofs.TableLemmas.{tables-of}
use Rattle.cell_netlist.proofs.wired_nets.WiredNet.new.Goals as goal

pub invariant_of-result : goal.invariant_of-result
invariant_of-result c =
    rw (c.in_ok-drivers.ensures, c.in_ok-readers.ensures) (tables-of c.args.net.now (drivers_of.Input (numbered 0)) (readers_of.Output (numbered 0)) c.requires)
