use Rattle.std.proofs.Common.{◌≡◌, ◌++◌, map, take}
use Rattle.pulse_ids.specs.Ids.{NetId}
use Rattle.source_machine.proofs.net_numbers.push_inputs.Given as goal

-- the nets before, and those of the items so far
abbrev pub invariant-loop-net : goal.invariant-loop-net
invariant-loop-net l = l.nets.items ≡ l.fn.nets.items ++ map (λ (net : NetId). net.number) (take l.net-index l.inputs)
