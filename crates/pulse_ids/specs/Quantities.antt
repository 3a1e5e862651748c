-- The greatest number accepted of each quantity.
use Rattle.std.specs.Prelude.{ℕ, ◌^◌, ◌-◌}
use Rattle.pulse_ids.specs.declared.quantities.Quantity.{Quantity}
use Rattle.pulse_ids.specs.declared.quantities.Quantity.TheVariants.{SourceBytes, NetBytes, TailBytes, Inputs, Outputs, Latches, Nets, Size, NameBytes, Wires, Vectors}

abbrev pub greatest_of : Quantity → ℕ
greatest_of SourceBytes = 2 ^ 26
greatest_of NetBytes = 2 ^ 27
greatest_of TailBytes = 2 ^ 27
greatest_of Inputs = 2 ^ 14
greatest_of Outputs = 2 ^ 14
greatest_of Latches = 2 ^ 14
greatest_of Nets = 2 ^ 19
greatest_of Size = 2 ^ 18
greatest_of NameBytes = 2 ^ 10 - 1
greatest_of Wires = 2 ^ 22
greatest_of Vectors = 2 ^ 14
