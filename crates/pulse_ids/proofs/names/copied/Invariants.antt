use Rattle.std.proofs.Common.{◌≡◌, take}
use Rattle.pulse_ids.specs.Names.{AreBytes}
use Rattle.pulse_ids.proofs.names.copied.Given as goal

abbrev pub invariant-loop-byte : goal.invariant-loop-byte
invariant-loop-byte l = (l.list.items ≡ take l.byte-index l.bytes) × AreBytes l.list.items
