-- The number of the digits so far.
use Rattle.std.proofs.Common.{◌≡◌, drop}
use Rattle.word_scan.proofs.DigitLemmas.{value_from}
use Rattle.word_scan.proofs.decimals.decimal.Given as goal

abbrev pub invariant-loop-byte : goal.invariant-loop-byte
invariant-loop-byte l = value_from l.value (drop l.byte-index l.bytes) ≡ value_from 0 l.bytes
