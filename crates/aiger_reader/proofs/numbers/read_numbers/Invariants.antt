-- The numbers of a line, word by word.
use Rattle.std.proofs.Common.{◌≡◌, ◌≤◌, ◌-◌, take, length}
use Rattle.word_scan.specs.Words.{words_of}
use Rattle.aiger_reader.specs.Numbers.{numbers_in, numbers_of}
use Rattle.aiger_reader.proofs.Numbering.{with_read}
use Rattle.aiger_reader.proofs.numbers.read_numbers.Given as goal

abbrev pub invariant-loop-word : goal.invariant-loop-word
invariant-loop-word l = record {
  few : l.count ≤ 9;
  room : length l.items ≡ 9;
  read : with_read (take l.count l.items) (numbers_in (words_of l.rest)) ≡ numbers_of l.line;
}

abbrev pub decreases-loop-word : goal.decreases-loop-word
decreases-loop-word l = 9 - l.count
