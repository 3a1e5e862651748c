-- White space at the end of a line is passed over.
use Rattle.std.proofs.Common.{◌≡◌, ◌≤◌, ◌+◌, length, take}
use Rattle.std.specs.List.{suffix_len}
use Rattle.word_scan.specs.Logical.{is_white}
use Rattle.word_scan.proofs.parts.told.Given as goal

abbrev pub invariant-loop-end : goal.invariant-loop-end
invariant-loop-end l = record {
  within : l.end ≤ length l.text;
  white : l.end + suffix_len is_white l.text ≡ length l.text + suffix_len is_white (take l.end l.text);
}

abbrev pub decreases-loop-end : goal.decreases-loop-end
decreases-loop-end l = l.end
