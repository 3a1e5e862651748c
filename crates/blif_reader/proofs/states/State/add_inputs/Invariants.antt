-- What is left of the words is read on.
use Rattle.std.proofs.Common.{◌≡◌, length, Ok}
use Rattle.word_scan.specs.Reading.{read_on}
use Rattle.word_scan.specs.Logical.{dark_words}
use Rattle.blif_reader.specs.Statements.{input_read}
use Rattle.blif_reader.proofs.states.State.add_inputs.Given as goal

abbrev pub invariant-loop-word : goal.invariant-loop-word
invariant-loop-word l = read_on input_read (Ok l.self) (dark_words l.rest) ≡ read_on input_read (Ok l.fn.self) (dark_words l.words)

abbrev pub decreases-loop-word : goal.decreases-loop-word
decreases-loop-word l = length (dark_words l.rest)
