-- A text that was written and flushed.
use Rattle.std.proofs.Common.{ℕ, List, Result, Ok, Err, IsOk, subst, ◌∙◌, arith}
use Rattle.std.specs.declared.option.Option.{Option}
use Rattle.std.specs.Io.KnownBytes.{Keeps}
use Rattle.std.proofs.KnownBytes.{Appends-kept}
use Rattle.byte_ports.specs.Causes.{HasCause, Rose}
use Rattle.byte_ports.specs.Writing.{WritesText}
use Rattle.byte_ports.proofs.CallerLemmas.{prefix_kept, prefix_of_whole}

-- a flush takes nothing, so that the text stands written where it succeeds, and as a prefix of itself where it fails
pub written_and_flushed : {E F : Type 0} (old between new : Option (List ℕ)) (before written now : ℕ) (result : Result Unit E) (answer : Result Unit F) (text : List ℕ)
    → IsOk result → WritesText old between before written result text → Keeps between new → HasCause written now answer → WritesText old new before now answer text
written_and_flushed old between new before written now (Err x) answer text e w kept cause = cc
written_and_flushed old between new before written now (Ok u) (Ok z) text e w kept cause = record {
  whole = Appends-kept old between new text w.whole kept;
  prefix = tt;
  cause = record { later = let first = w.cause.later in let second = cause.later in omega arith; failed = tt; kept = cause.kept ∙ w.cause.kept };
}
written_and_flushed old between new before written now (Ok u) (Err y) text e w kept cause = record {
  whole = tt;
  prefix = prefix_kept old between new text (prefix_of_whole old between text w.whole) kept;
  cause = record {
    later = let first = w.cause.later in let second = cause.later in omega arith;
    failed = subst (λ n. Rose n now) w.cause.kept cause.failed;
    kept = tt;
  };
}
