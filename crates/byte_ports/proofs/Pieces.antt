-- A piece of which the first bytes have moved, and the part of it that is left.
use Rattle.std.proofs.Common.{◌≡◌, ℕ, ◌+◌, ◌-◌, List, ◌++◌, length, take, drop, sym, ap, ◌∙◌, subst, arith, take-append-drop, Err}
use Rattle.std.proofs.lemmas.List.{take_rest, drop-drop}
use Rattle.std.specs.declared.option.Option.{Option}
use Rattle.std.specs.Io.KnownBytes.{Appends, Keeps}
use Rattle.std.proofs.KnownBytes.{Appends-kept}
use Rattle.byte_ports.specs.Causes.{Rose, HasCause}
use Rattle.byte_ports.specs.Prefixes.{TookPrefix}
use Rattle.byte_ports.specs.Writing.{WritesText}

-- a write that failed leaves the sink with the prefix that it had taken
pub prefix_so_far : (a b c : Option (List ℕ)) (at : ℕ) (piece : List ℕ) → Appends a b (take at piece) → Keeps b c → TookPrefix a c piece
prefix_so_far a b c at piece grown kept =
    record {
      prefix = take at piece;
      rest = drop at piece;
      whole = sym (take-append-drop at piece);
      grown = Appends-kept a b c (take at piece) grown kept;
    }

-- a write that failed after others ends the whole piece
pub failed_so_far : {T E : Type 0} (a b c : Option (List ℕ)) (at : ℕ) (piece : List ℕ) (before then now : ℕ) (error : E) → Appends a b (take at piece) → Keeps b c
    → then ≡ before → HasCause {T = T} then now (Err error) → WritesText {E = E} a c before now (Err error) piece
failed_so_far a b c at piece before then now error grown kept same cause =
    record {
      whole = tt;
      prefix = prefix_so_far a b c at piece grown kept;
      cause = record { later = omega (arith, cause.later); failed = subst (λ count. Rose count now) same cause.failed; kept = tt };
    }

-- what a read gave of the rest, and the rest after it
pub given_and_left : (at count : ℕ) (bytes : List ℕ) → take count (drop at bytes) ++ drop (at + count) bytes ≡ drop at bytes
given_and_left at count bytes =
    sym (ap (λ l. take count (drop at bytes) ++ l) (drop-drop count at bytes)) ∙ take-append-drop count (drop at bytes)

-- a read that put some of the rest at the prefix of a slice leaves what stands after it
pub rest_splits : (at count : ℕ) (bytes into : List ℕ) → take count into ≡ take count (take (length bytes - at) (drop at bytes))
    → drop at bytes ≡ take count into ++ drop (at + count) bytes
rest_splits at count bytes into prefix =
    sym (given_and_left at count bytes)
    ∙ ap (λ l. l ++ drop (at + count) bytes) (sym (prefix ∙ ap (λ l. take count l) (take_rest bytes at)))
