-- What a sink took of a text of several pieces, from what it took of each, and what writing them comes to.
use Rattle.std.proofs.Common.{
  ℕ,
  zero,
  suc,
  ◌+◌,
  ◌-◌,
  ◌<◌,
  ◌≤◌,
  ◌≡◌,
  List,
  [],
  ◌∷◌,
  ◌++◌,
  length,
  take,
  drop,
  get_or,
  Result,
  Ok,
  Err,
  IsErr,
  IsOk,
  refl,
  sym,
  ap,
  subst,
  ◌∙◌,
  arith,
  append_assoc,
  append-nil,
  take-append-drop,
}
use Rattle.std.proofs.lemmas.List.{take-take, drop-take, take_rest}
use Rattle.std.specs.List.{flat_map}
use Rattle.std.specs.declared.option.Option.{Option}
use Rattle.std.specs.Io.KnownBytes.{Appends, Keeps}
use Rattle.std.proofs.KnownBytes.{Appends-trans, Appends-kept, Appends-nil}
use Rattle.byte_ports.specs.Causes.{Rose}
use Rattle.byte_ports.specs.Prefixes.{TookPrefix}
use Rattle.byte_ports.specs.Writing.{WritesText}

-- the first bytes, and then some of the rest
take_further : (at count : ℕ) (piece : List ℕ) → take at piece ++ take count (drop at piece) ≡ take (at + count) piece
take_further at count piece =
    let within : at ≤ at + count = omega arith in
    let whole = take (at + count) piece in
    sym (ap (λ l. l ++ take count (drop at piece)) (take-take at (at + count) piece within))
    ∙ sym (ap (λ l. take at whole ++ l) (drop-take at count piece))
    ∙ take-append-drop at whole

-- a write of the rest of a piece takes the sink further
pub grown_further : (a b c : Option (List ℕ)) (at count : ℕ) (piece : List ℕ) → Appends a b (take at piece)
    → Appends b c (take count (take (length piece - at) (drop at piece))) → Appends a c (take (at + count) piece)
grown_further a b c at count piece first more =
    subst (Appends a c) (take_further at count piece)
    (Appends-trans a b c (take at piece) (take count (drop at piece)) first
    (subst (λ l. Appends b c (take count l)) (take_rest piece at) more))

-- nothing was taken
pub prefix_of_none : (a b : Option (List ℕ)) (piece : List ℕ) → Keeps a b → TookPrefix a b piece
prefix_of_none a b piece kept =
    record { prefix = []; rest = piece; whole = refl; grown = Appends-kept a a b [] (Appends-nil a) kept }

-- the whole piece was taken
pub prefix_of_whole : (a b : Option (List ℕ)) (piece : List ℕ) → Appends a b piece → TookPrefix a b piece
prefix_of_whole a b piece grown =
    record { prefix = piece; rest = []; whole = sym (append-nil piece); grown = grown }

-- the first part was taken whole
pub prefix_of_part : (a b : Option (List ℕ)) (first second : List ℕ) → Appends a b first → TookPrefix a b (first ++ second)
prefix_of_part a b first second grown =
    record { prefix = first; rest = second; whole = refl; grown = grown }

-- a prefix of the first part is a prefix of both parts
pub prefix_of_first : (a b : Option (List ℕ)) (first second : List ℕ) → TookPrefix a b first → TookPrefix a b (first ++ second)
prefix_of_first a b first second took =
    record {
      prefix = took.prefix;
      rest = took.rest ++ second;
      whole = ap (λ l. l ++ second) took.whole ∙ append_assoc took.prefix took.rest second;
      grown = took.grown;
    }

-- the whole first part, and then a prefix of the second
pub prefix_of_second : (a b c : Option (List ℕ)) (first second : List ℕ) → Appends a b first → TookPrefix b c second → TookPrefix a c (first ++ second)
prefix_of_second a b c first second grown took =
    record {
      prefix = first ++ took.prefix;
      rest = took.rest;
      whole = ap (λ l. first ++ l) took.whole ∙ sym (append_assoc first took.prefix took.rest);
      grown = Appends-trans a b c first took.prefix grown took.grown;
    }

-- a call that takes nothing changes nothing
pub prefix_kept : (a b c : Option (List ℕ)) (piece : List ℕ) → TookPrefix a b piece → Keeps b c → TookPrefix a c piece
prefix_kept a b c piece took kept =
    record {
      prefix = took.prefix;
      rest = took.rest;
      whole = took.whole;
      grown = Appends-kept a b c took.prefix took.grown kept;
    }

-- nothing to write
pub wrote_nothing : {E : Type 0} (old : Option (List ℕ)) (count : ℕ) → WritesText {E = E} old old count count (Ok tt) []
wrote_nothing old count = record {
  whole = Appends-nil old;
  prefix = tt;
  cause = record { later = omega arith; failed = tt; kept = refl };
}

-- the first piece failed
pub wrote_first : {E F : Type 0} (old new : Option (List ℕ)) (before now : ℕ) (result : Result Unit E) (answer : Result Unit F) (first second : List ℕ)
    → IsErr result → IsErr answer → WritesText old new before now result first → WritesText old new before now answer (first ++ second)
wrote_first old new before now (Ok u) answer first second e f w = cc
wrote_first old new before now (Err x) (Ok u) first second e f w = cc
wrote_first old new before now (Err x) (Err y) first second e f w = record {
  whole = tt;
  prefix = prefix_of_first old new first second w.prefix;
  cause = record { later = w.cause.later; failed = w.cause.failed; kept = tt };
}

-- the first piece was written
pub wrote_second : {E F : Type 0} (old between new : Option (List ℕ)) (before then now : ℕ) (result : Result Unit E) (answer : Result Unit F) (first second : List ℕ)
    → IsOk result → WritesText old between before then result first → WritesText between new then now answer second
    → WritesText old new before now answer (first ++ second)
wrote_second old between new before then now (Err x) answer first second e w v = cc
wrote_second old between new before then now (Ok u) (Ok z) first second e w v = record {
  whole = Appends-trans old between new first second w.whole v.whole;
  prefix = tt;
  cause = record { later = omega arith; failed = tt; kept = v.cause.kept ∙ w.cause.kept };
}
wrote_second old between new before then now (Ok u) (Err y) first second e w v = record {
  whole = tt;
  prefix = prefix_of_second old between new first second w.whole v.prefix;
  cause = record { later = omega arith; failed = subst (λ n. Rose n now) w.cause.kept v.cause.failed; kept = tt };
}

-- what an answer is
pub ok_so : {T E : Type 0} {result : Result T E} {value : T} → result ≡ Ok value → IsOk result
ok_so {T} {E} {result} {value} e = subst (λ (r : Result T E). IsOk r) (sym e) refl

pub err_so : {T E : Type 0} {result : Result T E} {error : E} → result ≡ Err error → IsErr result
err_so {T} {E} {result} {error} e = subst (λ (r : Result T E). IsErr r) (sym e) refl

-- the texts of a list of items, up to one of them and from it on
flat_map_at : {X : Type 0} (text : X → List ℕ) (items : List X) (at : ℕ) (other : X) → at < length items
    → flat_map text items ≡ flat_map text (take at items) ++ (text (get_or items at other) ++ flat_map text (drop (suc at) items))
flat_map_at text [] at other h = absurd (omega arith)
flat_map_at text (x ∷ xs) zero other h = refl
flat_map_at text (x ∷ xs) (suc at) other h =
    ap (λ rest. text x ++ rest) (flat_map_at text xs at other (omega arith))
    ∙ sym (append_assoc (text x) (flat_map text (take at xs)) (text (get_or xs at other) ++ flat_map text (drop (suc at) xs)))

-- the items so far were written, and the next one failed
pub wrote_up_to : {X E F : Type 0} (text : X → List ℕ) (items : List X) (at : ℕ) (other : X) (old between new : Option (List ℕ)) (before then now : ℕ)
    (result : Result Unit E) (answer : Result Unit F) → at < length items → Appends old between (flat_map text (take at items)) → then ≡ before
    → IsErr result → IsErr answer
    → WritesText between new then now result (text (get_or items at other)) → WritesText old new before now answer (flat_map text items)
wrote_up_to text items at other old between new before then now (Ok u) answer h grown same e f w = cc
wrote_up_to text items at other old between new before then now (Err x) (Ok u) h grown same e f w = cc
wrote_up_to text items at other old between new before then now (Err x) (Err y) h grown same e f w = record {
  whole = tt;
  prefix = subst (λ l. TookPrefix old new l) (sym (flat_map_at text items at other h))
      (prefix_of_second old between new _ _ grown (prefix_of_first between new _ _ w.prefix));
  cause = record { later = omega arith; failed = subst (λ n. Rose n now) same w.cause.failed; kept = tt };
}

-- the same, for an item that the list gives
pub wrote_up_to_item : {X E F : Type 0} (text : X → List ℕ) (items : List X) (at : ℕ) (item : X) (old between new : Option (List ℕ)) (before then now : ℕ)
    (result : Result Unit E) (answer : Result Unit F) → at < length items → item ≡ get_or items at item → Appends old between (flat_map text (take at items)) → then ≡ before
    → IsErr result → IsErr answer
    → WritesText between new then now result (text item) → WritesText old new before now answer (flat_map text items)
wrote_up_to_item text items at item old between new before then now result answer h is grown same e f w =
    wrote_up_to text items at item old between new before then now result answer h grown same e f
    (subst (λ x. WritesText between new then now result (text x)) is w)

-- the texts of the same items
pub written_of : {X E : Type 0} (text : X → List ℕ) (items same : List X) (old new : Option (List ℕ)) (before now : ℕ) (result : Result Unit E)
    → items ≡ same → WritesText old new before now result (flat_map text items) → WritesText old new before now result (flat_map text same)
written_of text items same old new before now result e w = subst (λ l. WritesText old new before now result (flat_map text l)) e w
