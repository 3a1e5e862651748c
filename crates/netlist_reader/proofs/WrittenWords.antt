-- Words that are written and read back.
use Rattle.std.proofs.Common.{◌≡◌, ◌≢◌, ◌^◌, ℕ, ◌<◌, eqb, Bool, true, false, List, [], ◌∷◌, ◌++◌, codes, decimal, Option, Some, None, refl, ap, ◌∙◌, arith}
use Rattle.std.specs.Prelude.{option_map, option_and_then, unwrap_or}
use Rattle.std.specs.Str.{bytes_eq}
use Rattle.std.proofs.lemmas.Bool.{ne_eqb}
use Rattle.std.proofs.lemmas.List.Elements.{All-head, All-tail}
use Rattle.pulse_ids.specs.Ids.{WireId, numbered}
use Rattle.pulse_ids.specs.declared.literals.Sign.{Sign}
use Rattle.pulse_ids.specs.declared.literals.Sign.TheVariants.{Pos, Neg}
use Rattle.cell_netlist.specs.declared.kinds.Role.{Role}
use Rattle.cell_netlist.specs.declared.kinds.Role.TheVariants.{Front, Back, Const}
use Rattle.cell_netlist.specs.Text.{sign_word, role_word, bit_word, wire_word, output_word}
use Rattle.word_scan.specs.Lines.{HasNoFeed}
use Rattle.word_scan.proofs.CallerLemmasDecimals.{IsFree, parted_at, decimal_free, decimal_begins, plain_decimal_read}
use Rattle.netlist_reader.specs.Words.{by_word, by_meaning, after_space, sign_of, role_of, bit_of, wire_in, output_in}

pub word_read : {A : Type 0} (w rest : List ℕ) (says : List ℕ → List ℕ → Option A) → IsFree 32 w → by_word (w ++ 32 ∷ rest) says ≡ says w rest
word_read w rest says f = ap (option_and_then (λ parts. says parts.0 parts.1)) (parted_at 32 w rest f)

pub word_passed : (w rest : List ℕ) → IsFree 32 w → after_space (w ++ 32 ∷ rest) ≡ rest
word_passed w rest f = ap (λ (o : Option (List ℕ × List ℕ)). unwrap_or (option_map (λ (parts : List ℕ × List ℕ). parts.1) o) []) (parted_at 32 w rest f)

pub meaning_read : {A B : Type 0} (meaning : Option A) (x : A) (says : A → Option B) → meaning ≡ Some x → by_meaning meaning says ≡ says x
meaning_read meaning x says e = ap (option_and_then says) e

-- a word that neither a space nor an LF parts
pub record IsPlain (w : List ℕ) : Type 0 where
  pub spaces : IsFree 32 w
  pub feeds : IsFree 10 w

pub sign_plain : (s : Sign) → IsPlain (sign_word s)
sign_plain Pos = record { spaces = (refl, tt); feeds = (refl, tt) }
sign_plain Neg = record { spaces = (refl, tt); feeds = (refl, tt) }

pub role_plain : (r : Role) → IsPlain (role_word r)
role_plain Front = record { spaces = (refl, tt); feeds = (refl, tt) }
role_plain Back = record { spaces = (refl, tt); feeds = (refl, tt) }
role_plain Const = record { spaces = (refl, tt); feeds = (refl, tt) }

pub bit_plain : (b : Bool) → IsPlain (bit_word b)
bit_plain false = record { spaces = (refl, tt); feeds = (refl, tt) }
bit_plain true = record { spaces = (refl, tt); feeds = (refl, tt) }

pub number_plain : (n : ℕ) → n < 2 ^ 32 → IsPlain (decimal n)
number_plain n lt = record { spaces = decimal_free 32 n (omega arith) (omega arith); feeds = decimal_free 10 n (omega arith) (omega arith) }

abbrev pub FitsOutput : Option WireId → Type 0
FitsOutput None = Unit
FitsOutput (Some wire) = wire.number < 2 ^ 32

pub output_plain : (output : Option WireId) → FitsOutput output → IsPlain (output_word output)
output_plain None f = record { spaces = (refl, tt); feeds = (refl, tt) }
output_plain (Some wire) f = number_plain wire.number f

pub name_free : (name : List ℕ) → HasNoFeed name → IsFree 10 name
name_free [] f = tt
name_free (byte ∷ name) f = (ne_eqb byte 10 (All-head (λ byte. byte ≢ 10) byte name f), name_free name (All-tail (λ byte. byte ≢ 10) byte name f))

pub sign_read : (s : Sign) → sign_of (sign_word s) ≡ Some s
sign_read Pos = refl
sign_read Neg = refl

pub role_read : (r : Role) → role_of (role_word r) ≡ Some r
role_read Front = refl
role_read Back = refl
role_read Const = refl

pub bit_read : (b : Bool) → bit_of (bit_word b) ≡ Some b
bit_read false = refl
bit_read true = refl

pub wire_read : (wire : WireId) → wire.number < 2 ^ 32 → wire_in (wire_word wire) ≡ Some wire
wire_read wire lt = ap (option_map (λ number. numbered number)) (plain_decimal_read wire.number lt)

no_dash : (n : ℕ) → n < 2 ^ 32 → bytes_eq (decimal n) (codes "-") ≡ false
no_dash n lt =
    let b = decimal_begins n (omega arith) in
    let first : eqb b.first 45 ≡ false = ne_eqb b.first 45 (λ e. let h = b.digit in omega arith) in
    ap (λ (l : List ℕ). bytes_eq l (codes "-")) b.is ∙ rw first refl

pub output_read : (output : Option WireId) → FitsOutput output → output_in (output_word output) ≡ Some output
output_read None fits = refl
output_read (Some wire) fits = rw (no_dash wire.number fits) (ap (option_map (λ w. Some w)) (wire_read wire fits))
