-- A script that is delivered item by item.
use Rattle.std.proofs.Common.{◌≡◌, ◌+◌, ◌<◌, ℕ, zero, suc, List, [], ◌∷◌, ◌++◌, map, length, take, Some, slice_get, ap, sym, ◌∙◌, subst, arith, refl}
use Rattle.std.specs.Prelude.{get_or}
use Rattle.std.proofs.Math.Seq.{take-suc}
use Rattle.std.proofs.lemmas.Option.{slice_get_within, get_or_from_slice_get}
use Rattle.pulse_ids.specs.Ids.{WireId}
use Rattle.pulse_world.specs.Worlds.{PlainWorld, DeliversAt}
use Rattle.schedule_replay.specs.Logs.{wire_number}
use Rattle.schedule_replay.specs.Settling.{Anywhere, DeliversAll}
use Rattle.schedule_replay.proofs.Turns.{one-more}

take-one-more : (xs : List ℕ) (at x : ℕ) → slice_get xs at ≡ Some x → take (at + 1) xs ≡ take at xs ++ x ∷ []
take-one-more xs at x e =
    let next : suc at ≡ at + 1 = omega arith in
    subst (λ n. take n xs ≡ take at xs ++ x ∷ []) next
    (take-suc xs at x (slice_get_within xs at x e) ∙ ap (λ y. take at xs ++ y ∷ []) (get_or_from_slice_get xs at x x e))

-- the number of the wire at a place
pub number-at : (script : List WireId) (at : ℕ) (d : WireId) → at < length script → slice_get (map wire_number script) at ≡ Some (get_or script at d).number
number-at [] at d less = absurd (omega arith)
number-at (wire ∷ script) zero d less = refl
number-at (wire ∷ script) (suc at) d less = number-at script at d (omega arith)

-- one delivery more
pub all-more : (script : List ℕ) (at wire : ℕ) (before mid after : PlainWorld) → slice_get script at ≡ Some wire
    → DeliversAll before (take at script) mid → ((place : ℕ) × DeliversAt mid after place wire) → DeliversAll before (take (at + 1) script) after
all-more script at wire before mid after e h (place, delivers) =
    subst (λ ws. DeliversAll before ws after) (sym (take-one-more script at wire e))
    (one-more Anywhere 0 (take at script) before mid after wire h (record { place = place; named = tt; delivers = delivers }))
