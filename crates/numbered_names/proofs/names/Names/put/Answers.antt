-- A new name is kept, and the others stay.
use Rattle.std.proofs.Common.{◌≡◌, ◌<◌, ◌+◌, ◌++◌, ◌∷◌, [], List, ℕ, None, length, ap, sym, subst, arith}
use Rattle.std.proofs.lemmas.List.{length_push}
use Rattle.numbered_names.specs.Names.{AreNumbered, number_in}
use Rattle.numbered_names.specs.NameTables.{AreKept}
use Rattle.numbered_names.proofs.Keys.{numbered_more}
use Rattle.numbered_names.proofs.NameTables.{are_kept, are_kept_more}
use Rattle.numbered_names.proofs.names.Names.put.Goals as goal

pub invariant_of-self-2 : goal.invariant_of-self-2
invariant_of-self-2 c =
    let name = c.args.name.now in
    let names = c.self.inside.texts in
    let old = c.self.inside.table in
    let new = c.put.new.self in
    let numbered = c.self.invariant.1 in
    let longer : c.push.new.self ≡ names ++ name ∷ [] = c.in_ok-push.ensures.ok in
    let fresh = subst (λ (ns : List (List ℕ)). number_in ns name ≡ None) (sym c.self.view_is) c.requires.new in
    let room = subst (λ (ns : List (List ℕ)). length ns < 524288) (sym c.self.view_is) c.requires.room in
    let next = subst (λ (ns : List (List ℕ)). c.args.number ≡ length ns + 1) (sym c.self.view_is) c.requires.next in
    let others = are_kept names name old.slots.items new.slots.items old.overflow new.overflow numbered fresh c.in_ok-put.ensures.kept c.self.invariant.0 in
    let all = are_kept_more names name new.slots.items new.overflow c.args.number next (c.in_ok-put.ensures.put (omega arith)) others in (
      subst (λ (ns : List (List ℕ)). AreKept ns new.slots.items new.overflow) (sym longer) all,
      subst AreNumbered (sym longer) (numbered_more names name numbered fresh),
      omega (arith, ap length longer, length_push names name, room),
    )
