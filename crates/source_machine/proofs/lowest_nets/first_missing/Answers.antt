use Rattle.std.proofs.Common.{sym, subst, ap, ◌∙◌, arith, length, true, false}
use Rattle.std.specs.List.{position}
use Rattle.std.proofs.lemmas.List.{length-replicate}
use Rattle.source_machine.specs.LowestNets.{IsFirstMissing, MarksAll}
use Rattle.source_machine.proofs.LowestNets.{first_missing_is}
use Rattle.source_machine.proofs.lowest_nets.first_missing.Goals as goal

pub set_bits-requires : goal.set_bits-requires
set_bits-requires c net i =
    omega (arith, c.requires.nets_fit net i, ap (λ l. length l) c.in_ok-bits.ensures, length-replicate c.args.count false)

pub set_bits-requires-2 : goal.set_bits-requires-2
set_bits-requires-2 c net i =
    omega (arith, c.requires.removed_fit net i, c.set_bits.ensures.width, ap (λ l. length l) c.in_ok-bits.ensures, length-replicate c.args.count false)

pub returns : goal.returns
returns c =
    subst (λ found. IsFirstMissing c.args.nets.now c.args.removed.now found) (sym (c.number.ensures ∙ c.first_set.ensures ∙ ap (λ l. position (λ bit. bit) l) c.as_slice.ensures.value))
    (first_missing_is c.args.count c.args.nets.now c.args.removed.now _ _ c.requires.nets_fit
    (subst (λ l. MarksAll l c.args.nets.now true c.set_bits.new.bits.items) c.in_ok-bits.ensures c.set_bits.ensures) c.set_bits-2.ensures)
