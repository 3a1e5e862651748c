-- One name more is kept, and at the end all of them.
use Rattle.std.proofs.Common.{◌∙◌, ◌-◌, arith}
use Rattle.std.proofs.lemmas.Option.{slice_get_within}
use Rattle.numbered_names.proofs.NameTables.{kept_next}
use Rattle.numbered_names.proofs.name_tables.table_of.Goals as goal

pub loop-place-preserved : goal.loop-place-preserved
loop-place-preserved c =
    let texts = c.args.texts.now in
    let place = c.loop-place.place in
    let old = c.loop-place.table in
    let new = c.put.new.self in
    let name = c.get.result.now in
    record {
      kept = kept_next texts name old.slots.items new.slots.items old.overflow new.overflow place c.requires.numbered c.get.ensures (c.in_ok-put.ensures.put (omega arith))
          c.in_ok-put.ensures.kept c.loop-place.invariant.kept;
      count = c.in_ok-put.ensures.count ∙ c.loop-place.invariant.count;
    }

pub returns-clause-kept : goal.returns-clause-kept
returns-clause-kept c number name has =
    c.loop-place.invariant.kept number name has (let within = slice_get_within c.args.texts.now (number - 1) name has.1 in omega (arith, within, c.loop-place-test.false, c.len-place-end.ensures))
