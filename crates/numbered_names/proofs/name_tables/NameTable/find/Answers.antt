-- No number, behind a free slot or a full window.
use Rattle.std.proofs.Common.{◌≡◌, ◌<◌, ◌∙◌, List, ℕ, None, length, get_or, ap, sym, subst, arith}
use Rattle.numbered_names.specs.NameTables.{end_of, start_of}
use Rattle.numbered_names.proofs.NameTables.{IsNotBefore, none_free, none_full, looked_over, if_none}
use Rattle.numbered_names.proofs.name_tables.NameTable.find.Goals as goal

pub returns-then-end-end_of : goal.returns-then-end-end_of
returns-then-end-end_of c =
    let table = c.args.self.now in
    let slots = table.slots.items in
    let texts = c.args.texts.now in
    let name = c.args.name.now in
    let start = c.start_of-start.result in
    let end = c.taken_end-end.result in
    let begins : start ≡ start_of (length slots) name = c.start_of-start.ensures.is ∙ ap (λ n. start_of n name) (c.len.ensures ∙ table.slots.ok.0) in
    let within : end < end_of (length slots) start = omega (arith, c.if-end-end_of.true, c.end_of.ensures, c.len-2.ensures, table.slots.ok.0) in
    let free : get_or slots end 0 ≡ 0 = subst (λ (l : List ℕ). end < end_of (length l) start → get_or l end 0 ≡ 0) c.deref.ensures.value c.taken_end-end.ensures.ends within in
    let before : IsNotBefore texts slots start end name = subst (λ (l : List ℕ). IsNotBefore texts l start end name) c.deref-2.ensures.value c.in_default.ensures.none in
    sym (none_free texts slots table.overflow name start end begins c.requires.kept c.taken_end-end.ensures.least within free before)

pub returns : goal.returns
returns c =
    let table = c.args.self.now in
    let slots = table.slots.items in
    let texts = c.args.texts.now in
    let name = c.args.name.now in
    let start = c.start_of-start.result in
    let end = c.taken_end-end.result in
    let begins : start ≡ start_of (length slots) name = c.start_of-start.ensures.is ∙ ap (λ n. start_of n name) (c.len.ensures ∙ table.slots.ok.0) in
    let full : end ≡ end_of (length slots) start = omega (arith, c.taken_end-end.ensures.most, c.if-end-end_of.false, c.end_of.ensures, c.len-2.ensures, table.slots.ok.0) in
    let before : IsNotBefore texts slots start end name = subst (λ (l : List ℕ). IsNotBefore texts l start end name) c.deref-2.ensures.value c.in_default.ensures.none in
    let over = λ (none : c.overflowed.result ≡ None). if_none c.overflowed.result none c.overflowed.ensures.none in
    looked_over texts name c.overflowed.result c.requires.numbered c.overflowed.ensures.some
    (λ none. none_full texts slots table.overflow name start end begins c.requires.kept full before (over none))
