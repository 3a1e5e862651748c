-- A hash, cut to the slots.
use Rattle.std.proofs.Common.{bit_and, ap, ◌∙◌}
use Rattle.numbered_names.specs.NameTables.{start_of, hash_of}
use Rattle.numbered_names.proofs.name_tables.start_of.Goals as goal

pub returns-clause-is : goal.returns-clause-is
unfolding start_of
returns-clause-is c = ap (λ n. bit_and n c.saturating_sub.result) c.hash_of.ensures ∙ ap (bit_and (hash_of c.args.name.now)) c.saturating_sub.ensures
