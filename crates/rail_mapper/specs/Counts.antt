-- How many reads each rail has.
use Rattle.std.specs.Prelude.{◌+◌, ℕ, List, [], ◌∷◌, slice_index_or, slice_set}
use Rattle.rail_mapper.specs.Drafts.{PlainDraft}

-- the counts with these reads more
abbrev pub counted_reads : List ℕ → List ℕ → List ℕ
counted_reads counts [] = counts
counted_reads counts (rail ∷ rails) = counted_reads (slice_set counts rail (slice_index_or counts rail 0 + 1)) rails

-- the draft with these reads counted
abbrev pub with_reads : PlainDraft → List ℕ → PlainDraft
with_reads draft rails = record draft { counts = counted_reads draft.counts rails }
