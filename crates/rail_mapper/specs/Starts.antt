-- The draft to begin with.
use Rattle.std.specs.Prelude.{ℕ, [], replicate}
use Rattle.cell_netlist.specs.declared.kinds.Version.{Version}
use Rattle.cell_netlist.specs.Netlists.{versioned}
use Rattle.rail_mapper.specs.Drafts.{PlainDraft}

-- no line, no leaf and no read of so many rails
abbrev pub first_draft : Version → ℕ → ℕ → ℕ → PlainDraft
first_draft version inputs outputs rails =
    record { net = versioned version inputs outputs; counts = replicate rails 0; stock = replicate rails []; pending = [] }
