-- What lines tell.
use Rattle.blif_reader.specs.States.{nothing_read}
use Rattle.blif_reader.specs.Laws.{SourcesAreTold}
use Rattle.blif_reader.proofs.SourceTellings.{lines_told, first_refused, judged_told}
use Rattle.blif_reader.proofs.FirstRefusals.{is_tied}
use Rattle.blif_reader.proofs.OfBytes.{of_bytes}
use Rattle.blif_reader.proofs.laws.sources_are_told.Goals as goal

are_told : SourcesAreTold
are_told = record {
  told = λ unset lines state h.
      let t = lines_told unset lines state h in
      let k = is_tied unset lines state h in
      record { nets = t.nets; source = t.source; rows = t.rows; clock = t.clock; clocked = t.clocked; modelled = t.modelled; ended = k.kept.ended; size = k.kept.size };
  refused = λ unset lines refusal h. first_refused unset lines nothing_read refusal h;
  judged = λ unset text source h. judged_told unset text source h;
  of_bytes = λ unset text refusal h. of_bytes unset text refusal h;
}

pub returns : goal.returns
returns c = are_told
