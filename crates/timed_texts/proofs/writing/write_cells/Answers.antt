-- A piece that fails leaves the pieces before it.
use Rattle.std.proofs.Common.{rules, take, sym, subst}
use Rattle.std.specs.List.{flat_map}
use Rattle.std.specs.Io.KnownBytes.{Appends}
use Rattle.std.proofs.KnownBytes.{Appends-trans}
use Rattle.std.proofs.lemmas.Option.{slice_get_within}
use Rattle.byte_ports.proofs.CallerLemmas.{wrote_up_to_item, err_so}
use Rattle.timed_texts.specs.Texts.{spaced_cell}
use Rattle.timed_texts.proofs.TextLines.{item_read, cells_more}
use Rattle.timed_texts.proofs.writing.write_cells.Goals as goal

pub returns-in_err-write_cell-clause-written : goal.returns-in_err-write_cell-clause-written
returns-in_err-write_cell-clause-written g c =
    wrote_up_to_item spaced_cell c.args.bound.now.path c.loop-place.place c.cell.result _ _ _ _ _ _ _ _ (slice_get_within c.args.bound.now.path c.loop-place.place c.cell.result c.cell.ensures)
    (sym (item_read c.args.bound.now.path c.loop-place.place c.cell.result c.cell.ensures)) c.loop-place.invariant.written c.loop-place.invariant.calm
    (err_so c.in_err-write_cell.was) c.from_residual.ensures.0 c.write_cell.ensures.written

pub loop-place-preserved : goal.loop-place-preserved
loop-place-preserved g c = record {
  written = subst (Appends (g.K.Sink.taken c.args.out.now) (g.K.Sink.taken c.write_cell.new.out)) (sym (cells_more c.args.bound.now.path c.loop-place.place c.cell.result c.cell.ensures))
      (Appends-trans _ _ _ (flat_map spaced_cell (take c.loop-place.place c.args.bound.now.path)) _ c.loop-place.invariant.written c.in_ok-write_cell.ensures.written.whole);
  calm = search rules;
  unflushed = λ was. c.write_cell.ensures.unflushed;
}
