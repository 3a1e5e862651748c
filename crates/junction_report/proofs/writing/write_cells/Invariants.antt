-- The loop of the cells.
use Rattle.std.proofs.Common.{◌≡◌, take, IsFalse}
use Rattle.std.specs.List.{flat_map}
use Rattle.std.specs.Io.KnownBytes.{Appends}
use Rattle.junction_report.specs.Texts.{spaced}
use Rattle.junction_report.proofs.writing.write_cells.Given as goal

-- the cells so far were written, and the sink has not failed and isn't flushed, if it wasn't
abbrev pub invariant-loop-cell : goal.invariant-loop-cell
invariant-loop-cell g l = record {
  written : Appends (g.K.Sink.taken l.fn.out) (g.K.Sink.taken l.out) (flat_map (λ cell. spaced cell.number) (take l.cell-index l.cells));
  calm : g.K.Sink.faults l.out ≡ g.K.Sink.faults l.fn.out;
  unflushed : IsFalse (g.K.Sink.flushed l.fn.out) → IsFalse (g.K.Sink.flushed l.out);
}
