-- The text of a timing.
use Rattle.std.specs.Prelude.{◌≡◌, ℕ, ◌+◌, ◌++◌, Bool, List, [], ◌∷◌, map, codes, decimal}
use Rattle.pulse_ids.specs.Ids.{CellId}
use Rattle.cell_netlist.specs.Netlists.{PlainNetlist}
use Rattle.cell_netlist.specs.Text.{line_of}
use Rattle.timed_texts.specs.declared.cycles.PhaseTimes.{PhaseTimes}
use Rattle.timed_texts.specs.Timings.{PlainTiming, IsTiming}
use Rattle.timed_world.specs.Bounding.{numbers_of}
use Rattle.timed_world.specs.Bounds.{PlainBound}
use Rattle.timed_world.specs.Delays.{PlainDelays}

-- the line of a cycle: its number, and how long excite and relax take
abbrev pub times_line : ℕ → PhaseTimes → List ℕ
times_line number times = line_of (decimal number ∷ decimal times.excite ∷ decimal times.relax ∷ [])

-- the lines of cycles that are numbered from this number on
abbrev pub times_text : ℕ → List PhaseTimes → List ℕ
times_text number [] = []
times_text number (times ∷ cycles) = times_line number times ++ times_text (number + 1) cycles

-- the line of the bound
abbrev pub bound_line : ℕ → List ℕ
bound_line time = line_of (codes "bound" ∷ decimal time ∷ [])

-- the line of the path: its cells in order
abbrev pub path_line : List CellId → List ℕ
path_line path = line_of (codes "path" ∷ map decimal (numbers_of path))

abbrev pub bound_text : PlainBound → List ℕ
bound_text bound = bound_line bound.time ++ path_line bound.path

-- the text of a timing: the lines of its cycles, of its bound and of the bound's path
abbrev pub timing_text : PlainTiming → List ℕ
timing_text timing = times_text 0 timing.cycles ++ bound_text timing.bound

-- This is the text of the timing of a netlist on vectors by these delays.
pub record IsTimedText (delays : PlainDelays) (net : PlainNetlist) (vectors : List (List Bool)) (text : List ℕ) : Type 0 where
  pub timing : PlainTiming
  pub is : IsTiming delays net vectors timing
  pub text_is : text ≡ timing_text timing

-- a space and the number of a cell
abbrev pub spaced_cell : CellId → List ℕ
spaced_cell cell = 32 ∷ decimal cell.number
