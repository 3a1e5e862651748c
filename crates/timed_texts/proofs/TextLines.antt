-- The text of a timing as the pieces that are written.
use Rattle.std.proofs.Common.{◌≡◌, ◌+◌, ℕ, zero, suc, Some, List, [], ◌∷◌, ◌++◌, map, decimal, take, drop, get_or, slice_get, length, ◌<◌, Result, Ok, Err, IsErr, sym, ap, subst, ◌∙◌, refl}
use Rattle.std.proofs.Common.{append_assoc, append-nil, arith}
use Rattle.std.specs.List.{flat_map}
use Rattle.std.proofs.lemmas.List.{take_more}
use Rattle.std.proofs.lemmas.List.Concat.{flat_map-append}
use Rattle.std.proofs.lemmas.Option.{slice_get_within}
use Rattle.std.specs.declared.option.Option.{Option}
use Rattle.std.specs.Io.KnownBytes.{Appends}
use Rattle.byte_ports.specs.Causes.{Rose}
use Rattle.byte_ports.specs.Prefixes.{TookPrefix}
use Rattle.byte_ports.specs.Writing.{WritesText}
use Rattle.byte_ports.proofs.CallerLemmas.{prefix_of_first, prefix_of_second}
use Rattle.pulse_ids.specs.Ids.{CellId}
use Rattle.cell_netlist.specs.Text.{line_of}
use Rattle.timed_texts.specs.declared.cycles.PhaseTimes.{PhaseTimes}
use Rattle.timed_texts.specs.Texts.{spaced_cell, times_line, times_text}
use Rattle.timed_world.specs.Bounding.{numbers_of}

-- an item read with a default
pub item_read : {X : Type 0} (items : List X) (at : ℕ) (item : X) → slice_get items at ≡ Some item → get_or items at item ≡ item
item_read [] at item e = refl
item_read (x ∷ items) zero item e = cc
item_read (x ∷ items) (suc at) item e = item_read items at item e

-- the numbers of one cell more
pub cells_more : (cells : List CellId) (at : ℕ) (cell : CellId) → slice_get cells at ≡ Some cell
    → flat_map spaced_cell (take (at + 1) cells) ≡ flat_map spaced_cell (take at cells) ++ spaced_cell cell
cells_more cells at cell e =
    ap (λ cs. flat_map spaced_cell cs) (take_more cells at cell (slice_get_within cells at cell e))
    ∙ (flat_map-append spaced_cell (take at cells) (get_or cells at cell ∷ [])
    ∙ (ap (λ (c : CellId). flat_map spaced_cell (take at cells) ++ (spaced_cell c ++ [])) (item_read cells at cell e)
    ∙ ap (λ l. flat_map spaced_cell (take at cells) ++ l) (append-nil (spaced_cell cell))))

-- a line of a word and the numbers of cells, as the word, each number behind a space, and LF
pub line_in_pieces : (word : List ℕ) (cells : List CellId) → line_of (word ∷ map decimal (numbers_of cells)) ≡ word ++ (flat_map spaced_cell cells ++ 10 ∷ [])
line_in_pieces word [] = refl
line_in_pieces word (cell ∷ cells) =
    ap (λ rest. word ++ 32 ∷ rest) (line_in_pieces (decimal cell.number) cells ∙ sym (append_assoc (decimal cell.number) (flat_map spaced_cell cells) (10 ∷ [])))

-- the lines of the first cycles, of the next one, and of those behind it
times_parts : (number : ℕ) (cycles : List PhaseTimes) (at : ℕ) (other : PhaseTimes) → at < length cycles
    → times_text number cycles
    ≡ times_text number (take at cycles) ++ (times_line (number + at) (get_or cycles at other) ++ times_text (number + at + 1) (drop (suc at) cycles))
times_parts number [] at other h = absurd (omega arith)
times_parts number (times ∷ cycles) zero other h =
    let same : number ≡ number + 0 = omega arith in
    ap (λ n. times_line n times ++ times_text (n + 1) cycles) same
times_parts number (times ∷ cycles) (suc at) other h =
    let a : number + 1 + at ≡ number + suc at = omega arith in
    ap (λ rest. times_line number times ++ rest)
    (times_parts (number + 1) cycles at other (omega arith)
    ∙ ap (λ n. times_text (number + 1) (take at cycles) ++ (times_line n (get_or cycles at other) ++ times_text (n + 1) (drop (suc at) cycles))) a)
    ∙ sym (append_assoc (times_line number times) (times_text (number + 1) (take at cycles))
    (times_line (number + suc at) (get_or cycles at other) ++ times_text (number + suc at + 1) (drop (suc at) cycles)))

pub times_at : (cycles : List PhaseTimes) (at : ℕ) (other : PhaseTimes) → at < length cycles
    → times_text 0 cycles ≡ times_text 0 (take at cycles) ++ (times_line at (get_or cycles at other) ++ times_text (at + 1) (drop (suc at) cycles))
times_at cycles at other h =
    let same : 0 + at ≡ at = omega arith in
    times_parts 0 cycles at other h
    ∙ ap (λ n. times_text 0 (take at cycles) ++ (times_line n (get_or cycles at other) ++ times_text (n + 1) (drop (suc at) cycles))) same

-- the lines of one cycle more
times_longer : (number : ℕ) (cycles : List PhaseTimes) (at : ℕ) (other : PhaseTimes) → at < length cycles
    → times_text number (take (suc at) cycles) ≡ times_text number (take at cycles) ++ times_line (number + at) (get_or cycles at other)
times_longer number [] at other h = absurd (omega arith)
times_longer number (times ∷ cycles) zero other h = let same : number ≡ number + 0 = omega arith in append-nil (times_line number times) ∙ ap (λ n. times_line n times) same
times_longer number (times ∷ cycles) (suc at) other h =
    let a : number + 1 + at ≡ number + suc at = omega arith in
    ap (λ rest. times_line number times ++ rest) (times_longer (number + 1) cycles at other (omega arith)
    ∙ ap (λ n. times_text (number + 1) (take at cycles) ++ times_line n (get_or cycles at other)) a)
    ∙ sym (append_assoc (times_line number times) (times_text (number + 1) (take at cycles)) (times_line (number + suc at) (get_or cycles at other)))

pub times_more : (cycles : List PhaseTimes) (at : ℕ) (other : PhaseTimes) → at < length cycles
    → times_text 0 (take (at + 1) cycles) ≡ times_text 0 (take at cycles) ++ times_line at (get_or cycles at other)
times_more cycles at other h =
    let same : 0 + at ≡ at = omega arith in
    let next : at + 1 ≡ suc at = omega arith in
    ap (λ n. times_text 0 (take n cycles)) next ∙ times_longer 0 cycles at other h ∙ ap (λ n. times_text 0 (take at cycles) ++ times_line n (get_or cycles at other)) same

-- the lines of the first cycles were written, and that of the next one failed
pub times_failed : {E F : Type 0} (cycles : List PhaseTimes) (at : ℕ) (other : PhaseTimes) (old between new : Option (List ℕ)) (before then now : ℕ)
    (result : Result Unit E) (answer : Result Unit F) → at < length cycles → Appends old between (times_text 0 (take at cycles)) → then ≡ before → IsErr result → IsErr answer
    → WritesText between new then now result (times_line at (get_or cycles at other)) → WritesText old new before now answer (times_text 0 cycles)
times_failed cycles at other old between new before then now (Ok u) answer h grown same e f w = cc
times_failed cycles at other old between new before then now (Err x) (Ok u) h grown same e f w = cc
times_failed cycles at other old between new before then now (Err x) (Err y) h grown same e f w = record {
  whole = tt;
  prefix = subst (TookPrefix old new) (sym (times_at cycles at other h)) (prefix_of_second old between new _ _ grown (prefix_of_first between new _ _ w.prefix));
  cause = record { later = let l = w.cause.later in omega arith; failed = subst (λ n. Rose n now) same w.cause.failed; kept = tt };
}
