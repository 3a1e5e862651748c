-- The lines of a report as the pieces that are written.
use Rattle.std.proofs.Common.{◌≡◌, ℕ, List, [], ◌∷◌, ◌++◌, map, decimal, refl, sym, ap, ◌∙◌, append_assoc}
use Rattle.std.specs.List.{flat_map}
use Rattle.pulse_ids.specs.Ids.{CellId}
use Rattle.cell_netlist.specs.Text.{line_of}
use Rattle.junction_report.specs.declared.writing.Line.{Line}
use Rattle.junction_report.specs.Reports.{numbers_of}
use Rattle.junction_report.specs.Texts.{spaced, numbered_line, parts_of, line_text}

-- a line of a word and numbers, as the word, each number behind a space, and LF
pub line_in_pieces : (word : List ℕ) (cells : List CellId)
    → line_of (word ∷ map decimal (numbers_of cells)) ≡ word ++ (flat_map (λ cell. spaced cell.number) cells ++ 10 ∷ [])
line_in_pieces word [] = refl
line_in_pieces word (cell ∷ cells) =
    ap (λ rest. word ++ 32 ∷ rest) (line_in_pieces (decimal cell.number) cells
    ∙ sym (append_assoc (decimal cell.number) (flat_map (λ cell. spaced cell.number) cells) (10 ∷ [])))

-- lines of these words and numbers
same_lines : (lines : List Line) → flat_map line_text lines ≡ flat_map numbered_line (map parts_of lines)
same_lines [] = refl
same_lines (line ∷ lines) = ap (λ rest. line_text line ++ rest) (same_lines lines)

pub lines_are : (lines : List Line) (parts : List (List ℕ × ℕ)) → map parts_of lines ≡ parts → flat_map line_text lines ≡ flat_map numbered_line parts
lines_are lines parts e = same_lines lines ∙ ap (λ l. flat_map numbered_line l) e
