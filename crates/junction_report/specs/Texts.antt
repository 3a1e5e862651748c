-- The text of a report.
use Rattle.std.specs.Prelude.{ℕ, List, [], ◌∷◌, ◌++◌, map, codes, decimal}
use Rattle.std.specs.List.{flat_map}
use Rattle.cell_netlist.specs.Text.{line_of}
use Rattle.junction_report.specs.declared.reports.Report.{Report}
use Rattle.junction_report.specs.declared.writing.Line.{Line}
use Rattle.junction_report.specs.Reports.{numbers_of}

-- a line of a word and a number
abbrev pub numbered_line : List ℕ × ℕ → List ℕ
numbered_line line = line_of (line.0 ∷ decimal line.1 ∷ [])

-- the lines of the rails
abbrev pub rails_of : Report → List (List ℕ × ℕ)
rails_of report = (codes "inputs", report.input_rails) ∷ (codes "outputs", report.output_rails) ∷ []

abbrev pub rails_text : Report → List ℕ
rails_text report = flat_map numbered_line (rails_of report)

-- the lines of the cells and of the depths
abbrev pub sizes_of : Report → List (List ℕ × ℕ)
sizes_of report = (codes "la", report.la)
    ∷ (codes "fa", report.fa)
    ∷ (codes "split", report.split)
    ∷ (codes "droc0", report.droc0)
    ∷ (codes "droc1", report.droc1)
    ∷ (codes "junctions", report.junctions)
    ∷ (codes "logic", report.logic)
    ∷ (codes "cells", report.cells)
    ∷ []

abbrev pub sizes_text : Report → List ℕ
sizes_text report = flat_map numbered_line (sizes_of report)

-- the line of the path: its cells in order
abbrev pub path_line : Report → List ℕ
path_line report = line_of (codes "path" ∷ map decimal (numbers_of report.path))

-- the text of a report
abbrev pub report_text : Report → List ℕ
report_text report = rails_text report ++ (sizes_text report ++ path_line report)

-- the word and the number of a line, and its bytes
abbrev pub parts_of : Line → List ℕ × ℕ
parts_of line = (line.word.now, line.number)

abbrev pub line_text : Line → List ℕ
line_text line = numbered_line (parts_of line)

-- a space and a number
abbrev pub spaced : ℕ → List ℕ
spaced number = 32 ∷ decimal number
