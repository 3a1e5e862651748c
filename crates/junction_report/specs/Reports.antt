-- The report on a netlist, and laws on its words.
use Rattle.std.specs.Prelude.{◌≡◌, ◌+◌, ℕ, List, length, map}
use Rattle.std.specs.List.{count_by, sum_by}
use Rattle.pulse_ids.specs.Ids.{CellId}
use Rattle.cell_netlist.specs.Netlists.{PlainNetlist}
use Rattle.cell_netlist.specs.Sound.{IsSound}
use Rattle.junction_report.specs.declared.reports.Report.{Report}
use Rattle.junction_report.specs.Walks.{IsPassing, IsWalk, IsGreatest, IsDepth, gates_on}
use Rattle.junction_report.specs.Paths.{IsPath}
use Rattle.junction_report.specs.Counts.{is_la, is_fa, is_split, is_droc0, is_droc1, junctions_in}

-- the numbers of cells
abbrev pub numbers_of : List CellId → List ℕ
numbers_of cells = map (λ cell. cell.number) cells

-- the report on a netlist
pub record IsReport (net : PlainNetlist) (report : Report) : Type 0 where
  pub input_rails : report.input_rails ≡ length net.input_rails
  pub output_rails : report.output_rails ≡ length net.output_rails
  pub la : report.la ≡ count_by is_la net.cells
  pub fa : report.fa ≡ count_by is_fa net.cells
  pub split : report.split ≡ count_by is_split net.cells
  pub droc0 : report.droc0 ≡ count_by is_droc0 net.cells
  pub droc1 : report.droc1 ≡ count_by is_droc1 net.cells
  pub junctions : report.junctions ≡ sum_by junctions_in net.cells
  pub logic : IsGreatest (IsWalk net) (gates_on net) report.logic
  pub cells : IsGreatest (IsWalk net) length report.cells
  pub path : IsPath net (numbers_of report.path)

-- each LA, FA and splitter of a sound netlist has a depth, and one only
abbrev pub CellsHaveDepths : Type 0
CellsHaveDepths = (net : PlainNetlist) → IsSound net → (c : ℕ) → IsPassing net c → (depth : ℕ) × IsDepth net c depth

abbrev pub DepthsAreUnique : Type 0
DepthsAreUnique = (net : PlainNetlist) (c depth other : ℕ) → IsDepth net c depth → IsDepth net c other → depth ≡ other

-- the path of a sound netlist is a walk, and none is longer
abbrev pub PathsAreWalks : Type 0
PathsAreWalks = (net : PlainNetlist) → IsSound net → (path : List ℕ) → IsPath net path → IsWalk net path × IsGreatest (IsWalk net) length (length path)

-- there is one path only
abbrev pub PathsAreUnique : Type 0
PathsAreUnique = (net : PlainNetlist) → IsSound net → (path other : List ℕ) → IsPath net path → IsPath net other → path ≡ other

-- the counts of all kinds add up to the number of cells
abbrev pub CountsAddUp : Type 0
CountsAddUp = (net : PlainNetlist) (report : Report) → IsReport net report
    → report.la + report.fa + report.split + report.droc0 + report.droc1 ≡ length net.cells

-- a sound netlist has one report only
abbrev pub ReportsAreUnique : Type 0
ReportsAreUnique = (net : PlainNetlist) → IsSound net → (one other : Report) → IsReport net one → IsReport net other → one ≡ other
