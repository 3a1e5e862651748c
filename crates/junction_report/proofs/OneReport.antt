-- A netlist has one report only.
use Rattle.std.proofs.Common.{◌≡◌, ℕ, List, [], ◌∷◌, length, refl, sym, ap, ◌∙◌}
use Rattle.pulse_ids.specs.Ids.{CellId, numbered}
use Rattle.cell_netlist.specs.Netlists.{PlainNetlist}
use Rattle.cell_netlist.specs.Sound.{IsSound}
use Rattle.junction_report.specs.declared.reports.Report.{Report}
use Rattle.junction_report.specs.Reports.{IsReport, numbers_of}
use Rattle.junction_report.specs.Walks.{IsWalk, gates_on}
use Rattle.junction_report.proofs.PathLaws.{one_path}
use Rattle.junction_report.proofs.Walking.{greatest_unique}

-- cells of the same numbers are the same
same_cells : (one other : List CellId) → numbers_of one ≡ numbers_of other → one ≡ other
same_cells [] [] e = refl
same_cells [] (d ∷ other) e = cc
same_cells (c ∷ one) [] e = cc
same_cells (c ∷ one) (d ∷ other) e =
    let first : c.number ≡ d.number = cc in
    let rest : numbers_of one ≡ numbers_of other = cc in
    ap (λ (x : CellId). x ∷ one) (ap (λ n. numbered n) first) ∙ ap (λ (l : List CellId). d ∷ l) (same_cells one other rest)

-- the report of these numbers and this path
abbrev report_with : (input_rails output_rails la fa split droc0 droc1 junctions logic cells : ℕ) (path : List CellId) → Report
report_with input_rails output_rails la fa split droc0 droc1 junctions logic cells path = record {
  input_rails = input_rails;
  output_rails = output_rails;
  la = la;
  fa = fa;
  split = split;
  droc0 = droc0;
  droc1 = droc1;
  junctions = junctions;
  logic = logic;
  cells = cells;
  path = path;
}

pub same_reports : (net : PlainNetlist) → IsSound net → (one other : Report) → IsReport net one → IsReport net other → one ≡ other
same_reports net sound one other h k =
    let input_rails = h.input_rails ∙ sym k.input_rails in
    let output_rails = h.output_rails ∙ sym k.output_rails in
    let la = h.la ∙ sym k.la in
    let fa = h.fa ∙ sym k.fa in
    let split = h.split ∙ sym k.split in
    let droc0 = h.droc0 ∙ sym k.droc0 in
    let droc1 = h.droc1 ∙ sym k.droc1 in
    let junctions = h.junctions ∙ sym k.junctions in
    let logic = greatest_unique (IsWalk net) (gates_on net) one.logic other.logic h.logic k.logic in
    let cells = greatest_unique (IsWalk net) length one.cells other.cells h.cells k.cells in
    let path = same_cells one.path other.path (one_path net sound (numbers_of one.path) (numbers_of other.path) h.path k.path) in
    let same : report_with one.input_rails one.output_rails one.la one.fa one.split one.droc0 one.droc1 one.junctions one.logic one.cells one.path
    ≡ report_with other.input_rails other.output_rails other.la other.fa other.split other.droc0 other.droc1 other.junctions other.logic other.cells other.path = cc in
    same
