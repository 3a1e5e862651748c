-- The lines of a section that are written are read one after the other.
use Rattle.std.proofs.Common.{◌≡◌, ℕ, ◌<◌, ◌≤◌, true, false, List, [], ◌∷◌, ◌++◌, length, map, Some, None, Result, refl, sym, ap, subst, ◌∙◌, append_assoc, append-nil, inl, inr, arith}
use Rattle.std.proofs.lemmas.Bool.{le-leb}
use Rattle.std.proofs.lemmas.List.{map-append, length-append}
use Rattle.pulse_ids.specs.Lists.{IsIn}
use Rattle.cell_netlist.specs.Netlists.{PlainNetlist}
use Rattle.word_scan.specs.Reading.{read_on}
use Rattle.word_scan.proofs.CallerLemmasDecimals.{IsFree}
use Rattle.word_scan.proofs.CallerLemmasReading.{read_joined}
use Rattle.netlist_reader.specs.declared.statements.Statement.{Statement}
use Rattle.netlist_reader.specs.declared.places.Section.{Section}
use Rattle.netlist_reader.specs.declared.places.Section.TheVariants.{Version, Ports, InputRails, Cells, OutputRails, States, InputNames, OutputNames, End}
use Rattle.netlist_reader.specs.declared.built.Built.{Built}
use Rattle.netlist_reader.specs.declared.refusals.NetRefusal.{NetRefusal}
use Rattle.netlist_reader.specs.Limits.{limit_of}
use Rattle.netlist_reader.specs.Places.{rank, section_of, fits_behind}
use Rattle.netlist_reader.specs.Building.{follows, has_ended_by, has_ended, with_statement, after_statement, read_by, line_read, start}
use Rattle.netlist_reader.proofs.Steps.{going, behind_ports}
use Rattle.netlist_reader.proofs.WrittenLines.{spaced, IsLineOf}

-- a state after the head, behind which lines of these sections may follow
pub record IsStage (low : ℕ) (net : PlainNetlist) (built : Built) : Type 0 where
  pub net_is : built.net ≡ net
  pub ready : (section : Section) → 2 ≤ rank section → low ≤ rank section → follows built.last section ≡ true
  pub lasts : has_ended built ≡ false

-- what these lines lead to
pub record Leads (lines : List (List (List ℕ))) (low : ℕ) (net : PlainNetlist) : Type 0 where
  pub built : Built
  pub reads : read_on line_read (going start) (map spaced lines) ≡ going built
  pub count : built.lines ≡ length lines
  pub stage : IsStage low net built
  pub free : (words : List (List ℕ)) → IsIn words lines → IsFree 10 (spaced words)

pub one_read : (built : Built) (words : List (List ℕ)) (statement : Statement) → has_ended built ≡ false → IsLineOf words statement → limit_of (spaced words) statement ≡ None
    → follows built.last (section_of statement) ≡ true → fits_behind built.net statement ≡ true → line_read built (spaced words) ≡ going (after_statement built (spaced words) statement)
one_read built words statement lasts is small follows fits =
    rw lasts (ap (read_by built (spaced words)) is.says ∙ rw (follows, fits, small) refl)

pub free_more : (lines : List (List (List ℕ))) (words : List (List ℕ)) → ((w : List (List ℕ)) → IsIn w lines → IsFree 10 (spaced w)) → IsFree 10 (spaced words)
    → (w : List (List ℕ)) → IsIn w (lines ++ words ∷ []) → IsFree 10 (spaced w)
free_more [] words f g w (inl e) = subst (λ (x : List (List ℕ)). IsFree 10 (spaced x)) e g
free_more [] words f g w (inr none) = absurd none
free_more (first ∷ lines) words f g w (inl e) = f w (inl e)
free_more (first ∷ lines) words f g w (inr h) = free_more lines words (λ x i. f x (inr i)) g w h

not_ended : (section : Section) → rank section < 8 → has_ended_by (Some section) ≡ false
not_ended Version h = refl
not_ended Ports h = refl
not_ended InputRails h = refl
not_ended Cells h = refl
not_ended OutputRails h = refl
not_ended States h = refl
not_ended InputNames h = refl
not_ended OutputNames h = refl
not_ended End h = absurd (omega arith)

-- one more line
more_read : (lines : List (List (List ℕ))) (low : ℕ) (net : PlainNetlist) (words : List (List ℕ)) (statement : Statement) → Leads lines low net → IsLineOf words statement
    → limit_of (spaced words) statement ≡ None
    → fits_behind net statement ≡ true → 2 ≤ rank (section_of statement) → low ≤ rank (section_of statement) → rank (section_of statement) < 8
    → Leads (lines ++ words ∷ []) (rank (section_of statement)) (with_statement (spaced words) statement net)
more_read lines low net words statement leads is small fits body le lasting =
    let section = section_of statement in
    let b = leads.built in
    let one = one_read b words statement leads.stage.lasts is small (leads.stage.ready section body le) (ap (λ (n : PlainNetlist). fits_behind n statement) leads.stage.net_is ∙ fits) in
    record {
      built = after_statement b (spaced words) statement;
      reads = ap (read_on line_read (going start)) (map-append spaced lines (words ∷ [])) ∙ read_joined line_read (going start) (map spaced lines) (spaced words ∷ [])
          ∙ ap (λ (r : Result Built NetRefusal). read_on line_read r (spaced words ∷ [])) leads.reads ∙ one;
      count = omega (arith, leads.count, length-append lines (words ∷ []));
      stage = record {
        net_is = ap (with_statement (spaced words) statement) leads.stage.net_is;
        ready = λ next p q. behind_ports section next (omega arith) ∙ rw (le-leb 2 (rank next) p, le-leb (rank section) (rank next) q) refl;
        lasts = not_ended section lasting;
      };
      free = free_more lines words leads.free is.feeds;
    }

weaker : (lines : List (List (List ℕ))) (low high : ℕ) (net : PlainNetlist) → low ≤ high → Leads lines low net → Leads lines high net
weaker lines low high net le leads = record {
  built = leads.built;
  reads = leads.reads;
  count = leads.count;
  stage = record { net_is = leads.stage.net_is; ready = λ next p q. leads.stage.ready next p (omega arith); lasts = leads.stage.lasts };
  free = leads.free;
}

-- a netlist with what the lines of some items say
abbrev pub all_added : {X : Type 0} → (X → List (List ℕ)) → (X → Statement) → List X → PlainNetlist → PlainNetlist
all_added words_of statement_of [] net = net
all_added words_of statement_of (x ∷ items) net = all_added words_of statement_of items (with_statement (spaced (words_of x)) (statement_of x) net)

-- a line that is written says this and passes no limit
pub record IsWritten (words : List (List ℕ)) (statement : Statement) : Type 0 where
  pub line : IsLineOf words statement
  pub small : limit_of (spaced words) statement ≡ None

-- the lines of a section, whose items fit behind what was read before
module _ {X : Type 0} (words_of : X → List (List ℕ)) (statement_of : X → Statement) (section : Section) (in_section : (x : X) → section_of (statement_of x) ≡ section)
    (body : 2 ≤ rank section) (lasting : rank section < 8) (Fits : List X → PlainNetlist → Type 0)
    (fits_now : (x : X) (items : List X) (net : PlainNetlist) → Fits (x ∷ items) net → fits_behind net (statement_of x) ≡ true)
    (fits_next : (x : X) (items : List X) (net : PlainNetlist) → Fits (x ∷ items) net → Fits items (with_statement (spaced (words_of x)) (statement_of x) net)) where
  pub section_read : (items : List X) (lines : List (List (List ℕ))) (low : ℕ) (net : PlainNetlist) → Leads lines low net → low ≤ rank section
      → ((x : X) → IsIn x items → IsWritten (words_of x) (statement_of x)) → Fits items net → Leads (lines ++ map words_of items) (rank section) (all_added words_of statement_of items net)
  section_read [] lines low net leads le each fits = subst (λ (ls : List (List (List ℕ))). Leads ls (rank section) net) (sym (append-nil lines)) (weaker lines low (rank section) net le leads)
  section_read (x ∷ items) lines low net leads le each fits =
      let e = in_section x in
      let now = each x (inl refl) in
      let next : PlainNetlist = with_statement (spaced (words_of x)) (statement_of x) net in
      let one : Leads (lines ++ words_of x ∷ []) (rank section) next =
      subst (λ (s : Section). Leads (lines ++ words_of x ∷ []) (rank s) next) e
      (more_read lines low net (words_of x) (statement_of x) leads now.line now.small (fits_now x items net fits) (omega (arith, ap rank e)) (omega (arith, ap rank e)) (omega (arith, ap rank e))) in
      subst (λ (ls : List (List (List ℕ))). Leads ls (rank section) (all_added words_of statement_of items next)) (append_assoc lines (words_of x ∷ []) (map words_of items))
      (section_read items (lines ++ words_of x ∷ []) (rank section) next one (omega arith) (λ y h. each y (inr h)) (fits_next x items net fits))
