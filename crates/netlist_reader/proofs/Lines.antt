-- The lines up to `end`, read one after the other, show what their first refusal is, or tell their netlist.
use Rattle.std.proofs.Common.{◌≡◌, ◌||◌, ℕ, cond, Bool, true, false, Some, None, Result, Ok, Err, List, [], ◌∷◌, ◌++◌, refl, sym, ap, subst, ◌∙◌, append-nil, append_assoc}
use Rattle.std.proofs.lemmas.Bool.{true≢false}
use Rattle.std.proofs.lemmas.List.Folds.{list_any-append}
use Rattle.word_scan.specs.Reading.{read_on}
use Rattle.word_scan.proofs.CallerLemmasReading.{read_refused}
use Rattle.netlist_reader.specs.declared.built.Built.{Built}
use Rattle.netlist_reader.specs.declared.refusals.NetRefusal.{NetRefusal}
use Rattle.netlist_reader.specs.Statements.{statement_in}
use Rattle.netlist_reader.specs.Places.{line_refusal, first_refusal, is_end, to_end, has_end}
use Rattle.netlist_reader.specs.Building.{has_ended, read_by, line_read}
use Rattle.netlist_reader.proofs.Steps.{going, refused, IsBuilt, line_right, line_wrong}

-- after `end` lines are passed over
pub passed_over : (built : Built) (lines : List (List ℕ)) → has_ended built ≡ true → read_on line_read (going built) lines ≡ going built
passed_over built [] h = refl
passed_over built (line ∷ lines) h =
    let same : line_read built line ≡ going built = ap (λ b. cond b (going built) (read_by built line (statement_in line))) h in
    ap (λ (r : Result Built NetRefusal). read_on line_read r lines) same ∙ passed_over built lines h

or_end : (b c : Bool) → b ≡ false → (b || (c || false)) ≡ c
or_end true c h = absurd (true≢false h)
or_end false true h = refl
or_end false false h = refl

-- whether the lines have ended with this one
ended_with : (before : List (List ℕ)) (built next : Built) (line : List ℕ) → IsBuilt before built → has_ended built ≡ false → IsBuilt (before ++ line ∷ []) next → has_ended next ≡ is_end line
ended_with before built next line is unended now =
    now.ended ∙ list_any-append is_end before (line ∷ []) ∙ or_end (has_end before) (is_end line) (sym is.ended ∙ unended)

going_injective : (one other : Built) → going one ≡ going other → one ≡ other
going_injective one other e = cc

abbrev Right : List (List ℕ) → List (List ℕ) → Built → Type 0
Right before lines last = (first_refusal before lines ≡ None) × IsBuilt (before ++ lines) last

right_end : (before : List (List ℕ)) (line : List ℕ) (lines : List (List ℕ)) (next last : Built) (ends : Bool) → is_end line ≡ ends → line_refusal before line ≡ None
    → IsBuilt (before ++ line ∷ []) next
    → has_ended next ≡ ends → read_on line_read (going next) lines ≡ going last → (has_ended next ≡ false → Right (before ++ line ∷ []) (to_end lines) last)
    → Right before (cond ends (line ∷ []) (line ∷ to_end lines)) last
right_end before line lines next last true e fine is ended read more =
    (rw fine refl, subst (λ (b : Built). IsBuilt (before ++ line ∷ []) b) (going_injective next last (sym (passed_over next lines ended) ∙ read)) is)
right_end before line lines next last false e fine is ended read more =
    let r = more ended in
    (rw fine r.0, subst (λ (l : List (List ℕ)). IsBuilt l last) (append_assoc before (line ∷ []) (to_end lines)) r.1)

step_right : (before : List (List ℕ)) (line : List ℕ) (lines : List (List ℕ)) (built last : Built) (r : Result Built NetRefusal) → line_read built line ≡ r → IsBuilt before built
    → has_ended built ≡ false
    → read_on line_read r lines ≡ going last
    → ((next : Built) → IsBuilt (before ++ line ∷ []) next → has_ended next ≡ false → read_on line_read (going next) lines ≡ going last → Right (before ++ line ∷ []) (to_end lines) last)
    → Right before (to_end (line ∷ lines)) last
step_right before line lines built last (Err refusal) e is unended read more = absurd (let gone : refused refusal ≡ going last = sym (read_refused line_read refusal lines) ∙ read in cc)
step_right before line lines built last (Ok next) e is unended read more =
    let right = line_right before built is unended line next e in
    let ended = ended_with before built next line is unended right.1 in
    right_end before line lines next last (is_end line) refl right.0 right.1 ended read (λ unended. more next right.1 unended read)

pub lines_right : (before lines : List (List ℕ)) (built last : Built) → IsBuilt before built → has_ended built ≡ false → read_on line_read (going built) lines ≡ going last
    → Right before (to_end lines) last
lines_right before [] built last is unended read =
    (refl, subst (λ (l : List (List ℕ)). IsBuilt l last) (sym (append-nil before)) (subst (λ (b : Built). IsBuilt before b) (going_injective built last read) is))
lines_right before (line ∷ lines) built last is unended read =
    step_right before line lines built last (line_read built line) refl is unended read (λ next now still on. lines_right (before ++ line ∷ []) lines next last now still on)

wrong_end : (before : List (List ℕ)) (line : List ℕ) (lines : List (List ℕ)) (next : Built) (refusal : NetRefusal) (ends : Bool) → is_end line ≡ ends → line_refusal before line ≡ None
    → has_ended next ≡ ends → read_on line_read (going next) lines ≡ refused refusal → (has_ended next ≡ false → first_refusal (before ++ line ∷ []) (to_end lines) ≡ Some refusal)
    → first_refusal before (cond ends (line ∷ []) (line ∷ to_end lines)) ≡ Some refusal
wrong_end before line lines next refusal true e fine ended read more = absurd (let gone : going next ≡ refused refusal = sym (passed_over next lines ended) ∙ read in cc)
wrong_end before line lines next refusal false e fine ended read more = rw fine (more ended)

wrong_first : (before : List (List ℕ)) (line : List ℕ) (lines : List (List ℕ)) (refusal : NetRefusal) (ends : Bool) → line_refusal before line ≡ Some refusal
    → first_refusal before (cond ends (line ∷ []) (line ∷ to_end lines)) ≡ Some refusal
wrong_first before line lines refusal true h = rw h refl
wrong_first before line lines refusal false h = rw h refl

step_wrong : (before : List (List ℕ)) (line : List ℕ) (lines : List (List ℕ)) (built : Built) (refusal : NetRefusal) (r : Result Built NetRefusal) → line_read built line ≡ r
    → IsBuilt before built → has_ended built ≡ false
    → read_on line_read r lines ≡ refused refusal
    → ((next : Built) → IsBuilt (before ++ line ∷ []) next → has_ended next ≡ false → read_on line_read (going next) lines ≡ refused refusal
    → first_refusal (before ++ line ∷ []) (to_end lines) ≡ Some refusal)
    → first_refusal before (to_end (line ∷ lines)) ≡ Some refusal
step_wrong before line lines built refusal (Err other) e is unended read more =
    let same : refused other ≡ refused refusal = sym (read_refused line_read other lines) ∙ read in
    let first : other ≡ refusal = cc in
    wrong_first before line lines refusal (is_end line) (line_wrong before built is unended line other e ∙ ap (λ (r : NetRefusal). Some r) first)
step_wrong before line lines built refusal (Ok next) e is unended read more =
    let right = line_right before built is unended line next e in
    wrong_end before line lines next refusal (is_end line) refl right.0 (ended_with before built next line is unended right.1) read (λ unended. more next right.1 unended read)

pub lines_wrong : (before lines : List (List ℕ)) (built : Built) (refusal : NetRefusal) → IsBuilt before built → has_ended built ≡ false → read_on line_read (going built) lines ≡ refused refusal
    → first_refusal before (to_end lines) ≡ Some refusal
lines_wrong before [] built refusal is unended read = absurd cc
lines_wrong before (line ∷ lines) built refusal is unended read =
    step_wrong before line lines built refusal (line_read built line) refl is unended read (λ next now still on. lines_wrong (before ++ line ∷ []) lines next refusal now still on)
