-- What the words of lines tell of the state for the checks of the next line.
use Rattle.std.proofs.Common.{◌≡◌, ℕ, ◌+◌, Bool, true, false, ◌||◌, cond, List, [], ◌∷◌, ◌++◌, length, Option, Some, None, Ok, refl, sym, ap, subst, ◌∙◌, arith}
use Rattle.std.specs.Prelude.{⊤, filter}
use Rattle.std.specs.List.{flat_map, list_any}
use Rattle.std.proofs.lemmas.List.{append-nil}
use Rattle.std.proofs.lemmas.List.Concat.{flat_map-append}
use Rattle.std.proofs.lemmas.List.Folds.{list_any-append}
use Rattle.std.proofs.Math.Bool.{or-false}
use Rattle.source_machine.specs.Machines.{PlainMachine}
use Rattle.blif_reader.specs.declared.latch_kinds.LatchKind.{LatchKind}
use Rattle.blif_reader.specs.Rows.{bit_of}
use Rattle.blif_reader.specs.States.{BlifState, OpenEquation, closed, with_open}
use Rattle.blif_reader.specs.Latches.{edge_of}
use Rattle.blif_reader.specs.Tellings.{input_words, output_words, latch_words, names_in, firsts, clocks_in, first_of, has_words, last_or}
use Rattle.blif_reader.specs.LineRefusals.{is_model, is_end, is_latch, is_row, kind_in, control_of, kinds_told, controls_told, OpenNames, row_size, size_told}

-- nets, ports and clock
pub record HasTold (lines : List (List (List ℕ))) (state : BlifState) : Type 0 where
  pub nets : state.nets ≡ firsts (flat_map names_in lines)
  pub inputs : length state.machine.inputs ≡ length (flat_map input_words lines)
  pub outputs : length state.machine.outputs ≡ length (flat_map output_words lines)
  pub clock : state.clock ≡ first_of (flat_map clocks_in lines)
  pub begun : state.modelled ≡ list_any has_words lines

-- the type and the control of the first typed latch
abbrev pub TypedIs : Option LatchKind → List (List ℕ) → List (List ℕ) → Type 0
TypedIs None kinds controls = (kinds ≡ []) × (controls ≡ [])
TypedIs (Some typed) [] controls = ⊥
TypedIs (Some typed) (kind ∷ kinds) [] = ⊥
TypedIs (Some typed) (kind ∷ kinds) (control ∷ controls) = (edge_of kind ≡ Ok typed.rises) × (control ≡ typed.control)

-- what the fold keeps beside what it builds
pub record HasKept (lines : List (List (List ℕ))) (state : BlifState) : Type 0 where
  pub typed : TypedIs state.typed (kinds_told lines) (controls_told lines)
  pub ended : state.ended ≡ list_any is_end lines
  pub model : state.modelled ≡ list_any is_model lines
  pub size : state.size ≡ size_told lines
  pub latches : length state.machine.latches ≡ length (filter is_latch lines)

-- rows that end in this bit
abbrev pub EndIn : Bool → List (List (List ℕ)) → Type 0
EndIn bit [] = ⊤
EndIn bit (row ∷ rows) = (bit_of (last_or [] row) ≡ Some bit) × EndIn bit rows

-- the open equation is that of these names and rows
pub record EquationIs (unended : OpenEquation) (told : OpenNames) : Type 0 where
  pub columns : length told.names ≡ length unended.columns + 1
  pub rows : length unended.equation.cubes ≡ length told.rows
  pub bits : EndIn unended.equation.on told.rows

abbrev pub OpenIs : Option OpenEquation → Option OpenNames → Type 0
OpenIs None None = ⊤
OpenIs None (Some told) = ⊥
OpenIs (Some unended) None = ⊥
OpenIs (Some unended) (Some told) = EquationIs unended told

-- what one line adds
pub record Adds (state next : BlifState) (line : List (List ℕ)) : Type 0 where
  pub typed : (kinds controls : List (List ℕ)) → TypedIs state.typed kinds controls → TypedIs next.typed (kinds ++ kind_in (latch_words line)) (controls ++ control_of (latch_words line))
  pub ended : next.ended ≡ (state.ended || is_end line)
  pub model : next.modelled ≡ (state.modelled || is_model line)
  pub size : next.size ≡ state.size + (cond (is_row line) (row_size line) 0)
  pub latches : length next.machine.latches ≡ length state.machine.latches + cond (is_latch line) 1 0

size_on : (lines : List (List (List ℕ))) (line : List (List ℕ)) → size_told (lines ++ line ∷ []) ≡ size_told lines + cond (is_row line) (row_size line) 0
size_on [] line = omega arith
size_on (first ∷ lines) line = let h = size_on lines line in omega (arith, h)

latch_by : (b : Bool) (line : List (List ℕ)) → length (cond b (line ∷ []) []) ≡ cond b 1 0
latch_by true line = refl
latch_by false line = refl

latches_by : (b c : Bool) (first : List (List ℕ)) (more less : List (List (List ℕ))) → length more ≡ length less + cond c 1 0 → length (cond b (first ∷ more) more)
    ≡ length (cond b (first ∷ less) less) + cond c 1 0
latches_by true c first more less h = omega (arith, h)
latches_by false c first more less h = h

latches_on : (lines : List (List (List ℕ))) (line : List (List ℕ)) → length (filter is_latch (lines ++ line ∷ [])) ≡ length (filter is_latch lines) + cond (is_latch line) 1 0
latches_on [] line = let h = latch_by (is_latch line) line in omega (arith, h)
latches_on (first ∷ lines) line = latches_by (is_latch first) (is_latch line) first (filter is_latch (lines ++ line ∷ [])) (filter is_latch lines) (latches_on lines line)

pub any_on : (p : List (List ℕ) → Bool) (lines : List (List (List ℕ))) (line : List (List ℕ)) → list_any p (lines ++ line ∷ []) ≡ (list_any p lines || p line)
any_on p lines line = list_any-append p lines (line ∷ []) ∙ ap (λ b. list_any p lines || b) (or-false (p line))

told_on : (f : List (List ℕ) → List (List ℕ)) (lines : List (List (List ℕ))) (line : List (List ℕ)) → flat_map f (lines ++ line ∷ []) ≡ flat_map f lines ++ f line
told_on f lines line = flat_map-append f lines (line ∷ []) ∙ ap (λ (l : List (List ℕ)). flat_map f lines ++ l) (append-nil (f line))

pub kept_on : (lines : List (List (List ℕ))) (line : List (List ℕ)) (state next : BlifState) → HasKept lines state → Adds state next line → HasKept (lines ++ line ∷ []) next
kept_on lines line state next has a = record {
  typed = subst (λ (l : List (List ℕ)). TypedIs next.typed l (controls_told (lines ++ line ∷ []))) (sym (told_on (λ l. kind_in (latch_words l)) lines line))
      (subst (λ (l : List (List ℕ)). TypedIs next.typed (kinds_told lines ++ kind_in (latch_words line)) l) (sym (told_on (λ l. control_of (latch_words l)) lines line))
      (a.typed (kinds_told lines) (controls_told lines) has.typed));
  ended = a.ended ∙ ap (λ b. b || is_end line) has.ended ∙ sym (any_on is_end lines line);
  model = a.model ∙ ap (λ b. b || is_model line) has.model ∙ sym (any_on is_model lines line);
  size = let h = size_on lines line in omega (arith, a.size, has.size, h);
  latches = let h = latches_on lines line in omega (arith, a.latches, has.latches, h);
}

-- what leaves type, end, model, size and latches as they are
pub record Same (state next : BlifState) : Type 0 where
  pub typed : next.typed ≡ state.typed
  pub ended : next.ended ≡ state.ended
  pub model : next.modelled ≡ state.modelled
  pub size : next.size ≡ state.size
  pub latches : length next.machine.latches ≡ length state.machine.latches

pub same_adds : (state next : BlifState) (line : List (List ℕ)) → Same state next → kind_in (latch_words line) ≡ [] → control_of (latch_words line) ≡ [] → is_end line ≡ false → is_model line ≡ false
    → is_row line ≡ false → is_latch line ≡ false → Adds state next line
same_adds state next line s kind control end model row latch = record {
  typed = λ kinds controls t.
      subst (λ (l : List (List ℕ)). TypedIs next.typed (kinds ++ l) (controls ++ control_of (latch_words line))) (sym kind)
      (subst (λ (l : List (List ℕ)). TypedIs next.typed (kinds ++ []) (controls ++ l)) (sym control)
      (subst (λ (l : List (List ℕ)). TypedIs next.typed l (controls ++ [])) (sym (append-nil kinds))
      (subst (λ (l : List (List ℕ)). TypedIs next.typed kinds l) (sym (append-nil controls))
      (subst (λ (o : Option LatchKind). TypedIs o kinds controls) (sym s.typed) t))));
  ended = s.ended ∙ sym (or-false state.ended) ∙ ap (λ b. state.ended || b) (sym end);
  model = s.model ∙ sym (or-false state.modelled) ∙ ap (λ b. state.modelled || b) (sym model);
  size = let h = ap {B = ℕ} (λ b. cond b (row_size line) 0) row in omega (arith, s.size, h);
  latches = let h = ap {B = ℕ} (λ b. cond b 1 0) latch in omega (arith, s.latches, h);
}

-- ending the rows of the last equation leaves all that
open_latches : (machine : PlainMachine) (unended : Option OpenEquation) → length (with_open unended machine).latches ≡ length machine.latches
open_latches machine None = refl
open_latches machine (Some unended) = refl

open_inputs : (machine : PlainMachine) (unended : Option OpenEquation) → length (with_open unended machine).inputs ≡ length machine.inputs
open_inputs machine None = refl
open_inputs machine (Some unended) = refl

open_outputs : (machine : PlainMachine) (unended : Option OpenEquation) → length (with_open unended machine).outputs ≡ length machine.outputs
open_outputs machine None = refl
open_outputs machine (Some unended) = refl

pub closed_told : (lines : List (List (List ℕ))) (state : BlifState) → HasTold lines state → HasTold lines (closed state)
closed_told lines state h = record {
  nets = h.nets;
  inputs = open_inputs state.machine state.unended ∙ h.inputs;
  outputs = open_outputs state.machine state.unended ∙ h.outputs;
  clock = h.clock;
  begun = h.begun;
}

pub closed_kept : (lines : List (List (List ℕ))) (state : BlifState) → HasKept lines state → HasKept lines (closed state)
closed_kept lines state h =
    record { typed = h.typed; ended = h.ended; model = h.model; size = h.size; latches = open_latches state.machine state.unended ∙ h.latches }

pub closed_adds : (state next : BlifState) (line : List (List ℕ)) → Adds (closed state) next line → Adds state next line
closed_adds state next line a = record {
  typed = a.typed;
  ended = a.ended;
  model = a.model;
  size = a.size;
  latches = let h = open_latches state.machine state.unended in omega (arith, a.latches, h);
}
