-- Lines that are refused as their words tell, one after the other.
use Rattle.std.proofs.Common.{◌≡◌, ℕ, List, [], ◌∷◌, ◌++◌, length, Option, Some, None, Result, Ok, Err, refl, sym, ap, subst, ◌∙◌, append_assoc}
use Rattle.std.specs.Prelude.{option_map}
use Rattle.std.specs.Option.{option_or}
use Rattle.std.specs.List.{flat_map}
use Rattle.std.proofs.lemmas.List.{append-nil, map-append, length-map}
use Rattle.word_scan.specs.Logical.{LogicalLine, dark_words}
use Rattle.source_machine.specs.declared.unset.Unset.{Unset}
use Rattle.blif_reader.specs.declared.refusals.BlifRefusal.{BlifRefusal}
use Rattle.blif_reader.specs.declared.refusals.LineRefusal.{LineRefusal}
use Rattle.blif_reader.specs.States.{BlifState, nothing_read}
use Rattle.blif_reader.specs.Statements.{text_line_read}
use Rattle.blif_reader.specs.Sources.{shown_as, refusal_at, refusal_of, lines_read}
use Rattle.blif_reader.specs.Tellings.{names_in, input_words, output_words, net_of, literal_told, words_of}
use Rattle.blif_reader.specs.LineRefusals.{line_refused, open_names}
use Rattle.blif_reader.specs.ToldVerdicts.{first_refusal}
use Rattle.blif_reader.specs.Laws.{AreAccepted}
use Rattle.blif_reader.proofs.Taking.{read_joined, read_refused}
use Rattle.blif_reader.proofs.Checking.{Meets}
use Rattle.blif_reader.proofs.FirstNames.{joined_firsts, extends_same}
use Rattle.blif_reader.proofs.SourceTellings.{lines_tell}
use Rattle.blif_reader.proofs.TiedStates.{HasTold, HasKept, OpenIs, kept_on}
use Rattle.blif_reader.proofs.OpenLines.{strange_words}
use Rattle.blif_reader.proofs.TextChecks.{Left, text_meets}

module _ (unset : Unset) where
  -- nets, ports and clock of a state that lines lead to
  pub has_told : (lines : List LogicalLine) (state : BlifState) → lines_read unset (Ok nothing_read) lines ≡ Ok state → HasTold (words_of lines) state
  has_told lines state h =
      let all : List (List (List ℕ)) = words_of lines in
      let t = lines_tell unset lines nothing_read state h in
      record {
        nets = t.tells.nets ∙ joined_firsts (flat_map names_in all);
        inputs = ap length (t.tells.inputs state.nets (extends_same state.nets)) ∙ length-map (flat_map input_words all) (net_of state.nets);
        outputs = ap length (t.tells.outputs state.nets (extends_same state.nets)) ∙ length-map (flat_map output_words all) (literal_told state.nets);
        clock = t.tells.clock;
        begun = t.modelled;
      }

  -- what else the fold keeps
  pub record IsTied (lines : List (List (List ℕ))) (state : BlifState) : Type 0 where
    pub kept : HasKept lines state
    pub open_is : OpenIs state.unended (open_names lines)

  pub nothing_tied : IsTied [] nothing_read
  nothing_tied = record { kept = record { typed = (refl, refl); ended = refl; model = refl; size = refl; latches = refl }; open_is = tt }

  -- a refusal is the first one that words tell, and where none is told, the state is tied to the words of all lines
  abbrev pub Follows : Result BlifState BlifRefusal → Option BlifRefusal → List (List (List ℕ)) → Type 0
  Follows (Ok next) shown lines = (shown ≡ None) × IsTied lines next
  Follows (Err refusal) shown lines = shown ≡ Some refusal

  words_on : (before : List LogicalLine) (line : LogicalLine) → words_of (before ++ line ∷ []) ≡ words_of before ++ dark_words line.text ∷ []
  words_on before line = map-append (λ (l : LogicalLine). dark_words l.text) before (line ∷ [])

  module _ (before lines : List LogicalLine) (line : LogicalLine) (state : BlifState) (rest : Option BlifRefusal) (all : List (List (List ℕ)))
      (told : HasTold (words_of before) state) (tied : IsTied (words_of before) state)
      (on : (middle : BlifState) → text_line_read unset state line.text ≡ Ok middle → IsTied (words_of before ++ dark_words line.text ∷ []) middle
      → Follows (lines_read unset (Ok middle) lines) rest all) where
    line_by : (result : Result BlifState LineRefusal) (shown : Option LineRefusal) → text_line_read unset state line.text ≡ result
        → Meets result shown (Left unset (words_of before) state told tied.kept tied.open_is (dark_words line.text))
        → Follows (lines_read unset (shown_as line.first result) lines) (option_or (option_map (refusal_at line.first) shown) rest) all
    line_by (Ok middle) shown e m =
        subst (λ (o : Option LineRefusal). Follows (lines_read unset (Ok middle) lines) (option_or (option_map (refusal_at line.first) o) rest) all) (sym m.0)
        (on middle e (record { kept = kept_on (words_of before) (dark_words line.text) state middle tied.kept m.1.0; open_is = m.1.1 }))
    line_by (Err refusal) shown e m =
        subst (λ (r : Result BlifState BlifRefusal). Follows r (option_or (option_map (refusal_at line.first) shown) rest) all) (sym (read_refused unset (refusal_at line.first refusal) lines))
        (ap (λ (o : Option LineRefusal). option_or (option_map (refusal_at line.first) o) rest) m)

    line_follows : Follows (lines_read unset (shown_as line.first (text_line_read unset state line.text)) lines)
        (option_or (option_map (refusal_at line.first) (line_refused unset (words_of before) (dark_words line.text))) rest) all
    line_follows =
        line_by (text_line_read unset state line.text) (line_refused unset (words_of before) (dark_words line.text)) refl
        (text_meets unset (words_of before) state told tied.kept tied.open_is line.text (dark_words line.text) (strange_words line.text))

  pub lines_follow : (lines before : List LogicalLine) (state : BlifState) → lines_read unset (Ok nothing_read) before ≡ Ok state → IsTied (words_of before) state
      → Follows (lines_read unset (Ok state) lines) (first_refusal unset (words_of before) lines) (words_of (before ++ lines))
  lines_follow [] before state h tied = (refl, subst (λ (l : List LogicalLine). IsTied (words_of l) state) (sym (append-nil before)) tied)
  lines_follow (line ∷ lines) before state h tied =
      line_follows before lines line state (first_refusal unset (words_of before ++ dark_words line.text ∷ []) lines) (words_of (before ++ (line ∷ lines))) (has_told before state h) tied
      (λ middle e t.
      subst (λ (l : List LogicalLine). Follows (lines_read unset (Ok middle) lines) (first_refusal unset (words_of before ++ dark_words line.text ∷ []) lines) (words_of l))
      (append_assoc before (line ∷ []) lines)
      (subst (λ (w : List (List (List ℕ))). Follows (lines_read unset (Ok middle) lines) (first_refusal unset w lines) (words_of ((before ++ line ∷ []) ++ lines))) (words_on before line)
      (lines_follow lines (before ++ line ∷ []) middle
      (read_joined unset (Ok nothing_read) before (line ∷ []) ∙ ap (λ (r : Result BlifState BlifRefusal). lines_read unset r (line ∷ [])) h ∙ ap
      (λ (r : Result BlifState LineRefusal). shown_as line.first r) e)
      (subst (λ (w : List (List (List ℕ))). IsTied w middle) (sym (words_on before line)) t))))

  pub all_follow : (lines : List LogicalLine) → Follows (lines_read unset (Ok nothing_read) lines) (first_refusal unset [] lines) (words_of lines)
  all_follow lines = lines_follow lines [] nothing_read refl nothing_tied

  -- a state that lines lead to is tied to their words
  pub is_tied : (lines : List LogicalLine) (state : BlifState) → lines_read unset (Ok nothing_read) lines ≡ Ok state → IsTied (words_of lines) state
  is_tied lines state h = (subst (λ (r : Result BlifState BlifRefusal). Follows r (first_refusal unset [] lines) (words_of lines)) h (all_follow lines)).1

  first_by : (read : Result BlifState BlifRefusal) (shown : Option BlifRefusal) (lines : List (List (List ℕ))) → Follows read shown lines → refusal_of read ≡ shown
  first_by (Ok state) shown lines f = sym f.0
  first_by (Err refusal) shown lines f = sym f

  -- the first refusal of lines
  pub first_told : (lines : List LogicalLine) → refusal_of (lines_read unset (Ok nothing_read) lines) ≡ first_refusal unset [] lines
  first_told lines = first_by (lines_read unset (Ok nothing_read) lines) (first_refusal unset [] lines) (words_of lines) (all_follow lines)

  first_joined : (lines before : List LogicalLine) (last : LogicalLine) → first_refusal unset (words_of before) lines ≡ None
      → first_refusal unset (words_of before) (lines ++ last ∷ []) ≡ option_map (refusal_at last.first) (line_refused unset (words_of (before ++ lines)) (dark_words last.text))
  first_joined [] before last h =
      or_nothing (option_map (refusal_at last.first) (line_refused unset (words_of before) (dark_words last.text)))
      ∙ ap (λ (l : List LogicalLine). option_map (refusal_at last.first) (line_refused unset (words_of l) (dark_words last.text))) (sym (append-nil before))
    where
      or_nothing : (o : Option BlifRefusal) → option_or o None ≡ o
      or_nothing None = refl
      or_nothing (Some refusal) = refl
  first_joined (line ∷ lines) before last h =
      let here : Option BlifRefusal = option_map (refusal_at line.first) (line_refused unset (words_of before) (dark_words line.text)) in
      let both = neither here (first_refusal unset (words_of before ++ dark_words line.text ∷ []) lines) h in
      ap (λ (o : Option BlifRefusal). option_or o (first_refusal unset (words_of before ++ dark_words line.text ∷ []) (lines ++ last ∷ []))) both.0
      ∙ ap (λ (w : List (List (List ℕ))). first_refusal unset w (lines ++ last ∷ [])) (sym (words_on before line))
      ∙ first_joined lines (before ++ line ∷ []) last (ap (λ (w : List (List (List ℕ))). first_refusal unset w lines) (words_on before line) ∙ both.1)
      ∙ ap (λ (l : List LogicalLine). option_map (refusal_at last.first) (line_refused unset (words_of l) (dark_words last.text))) (append_assoc before (line ∷ []) lines)
    where
      neither : (a b : Option BlifRefusal) → option_or a b ≡ None → (a ≡ None) × (b ≡ None)
      neither None b e = (refl, e)
      neither (Some refusal) b e = absurd cc

  -- the refusal of a line after accepted ones
  pub line_told : (lines : List LogicalLine) (line : LogicalLine) → AreAccepted unset lines
      → refusal_of (lines_read unset (Ok nothing_read) (lines ++ line ∷ [])) ≡ option_map (refusal_at line.first) (line_refused unset (words_of lines) (dark_words line.text))
  line_told lines line h = first_told (lines ++ line ∷ []) ∙ first_joined lines [] line (sym (first_told lines) ∙ h)
