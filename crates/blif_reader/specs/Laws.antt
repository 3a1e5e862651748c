-- What holds of all sources.
use Rattle.std.specs.Prelude.{◌≡◌, ⊤, ◌++◌, ◌∷◌, [], ℕ, List, Some, None, Ok, Err, option_map}
use Rattle.std.specs.List.{flat_map, list_any}
use Rattle.word_scan.specs.Logical.{LogicalLine, dark_words}
use Rattle.source_machine.specs.declared.unset.Unset.{Unset}
use Rattle.blif_reader.specs.declared.refusals.BlifRefusal.{BlifRefusal}
use Rattle.blif_reader.specs.declared.refusals.BlifRefusal.TheVariants as refusals
use Rattle.blif_reader.specs.States.{BlifState, nothing_read, closed}
use Rattle.blif_reader.specs.Sources.{PlainSource, source_of, all_logical_lines, refusal_at, line_read, lines_read, refusal_of, early, source_read, judgement}
use Rattle.blif_reader.specs.LineRefusals.{is_end, size_told, line_refused}
use Rattle.blif_reader.specs.ToldVerdicts.{first_refusal, early_told, whole_refused, judgement_told}
use Rattle.blif_reader.specs.Tellings.{clock_words, nets_told, clock_told, has_words, AllRowsAgree, source_told, words_of}

-- what the first bytes of a text show stays shown, and is its verdict
pub record EarlyStands : Type 0 where
  pub shown : (unset : Unset) (text more : List ℕ) (refusal : BlifRefusal) → early unset text ≡ Some refusal → early unset (text ++ more) ≡ Some refusal
  pub judged : (unset : Unset) (text more : List ℕ) (refusal : BlifRefusal) → early unset text ≡ Some refusal → judgement unset (text ++ more) ≡ Err refusal

-- what was built of lines is what their words tell
pub record IsTold (unset : Unset) (lines : List (List (List ℕ))) (state : BlifState) : Type 0 where
  pub nets : state.nets ≡ nets_told lines
  pub source : source_of (closed state) ≡ source_told unset lines
  pub rows : AllRowsAgree lines
  pub clock : state.clock ≡ clock_told lines
  pub clocked : state.clocked ≡ has_words (flat_map clock_words lines)
  pub modelled : state.modelled ≡ list_any (λ line. has_words line) lines
  pub ended : state.ended ≡ list_any is_end lines
  pub size : state.size ≡ size_told lines

-- the refusal is that of a line before which none is refused
pub record FirstRefused (unset : Unset) (start : BlifState) (lines : List LogicalLine) (refusal : BlifRefusal) : Type 0 where
  pub before : List LogicalLine
  pub line : LogicalLine
  pub after : List LogicalLine
  pub state : BlifState
  pub lines_are : lines ≡ before ++ line ∷ after
  pub reads : lines_read unset (Ok start) before ≡ Ok state
  pub refuses : line_read unset state line ≡ Err refusal

-- a refusal that the bytes give: a fault or a limit
abbrev pub IsOfBytes : BlifRefusal → Type 0
IsOfBytes refusals.NoMemory = ⊥
IsOfBytes refusal = ⊤

-- what lines build is what their words tell, the first one that is refused refuses them, and a source is judged to be
-- what its lines tell
pub record SourcesAreTold : Type 0 where
  pub told : (unset : Unset) (lines : List LogicalLine) (state : BlifState) → lines_read unset (Ok nothing_read) lines ≡ Ok state → IsTold unset (words_of lines) state
  pub refused : (unset : Unset) (lines : List LogicalLine) (refusal : BlifRefusal) → lines_read unset (Ok nothing_read) lines ≡ Err refusal → FirstRefused unset nothing_read lines refusal
  pub judged : (unset : Unset) (text : List ℕ) (source : PlainSource) → judgement unset text ≡ Ok source → source ≡ source_told unset (words_of (all_logical_lines text))
  pub of_bytes : (unset : Unset) (text : List ℕ) (refusal : BlifRefusal) → judgement unset text ≡ Err refusal → IsOfBytes refusal

-- none of the lines is refused
abbrev pub AreAccepted : Unset → List LogicalLine → Type 0
AreAccepted unset lines = refusal_of (lines_read unset (Ok nothing_read) lines) ≡ None

-- a line after accepted ones is refused as their words and its own tell, and so all that is shown of lines and of the
-- first bytes of a text
pub record RefusalsAreTold : Type 0 where
  pub line : (unset : Unset) (lines : List LogicalLine) (line : LogicalLine) → AreAccepted unset lines
      → refusal_of (lines_read unset (Ok nothing_read) (lines ++ line ∷ [])) ≡ option_map (refusal_at line.first) (line_refused unset (words_of lines) (dark_words line.text))
  pub first : (unset : Unset) (lines : List LogicalLine) → refusal_of (lines_read unset (Ok nothing_read) lines) ≡ first_refusal unset [] lines
  pub early : (unset : Unset) (text : List ℕ) → early unset text ≡ early_told unset text

-- the whole of accepted lines is refused as their words tell, and so all that a text is judged to be
pub record VerdictsAreTold : Type 0 where
  pub whole : (unset : Unset) (lines : List LogicalLine) → AreAccepted unset lines
      → refusal_of (source_read (lines_read unset (Ok nothing_read) lines)) ≡ whole_refused (words_of lines)
  pub judged : (unset : Unset) (text : List ℕ) → judgement unset text ≡ judgement_told unset text
