-- Reading that is refused where checks fail, one after the other.
use Rattle.std.proofs.Common.{◌≡◌, ℕ, Bool, true, false, cond, ltb, List, [], ◌∷◌, ◌++◌, Option, Some, None, Result, Ok, Err, refl, sym, ap, subst, append_assoc}
use Rattle.std.specs.Option.{option_or}
use Rattle.std.proofs.lemmas.List.{append-nil}
use Rattle.pulse_ids.specs.Quantities.{greatest_of}
use Rattle.pulse_ids.specs.declared.quantities.Quantity.{Quantity}
use Rattle.word_scan.specs.Reading.{read_on}
use Rattle.word_scan.proofs.CallerLemmasReading.{read_refused}
use Rattle.blif_reader.specs.declared.refusals.BlifCause.{BlifCause}
use Rattle.blif_reader.specs.declared.refusals.LineRefusal.{LineRefusal}
use Rattle.blif_reader.specs.declared.refusals.LineRefusal.TheVariants.{Cause, Limit}
use Rattle.blif_reader.specs.States.{BlifState}
use Rattle.blif_reader.specs.Refusing.{over}
use Rattle.blif_reader.specs.LineRefusals.{above, fails_where, each_from}

-- what is read is refused as a check shows, and where it isn't, this holds of it
abbrev pub Meets : {A : Type 0} → Result A LineRefusal → Option LineRefusal → (A → Type 0) → Type 0
Meets (Ok value) shown After = (shown ≡ None) × After value
Meets (Err refusal) shown After = shown ≡ Some refusal

module _ {A : Type 0} (After : A → Type 0) where
  refused_by : (wrong : Bool) (refusal : LineRefusal) (next : Result A LineRefusal) (rest : Option LineRefusal) → (wrong ≡ false → Meets next rest After)
      → Meets (cond wrong (Err refusal) next) (option_or (cond wrong (Some refusal) None) rest) After
  refused_by true refusal next rest f = refl
  refused_by false refusal next rest f = f refl

  pub meets_over : (quantity : Quantity) (count : ℕ) (next : Result A LineRefusal) (rest : Option LineRefusal) → Meets next rest After
      → Meets (over quantity count next) (option_or (above quantity count) rest) After
  meets_over quantity count next rest f = refused_by (ltb (greatest_of quantity) count) (Limit quantity) next rest (λ e. f)

  -- a check that is another one in the words of the reader
  pub meets_where : (wrong told : Bool) (cause : BlifCause) (next : Result A LineRefusal) (rest : Option LineRefusal) → wrong ≡ told → (wrong ≡ false → Meets next rest After)
      → Meets (cond wrong (Err (Cause cause)) next) (option_or (fails_where told cause) rest) After
  meets_where wrong told cause next rest e f =
      subst (λ b. Meets (cond wrong (Err (Cause cause)) next) (option_or (fails_where b cause) rest) After) e (refused_by wrong (Cause cause) next rest f)

  -- one of two
  pub meets_either : (b : Bool) (x y : Result A LineRefusal) (s t : Option LineRefusal) → (b ≡ true → Meets x s After) → (b ≡ false → Meets y t After)
      → Meets (cond b x y) (cond b s t) After
  meets_either true x y s t f g = f refl
  meets_either false x y s t f g = g refl

  pub meets_as : (read other : Result A LineRefusal) (shown told : Option LineRefusal) → other ≡ read → shown ≡ told → Meets other shown After → Meets read told After
  meets_as read other shown told e f m = subst (λ (o : Option LineRefusal). Meets read o After) f (subst (λ (r : Result A LineRefusal). Meets r shown After) e m)

  pub meets_on : (Then : A → Type 0) (read : Result A LineRefusal) (shown : Option LineRefusal) → Meets read shown After → ((value : A) → After value → Then value) → Meets read shown Then
  meets_on Then (Ok value) shown m f = (m.0, f value m.1)
  meets_on Then (Err refusal) shown m f = m

  -- a last check
  pub meets_last : (read : Result A LineRefusal) (shown : Option LineRefusal) → Meets read shown After → Meets read (option_or shown None) After
  meets_last (Ok value) None m = m
  meets_last (Ok value) (Some refusal) m = absurd (let k = m.0 in cc)
  meets_last (Err refusal) None m = absurd (let k : ◌≡◌ {A = Option LineRefusal} None (Some refusal) = m in cc)
  meets_last (Err refusal) (Some other) m = m

module _ (read : BlifState → List ℕ → Result BlifState LineRefusal) (refused : List (List ℕ) → List ℕ → Option LineRefusal) (Holds : List (List ℕ) → BlifState → Type 0)
    (each : (before : List (List ℕ)) (state : BlifState) (word : List ℕ) → Holds before state → Meets (read state word) (refused before word) (Holds (before ++ word ∷ []))) where
  on_word : (words : List (List ℕ)) (Then Last : BlifState → Type 0) (result : Result BlifState LineRefusal) (shown rest : Option LineRefusal) → Meets result shown Then
      → ((middle : BlifState) → Then middle → Meets (read_on read (Ok middle) words) rest Last) → Meets (read_on read result words) (option_or shown rest) Last
  on_word words Then Last (Ok middle) shown rest m f =
      subst (λ (o : Option LineRefusal). Meets (read_on read (Ok middle) words) (option_or o rest) Last) (sym m.0) (f middle m.1)
  on_word words Then Last (Err refusal) shown rest m f =
      subst (λ (r : Result BlifState LineRefusal). Meets r (option_or shown rest) Last) (sym (read_refused read refusal words)) (ap (λ (o : Option LineRefusal). option_or o rest) m)

  -- words that are read one after the other
  pub words_meet : (words before : List (List ℕ)) (state : BlifState) → Holds before state → Meets (read_on read (Ok state) words) (each_from refused before words) (Holds (before ++ words))
  words_meet [] before state h = (refl, subst (λ (l : List (List ℕ)). Holds l state) (sym (append-nil before)) h)
  words_meet (word ∷ words) before state h =
      on_word words (Holds (before ++ word ∷ [])) (Holds (before ++ (word ∷ words))) (read state word) (refused before word) (each_from refused (before ++ word ∷ []) words)
      (each before state word h) (λ middle k.
      subst (λ (l : List (List ℕ)). Meets (read_on read (Ok middle) words) (each_from refused (before ++ word ∷ []) words) (Holds l)) (append_assoc before (word ∷ []) words)
      (words_meet words (before ++ word ∷ []) middle k))
