-- For callers: a function tells one list of delays.
use Rattle.std.proofs.Common.{◌≡◌, ℕ, refl}
use Rattle.timed_world.specs.declared.kinds.Kind.{Kind}
use Rattle.timed_world.specs.declared.kinds.Kind.TheVariants.{La, Fa, Split, Droc}
use Rattle.timed_world.specs.Delays.{PlainDelays, HasOneAnswer, AreGiven, delays_of}

pub same_delays : (gives : Kind → ℕ → Type 0) → HasOneAnswer gives → (one other : PlainDelays) → AreGiven gives one → AreGiven gives other → one ≡ other
same_delays gives same one other a b =
    parts one.la other.la one.fa other.fa one.split other.split one.droc other.droc (same La one.la other.la (a La) (b La)) (same Fa one.fa other.fa (a Fa) (b Fa))
    (same Split one.split other.split (a Split) (b Split)) (same Droc one.droc other.droc (a Droc) (b Droc))
  where
    parts : (a b c d e f g h : ℕ) → a ≡ b → c ≡ d → e ≡ f → g ≡ h → delays_of a c e g ≡ delays_of b d f h
    parts a b c d e f g h i j k l = rw (i, j, k, l) refl
