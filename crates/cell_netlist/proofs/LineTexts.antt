-- The text of a line tells the line and where it ends.
use Rattle.std.proofs.Common.{◌≡◌, ◌<◌, ◌≤◌, ◌+◌, ◌^◌, ◌%◌, ℕ, Bool, true, false, Option, Some, None, List, [], ◌∷◌, ◌++◌, codes, decimal, append_assoc, ap, sym, ◌∙◌, subst, inl, inr, arith, refl}
use Rattle.std.proofs.lemmas.Bool.{true≢false}
use Rattle.std.proofs.lemmas.Fmt.{decimal_injective, decimal_by_steps}
use Rattle.pulse_ids.specs.Ids.{WireId, numbered}
use Rattle.pulse_ids.specs.declared.literals.Sign.{Sign}
use Rattle.pulse_ids.specs.declared.literals.Sign.TheVariants.{Pos, Neg}
use Rattle.cell_netlist.specs.declared.kinds.Role.{Role}
use Rattle.cell_netlist.specs.declared.kinds.Role.TheVariants.{Front, Back, Const}
use Rattle.cell_netlist.specs.declared.kinds.Version.{Version}
use Rattle.cell_netlist.specs.declared.kinds.Version.TheVariants.{One, Two}
use Rattle.cell_netlist.specs.declared.lines.Rail.{Rail}
use Rattle.cell_netlist.specs.declared.lines.StateLine.{StateLine}
use Rattle.cell_netlist.specs.declared.lines.Cell.{Cell}
use Rattle.cell_netlist.specs.declared.lines.Cell.TheVariants.{La, Fa, Split, Droc}
use Rattle.pulse_ids.specs.Lists.{IsIn}
use Rattle.cell_netlist.specs.Netlists.{wire_of, used, outs, reads}
use Rattle.cell_netlist.specs.Text.{line_of, sign_word, role_word, bit_word, output_word, version_word, rail_words, cell_words, state_words, name_words}
use Rattle.cell_netlist.specs.Decisions.{has}
use Rattle.pulse_ids.proofs.CallerLemmas.{IsIn-append, IsIn-left, IsIn-right}
use Rattle.cell_netlist.proofs.ListLemmas.{has-from}
use Rattle.cell_netlist.proofs.StateLemmas.{StateFits}

-- a byte stands nowhere in a word
abbrev pub Without : ℕ → List ℕ → Type 0
Without t w = (b : ℕ) → IsIn b w → b ≡ t → ⊥

pub without : (t : ℕ) (w : List ℕ) → has t w ≡ false → Without t w
without t w e b h same = true≢false (sym (has-from t w (subst (λ x. IsIn x w) same h)) ∙ e)

-- two words that end at the first byte of this value
pub until : (t : ℕ) (w v a b : List ℕ) → Without t w → Without t v → w ++ t ∷ a ≡ v ++ t ∷ b → (w ≡ v) × (a ≡ b)
until t [] [] a b f g e = (refl, cc)
until t [] (y ∷ v) a b f g e = absurd (g y (inl refl) cc)
until t (x ∷ w) [] a b f g e = absurd (f x (inl refl) cc)
until t (x ∷ w) (y ∷ v) a b f g e =
    let rest : w ++ t ∷ a ≡ v ++ t ∷ b = cc in
    let r = until t w v a b (λ c h. f c (inr h)) (λ c h. g c (inr h)) rest in
    let here : x ≡ y = cc in
    (rw (here, r.0) refl, r.1)

pub field : (t : ℕ) (w v a b xs ys : List ℕ) → Without t w → Without t v → (w ++ t ∷ a) ++ xs ≡ (v ++ t ∷ b) ++ ys → (w ≡ v) × (a ++ xs ≡ b ++ ys)
field t w v a b xs ys f g e = until t w v (a ++ xs) (b ++ ys) f g (sym (append_assoc w (t ∷ a) xs) ∙ e ∙ append_assoc v (t ∷ b) ys)

-- the bytes of a decimal
pub digits-of : (n : ℕ) → n < 2 ^ 64 → (b : ℕ) → IsIn b (decimal n) → 48 ≤ b
digits-of n lt = decimal_by_steps (λ n ds. (b : ℕ) → IsIn b ds → 48 ≤ b)
    (λ n small b h. elim h [ inl e ↦ omega arith | inr none ↦ absurd none ])
    (λ n ds big so_far b h. elim (IsIn-append b ds ((48 + n % 10) ∷ []) h) [
      | inl front ↦ so_far b front
      | inr last ↦ elim last [ inl e ↦ omega arith | inr none ↦ absurd none ]
    ]) n lt

pub number : (t : ℕ) → t < 48 → (m n : ℕ) → m < 2 ^ 32 → n < 2 ^ 32 → (a b xs ys : List ℕ)
    → (decimal m ++ t ∷ a) ++ xs ≡ (decimal n ++ t ∷ b) ++ ys → (m ≡ n) × (a ++ xs ≡ b ++ ys)
number t small m n m_fits n_fits a b xs ys e =
    let r = field t (decimal m) (decimal n) a b xs ys
    (λ c h same. let d = digits-of m (omega arith) c h in omega arith)
    (λ c h same. let d = digits-of n (omega arith) c h in omega arith) e in
    (decimal_injective m n (omega arith) (omega arith) r.0, r.1)

-- two identifiers with one number
pub same_id : (a b : WireId) → a.number ≡ b.number → a ≡ b
same_id a b e = ap (λ n. numbered n) e

abbrev pub first_byte : List ℕ → ℕ
first_byte [] = 0
first_byte (b ∷ w) = b

pub same_sign : (s t : Sign) → sign_word s ≡ sign_word t → s ≡ t
same_sign Pos Pos e = refl
same_sign Pos Neg e = absurd (omega (arith, ap first_byte e))
same_sign Neg Pos e = absurd (omega (arith, ap first_byte e))
same_sign Neg Neg e = refl

pub sign-word : (t : ℕ) (s : Sign) → t < 48 → Without t (sign_word s)
sign-word t Pos lt b (inl e) same = omega arith
sign-word t Pos lt b (inr none) same = none
sign-word t Neg lt b (inl e) same = omega arith
sign-word t Neg lt b (inr none) same = none

pub same_version : (v w : Version) → version_word v ≡ version_word w → v ≡ w
same_version One One e = refl
same_version One Two e = absurd (omega (arith, ap first_byte e))
same_version Two One e = absurd (omega (arith, ap first_byte e))
same_version Two Two e = refl

pub version-word : (t : ℕ) (v : Version) → t < 48 → Without t (version_word v)
version-word t One lt b (inl e) same = omega arith
version-word t One lt b (inr none) same = none
version-word t Two lt b (inl e) same = omega arith
version-word t Two lt b (inr none) same = none

pub same_role : (r s : Role) → role_word r ≡ role_word s → r ≡ s
same_role Front Front e = refl
same_role Front Back e = absurd (omega (arith, ap first_byte e))
same_role Front Const e = absurd (omega (arith, ap first_byte e))
same_role Back Front e = absurd (omega (arith, ap first_byte e))
same_role Back Back e = refl
same_role Back Const e = absurd (omega (arith, ap first_byte e))
same_role Const Front e = absurd (omega (arith, ap first_byte e))
same_role Const Back e = absurd (omega (arith, ap first_byte e))
same_role Const Const e = refl

pub role-word : (t : ℕ) (r : Role) → t < 48 → Without t (role_word r)
role-word t Front lt b (inl e) same = omega arith
role-word t Front lt b (inr none) same = none
role-word t Back lt b (inl e) same = omega arith
role-word t Back lt b (inr none) same = none
role-word t Const lt b (inl e) same = omega arith
role-word t Const lt b (inr none) same = none

pub same_bit : (p q : Bool) → bit_word p ≡ bit_word q → p ≡ q
same_bit false false e = refl
same_bit false true e = absurd (omega (arith, ap first_byte e))
same_bit true false e = absurd (omega (arith, ap first_byte e))
same_bit true true e = refl

pub bit-word : (t : ℕ) (p : Bool) → t < 48 → Without t (bit_word p)
bit-word t false lt b (inl e) same = omega arith
bit-word t false lt b (inr none) same = none
bit-word t true lt b (inl e) same = omega arith
bit-word t true lt b (inr none) same = none

-- an output that may be unused
pub dash_no_digit : (n : ℕ) → n < 2 ^ 32 → codes "-" ≡ decimal n → ⊥
dash_no_digit n fits e = let d = digits-of n (omega arith) 45 (subst (λ w. IsIn {X = ℕ} 45 w) e (inl refl)) in omega arith

pub same_output : (p q : Option WireId) → ((w : ℕ) → IsIn w (used p) → w < 2 ^ 32) → ((w : ℕ) → IsIn w (used q) → w < 2 ^ 32) → output_word p ≡ output_word q → p ≡ q
same_output None None f g e = refl
same_output None (Some b) f g e = absurd (dash_no_digit b.number (g b.number (inl refl)) e)
same_output (Some a) None f g e = absurd (dash_no_digit a.number (f a.number (inl refl)) (sym e))
same_output (Some a) (Some b) f g e =
    let a_fits = f a.number (inl refl) in
    let b_fits = g b.number (inl refl) in
    ap (λ x. Some x) (same_id a b (decimal_injective a.number b.number (omega arith) (omega arith) e))

pub output-word : (t : ℕ) → t < 45 → (o : Option WireId) → ((w : ℕ) → IsIn w (used o) → w < 2 ^ 32) → Without t (output_word o)
output-word t lt None f b (inl e) same = omega arith
output-word t lt None f b (inr none) same = none
output-word t lt (Some a) f b h same = let fits = f a.number (inl refl) in let d = digits-of a.number (omega arith) b h in omega arith

-- numbers of 32 bits
pub record RailFits (rail : Rail) : Type 0 where
  pub port : rail.port < 2 ^ 32
  pub wire : wire_of rail < 2 ^ 32

pub record CellFits (cell : Cell) : Type 0 where
  pub out : (w : ℕ) → IsIn w (outs cell) → w < 2 ^ 32
  pub ins : (w : ℕ) → IsIn w (reads cell) → w < 2 ^ 32

pub record NameFits (named : ℕ × List ℕ) : Type 0 where
  pub port : named.0 < 2 ^ 32
  pub name : Without 10 named.1

-- one line tells its item and where it ends
pub rail_code : (side : List ℕ) → Without 32 side → (r s : Rail) (xs ys : List ℕ) → RailFits r → RailFits s
    → line_of (rail_words side r) ++ xs ≡ line_of (rail_words side s) ++ ys → (r ≡ s) × (xs ≡ ys)
rail_code side plain r s xs ys f g e =
    let e1 = field 32 side side _ _ xs ys plain plain e in
    let e2 = number 32 (omega arith) r.port s.port f.port g.port _ _ xs ys e1.1 in
    let e3 = field 32 (sign_word r.sign) (sign_word s.sign) _ _ xs ys (sign-word 32 r.sign (omega arith)) (sign-word 32 s.sign (omega arith)) e2.1 in
    let e4 = number 10 (omega arith) r.wire.number s.wire.number f.wire g.wire [] [] xs ys e3.1 in
    let sign = same_sign r.sign s.sign e3.0 in
    let wire = same_id r.wire s.wire e4.0 in
    (ap (λ x. record r { port = x }) e2.0 ∙ ap (λ x. record r { port = s.port; sign = x }) sign ∙ ap (λ x. record s { wire = x }) wire, e4.1)

pub cell_code : (c d : Cell) (xs ys : List ℕ) → CellFits c → CellFits d → line_of (cell_words c) ++ xs ≡ line_of (cell_words d) ++ ys → (c ≡ d) × (xs ≡ ys)
cell_code (La a b out) (La c d o) xs ys f g e =
    let e1 = field 32 (codes "la") (codes "la") _ _ xs ys (without 32 (codes "la") refl) (without 32 (codes "la") refl) e in
    let e2 = number 32 (omega arith) a.number c.number (f.ins a.number (inl refl)) (g.ins c.number (inl refl)) _ _ xs ys e1.1 in
    let e3 = number 32 (omega arith) b.number d.number (f.ins b.number (inr (inl refl))) (g.ins d.number (inr (inl refl))) _ _ xs ys e2.1 in
    let e4 = number 10 (omega arith) out.number o.number (f.out out.number (inl refl)) (g.out o.number (inl refl)) [] [] xs ys e3.1 in
    (ap (λ x. La x b out) (same_id a c e2.0) ∙ ap (λ x. La c x out) (same_id b d e3.0) ∙ ap (λ x. La c d x) (same_id out o e4.0), e4.1)
cell_code (La a b out) (Fa c d o) xs ys f g e = absurd (omega (arith, ap first_byte e))
cell_code (La a b out) (Split c d o) xs ys f g e = absurd (omega (arith, ap first_byte e))
cell_code (La a b out) (Droc its_role its_preload its_feed its_q its_n) xs ys f g e = absurd (omega (arith, ap first_byte e))
cell_code (Fa a b out) (La c d o) xs ys f g e = absurd (omega (arith, ap first_byte e))
cell_code (Fa a b out) (Fa c d o) xs ys f g e =
    let e1 = field 32 (codes "fa") (codes "fa") _ _ xs ys (without 32 (codes "fa") refl) (without 32 (codes "fa") refl) e in
    let e2 = number 32 (omega arith) a.number c.number (f.ins a.number (inl refl)) (g.ins c.number (inl refl)) _ _ xs ys e1.1 in
    let e3 = number 32 (omega arith) b.number d.number (f.ins b.number (inr (inl refl))) (g.ins d.number (inr (inl refl))) _ _ xs ys e2.1 in
    let e4 = number 10 (omega arith) out.number o.number (f.out out.number (inl refl)) (g.out o.number (inl refl)) [] [] xs ys e3.1 in
    (ap (λ x. Fa x b out) (same_id a c e2.0) ∙ ap (λ x. Fa c x out) (same_id b d e3.0) ∙ ap (λ x. Fa c d x) (same_id out o e4.0), e4.1)
cell_code (Fa a b out) (Split c d o) xs ys f g e = absurd (omega (arith, ap first_byte e))
cell_code (Fa a b out) (Droc its_role its_preload its_feed its_q its_n) xs ys f g e = absurd (omega (arith, ap first_byte e))
cell_code (Split from left right) (La c d o) xs ys f g e = absurd (omega (arith, ap first_byte e))
cell_code (Split from left right) (Fa c d o) xs ys f g e = absurd (omega (arith, ap first_byte e))
cell_code (Split from left right) (Split c d o) xs ys f g e =
    let e1 = field 32 (codes "split") (codes "split") _ _ xs ys (without 32 (codes "split") refl) (without 32 (codes "split") refl) e in
    let e2 = number 32 (omega arith) from.number c.number (f.ins from.number (inl refl)) (g.ins c.number (inl refl)) _ _ xs ys e1.1 in
    let e3 = number 32 (omega arith) left.number d.number (f.out left.number (inl refl)) (g.out d.number (inl refl)) _ _ xs ys e2.1 in
    let e4 = number 10 (omega arith) right.number o.number (f.out right.number (inr (inl refl))) (g.out o.number (inr (inl refl))) [] [] xs ys e3.1 in
    (ap (λ x. Split x left right) (same_id from c e2.0) ∙ ap (λ x. Split c x right) (same_id left d e3.0) ∙ ap (λ x. Split c d x) (same_id right o e4.0), e4.1)
cell_code (Split from left right) (Droc its_role its_preload its_feed its_q its_n) xs ys f g e = absurd (omega (arith, ap first_byte e))
cell_code (Droc role preload feed q n) (La c d o) xs ys f g e = absurd (omega (arith, ap first_byte e))
cell_code (Droc role preload feed q n) (Fa c d o) xs ys f g e = absurd (omega (arith, ap first_byte e))
cell_code (Droc role preload feed q n) (Split c d o) xs ys f g e = absurd (omega (arith, ap first_byte e))
cell_code (Droc role preload feed q n) (Droc its_role its_preload its_feed its_q its_n) xs ys f g e =
    let e1 = field 32 (codes "droc") (codes "droc") _ _ xs ys (without 32 (codes "droc") refl) (without 32 (codes "droc") refl) e in
    let e2 = field 32 (role_word role) (role_word its_role) _ _ xs ys (role-word 32 role (omega arith)) (role-word 32 its_role (omega arith)) e1.1 in
    let e3 = field 32 (bit_word preload) (bit_word its_preload) _ _ xs ys (bit-word 32 preload (omega arith)) (bit-word 32 its_preload (omega arith)) e2.1 in
    let e4 = number 32 (omega arith) feed.number its_feed.number (f.ins feed.number (inl refl)) (g.ins its_feed.number (inl refl)) _ _ xs ys e3.1 in
    let q_fits = λ (w : ℕ) (h : IsIn w (used q)). f.out w (IsIn-left w (used q) (used n) h) in
    let n_fits = λ (w : ℕ) (h : IsIn w (used n)). f.out w (IsIn-right w (used q) (used n) h) in
    let its_q_fits = λ (w : ℕ) (h : IsIn w (used its_q)). g.out w (IsIn-left w (used its_q) (used its_n) h) in
    let its_n_fits = λ (w : ℕ) (h : IsIn w (used its_n)). g.out w (IsIn-right w (used its_q) (used its_n) h) in
    let e5 = field 32 (output_word q) (output_word its_q) _ _ xs ys (output-word 32 (omega arith) q q_fits) (output-word 32 (omega arith) its_q its_q_fits) e4.1 in
    let e6 = field 10 (output_word n) (output_word its_n) [] [] xs ys (output-word 10 (omega arith) n n_fits) (output-word 10 (omega arith) its_n its_n_fits) e5.1 in (
      ap (λ x. Droc x preload feed q n) (same_role role its_role e2.0)
          ∙ ap (λ x. Droc its_role x feed q n) (same_bit preload its_preload e3.0)
          ∙ ap (λ x. Droc its_role its_preload x q n) (same_id feed its_feed e4.0)
          ∙ ap (λ x. Droc its_role its_preload its_feed x n) (same_output q its_q q_fits its_q_fits e5.0)
          ∙ ap (λ x. Droc its_role its_preload its_feed its_q x) (same_output n its_n n_fits its_n_fits e6.0),
      e6.1,
    )

pub state_code : (r s : StateLine) (xs ys : List ℕ) → StateFits r → StateFits s → line_of (state_words r) ++ xs ≡ line_of (state_words s) ++ ys → (r ≡ s) × (xs ≡ ys)
state_code r s xs ys f g e =
    let e1 = field 32 (codes "state") (codes "state") _ _ xs ys (without 32 (codes "state") refl) (without 32 (codes "state") refl) e in
    let e2 = number 32 (omega arith) r.latch s.latch f.latch g.latch _ _ xs ys e1.1 in
    let e3 = number 10 (omega arith) r.cell.number s.cell.number f.cell g.cell [] [] xs ys e2.1 in
    (ap (λ x. record r { latch = x }) e2.0 ∙ ap (λ n. record s { cell = numbered n }) e3.0, e3.1)

pub name_code : (side : List ℕ) → Without 32 side → (r s : ℕ × List ℕ) (xs ys : List ℕ) → NameFits r → NameFits s
    → line_of (name_words side r) ++ xs ≡ line_of (name_words side s) ++ ys → (r ≡ s) × (xs ≡ ys)
name_code side plain r s xs ys f g e =
    let e1 = field 32 side side _ _ xs ys plain plain e in
    let e2 = number 32 (omega arith) r.0 s.0 f.port g.port _ _ xs ys e1.1 in
    let e3 = field 10 r.1 s.1 [] [] xs ys f.name g.name e2.1 in
    (ap (λ x. (x, r.1)) e2.0 ∙ ap (λ x. (s.0, x)) e3.0, e3.1)
