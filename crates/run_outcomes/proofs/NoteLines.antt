-- The lines of notes, by their pieces.
use Rattle.std.proofs.Common.{◌≡◌, ◌++◌, ◌∷◌, [], ℕ, List, Option, Result, codes, decimal, refl, ap, sym, subst, ◌∙◌, append_assoc, append-nil}
use Rattle.byte_ports.specs.Writing.{WritesText}
use Rattle.cell_netlist.specs.declared.kinds.Phase.{Phase}
use Rattle.schedule_replay.specs.declared.replaying.ScriptFault.{ScriptFault}
use Rattle.run_outcomes.specs.Notes.{phase_text, script_line, script_text}

-- the same text
pub same_text : {E : Type 0} (old new : Option (List ℕ)) (before now : ℕ) (result : Result Unit E) (text same : List ℕ) → text ≡ same
    → WritesText old new before now result text → WritesText old new before now result same
same_text old new before now result text same e w = subst (λ (l : List ℕ). WritesText old new before now result l) e w

-- the line of a limit
pub limit_text : {number same : ℕ} {text equal : List ℕ} → number ≡ same → text ≡ equal
    → codes "limit: more than " ++ (decimal number ++ (codes " of " ++ (text ++ 10 ∷ []))) ≡ codes "limit: more than " ++ (decimal same ++ (codes " of " ++ (equal ++ 10 ∷ [])))
limit_text {number} {same} {text} {equal} e d = rw (e, d) refl

-- a text that ends with a number
pub number_last : (before : List ℕ) (number : ℕ) → before ++ (decimal number ++ []) ≡ before ++ decimal number
number_last before number = ap (λ l. before ++ l) (append-nil (decimal number))

-- the line of a script's fault, by its pieces
four_parts : (a b c d last text : List ℕ) → a ++ (b ++ (c ++ d)) ≡ text → a ++ (b ++ (c ++ (d ++ last))) ≡ text ++ last
four_parts a b c d last text e =
    sym (
    ap (λ l. l ++ last) (sym e) ∙ append_assoc a (b ++ (c ++ d)) last
    ∙ ap (λ l. a ++ l) (append_assoc b (c ++ d) last ∙ ap (λ l. b ++ l) (append_assoc c d last))
    )

pub script_line_of : (cycle : ℕ) (phase : Phase) (fault : ScriptFault) (its a b c d : List ℕ) → its ≡ phase_text phase → a ++ (b ++ (c ++ d)) ≡ script_text fault
    → codes "script: cycle " ++ (decimal cycle ++ (its ++ (a ++ (b ++ (c ++ (d ++ 10 ∷ [])))))) ≡ script_line cycle phase fault
script_line_of cycle phase fault its a b c d e f =
    ap (λ l. codes "script: cycle " ++ (decimal cycle ++ l))
    (ap (λ l. l ++ (a ++ (b ++ (c ++ (d ++ 10 ∷ []))))) e ∙ ap (λ l. phase_text phase ++ l) (four_parts a b c d (10 ∷ []) (script_text fault) f))
