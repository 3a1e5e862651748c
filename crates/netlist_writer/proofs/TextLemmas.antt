-- A line and a netlist's text as the pieces that are written.
use Rattle.std.proofs.Common.{map, codes, decimal, ◌∷◌, append_assoc, append-nil, ◌≡◌, ℕ, List, [], ◌++◌, ap, sym, refl, ◌∙◌}
use Rattle.std.specs.List.{flat_map}
use Rattle.netlist_writer.specs.Texts.{word_text, spaced, rail_line, cell_line, state_line, name_line, head_text, circuit_text, later_text}
use Rattle.netlist_writer.specs.declared.words.Word.{Word}
use Rattle.cell_netlist.specs.Text.{line_of, version_word, text_of}
use Rattle.cell_netlist.specs.Netlists.{PlainNetlist}
use Rattle.cell_netlist.proofs.CallerLemmas.{text_spread}

-- a line as its first word, the others behind spaces, and LF
pub line_in_pieces : (first : List ℕ) (words : List Word) → line_of (first ∷ map word_text words) ≡ first ++ (flat_map spaced words ++ 10 ∷ [])
line_in_pieces first [] = refl
line_in_pieces first (word ∷ words) =
    ap (λ rest. first ++ 32 ∷ rest) (line_in_pieces (word_text word) words ∙ sym (append_assoc (word_text word) (flat_map spaced words) (10 ∷ [])))

-- the text of a netlist in four pieces
pub text_in_pieces : (net : PlainNetlist) → text_of net ≡ head_text net ++ (circuit_text net ++ (later_text net ++ codes "end\n"))
text_in_pieces net =
    sym (append-nil (text_of net)) ∙ text_spread net []
    ∙ regroup (line_of (codes "xsfq" ∷ version_word net.version ∷ [])) (line_of (codes "ports" ∷ decimal net.inputs ∷ decimal net.outputs ∷ []))
    (flat_map (rail_line (codes "input")) net.input_rails) (flat_map cell_line net.cells) (flat_map (rail_line (codes "output")) net.output_rails)
    (flat_map state_line net.states) (flat_map (name_line (codes "iname")) net.input_names) (flat_map (name_line (codes "oname")) net.output_names) (codes "end\n")
  where
    regroup : (first second inputs cells outputs states input_names output_names end : List ℕ)
        → first ++ (second ++ (inputs ++ (cells ++ (outputs ++ (states ++ (input_names ++ (output_names ++ (end ++ []))))))))
        ≡ (first ++ second) ++ ((inputs ++ (cells ++ outputs)) ++ ((states ++ (input_names ++ output_names)) ++ end))
    regroup first second inputs cells outputs states input_names output_names end = simp (append_assoc, append-nil)
