-- Lines that are written and read back.
use Rattle.std.proofs.Common.{◌≡◌, ◌^◌, ℕ, ◌<◌, ◌≤◌, cond, Bool, false, List, [], ◌∷◌, ◌++◌, length, codes, decimal, Option, Some, None, refl, sym, ap, ◌∙◌, append_assoc, arith}
use Rattle.std.specs.Prelude.{option_map}
use Rattle.std.specs.Str.{bytes_eq}
use Rattle.pulse_ids.specs.Ids.{WireId}
use Rattle.pulse_ids.specs.Names.{IsPortName}
use Rattle.cell_netlist.specs.declared.kinds.Role.{Role}
use Rattle.cell_netlist.specs.declared.kinds.Version as kinds
use Rattle.cell_netlist.specs.declared.kinds.Version.TheVariants.{One, Two}
use Rattle.cell_netlist.specs.declared.lines.Rail.{Rail}
use Rattle.cell_netlist.specs.declared.lines.StateLine.{StateLine}
use Rattle.cell_netlist.specs.declared.lines.Cell.{Cell}
use Rattle.cell_netlist.specs.declared.lines.Cell.TheVariants.{La, Fa, Split, Droc}
use Rattle.cell_netlist.specs.Text.{line_of, sign_word, role_word, bit_word, wire_word, output_word, version_word, rail_words, cell_words, state_words, name_words}
use Rattle.word_scan.specs.Decimals.{plain_decimal_of}
use Rattle.word_scan.proofs.CallerLemmasDecimals.{IsFree, free_joined, plain_decimal_read}
use Rattle.netlist_reader.specs.declared.statements.Statement.{Statement}
use Rattle.netlist_reader.specs.declared.statements.Statement.TheVariants.{Version, Ports, Input, OneCell, Output, State, InputName, OutputName, End}
use Rattle.netlist_reader.specs.Words.{after_space, name_in, sign_of, role_of, bit_of, wire_in, output_in}
use Rattle.netlist_reader.specs.Statements.{ports_in, rail_in, state_in, named_in, three_in, droc_in, statement_by, statement_in}
use Rattle.netlist_reader.proofs.WrittenWords.{word_read, word_passed, meaning_read, sign_plain, role_plain, bit_plain, number_plain, FitsOutput, output_plain, name_free, sign_read, role_read}
use Rattle.netlist_reader.proofs.WrittenWords.{bit_read, wire_read, output_read}

-- words parted by one space
abbrev pub spaced : List (List ℕ) → List ℕ
spaced [] = []
spaced (word ∷ []) = word
spaced (word ∷ next ∷ words) = word ++ 32 ∷ spaced (next ∷ words)

pub line_is : (words : List (List ℕ)) → line_of words ≡ spaced words ++ 10 ∷ []
line_is [] = refl
line_is (word ∷ []) = refl
line_is (word ∷ next ∷ words) = ap (λ (l : List ℕ). word ++ 32 ∷ l) (line_is (next ∷ words)) ∙ sym (append_assoc word (32 ∷ spaced (next ∷ words)) (10 ∷ []))

abbrev AllFree : List (List ℕ) → Type 0
AllFree [] = Unit
AllFree (word ∷ words) = IsFree 10 word × AllFree words

spaced_free : (words : List (List ℕ)) → AllFree words → IsFree 10 (spaced words)
spaced_free [] f = tt
spaced_free (word ∷ []) f = f.0
spaced_free (word ∷ next ∷ words) f = free_joined 10 word (32 ∷ spaced (next ∷ words)) f.0 (refl, spaced_free (next ∷ words) f.1)

-- numbers of 32 bits
pub record FitsRail (rail : Rail) : Type 0 where
  pub port : rail.port < 2 ^ 32
  pub wire : rail.wire.number < 2 ^ 32

abbrev pub FitsCell : Cell → Type 0
FitsCell (La a b out) = (a.number < 2 ^ 32) × (b.number < 2 ^ 32) × (out.number < 2 ^ 32)
FitsCell (Fa a b out) = (a.number < 2 ^ 32) × (b.number < 2 ^ 32) × (out.number < 2 ^ 32)
FitsCell (Split from left right) = (from.number < 2 ^ 32) × (left.number < 2 ^ 32) × (right.number < 2 ^ 32)
FitsCell (Droc role preload feed q n) = (feed.number < 2 ^ 32) × FitsOutput q × FitsOutput n

ports_read : (inputs outputs : ℕ) → inputs < 2 ^ 32 → outputs < 2 ^ 32 → ports_in (spaced (decimal inputs ∷ decimal outputs ∷ [])) ≡ Some (Ports inputs outputs)
ports_read inputs outputs f g =
    word_read (decimal inputs) (decimal outputs) _ (number_plain inputs f).spaces
    ∙ meaning_read (plain_decimal_of (decimal inputs)) inputs _ (plain_decimal_read inputs f)
    ∙ meaning_read (plain_decimal_of (decimal outputs)) outputs _ (plain_decimal_read outputs g)

rail_read : (rail : Rail) → FitsRail rail → rail_in (spaced (decimal rail.port ∷ sign_word rail.sign ∷ wire_word rail.wire ∷ [])) ≡ Some rail
rail_read rail f =
    word_read (decimal rail.port) (sign_word rail.sign ++ 32 ∷ wire_word rail.wire) _ (number_plain rail.port f.port).spaces
    ∙ word_read (sign_word rail.sign) (wire_word rail.wire) _ (sign_plain rail.sign).spaces
    ∙ meaning_read (plain_decimal_of (decimal rail.port)) rail.port _ (plain_decimal_read rail.port f.port)
    ∙ meaning_read (sign_of (sign_word rail.sign)) rail.sign _ (sign_read rail.sign)
    ∙ meaning_read (wire_in (wire_word rail.wire)) rail.wire _ (wire_read rail.wire f.wire)

state_read : (state : StateLine) → state.latch < 2 ^ 32 → state.cell.number < 2 ^ 32 → state_in (spaced (decimal state.latch ∷ decimal state.cell.number ∷ [])) ≡ Some state
state_read state f g =
    word_read (decimal state.latch) (decimal state.cell.number) _ (number_plain state.latch f).spaces
    ∙ meaning_read (plain_decimal_of (decimal state.latch)) state.latch _ (plain_decimal_read state.latch f)
    ∙ meaning_read (plain_decimal_of (decimal state.cell.number)) state.cell.number _ (plain_decimal_read state.cell.number g)

three_read : (a b c : WireId) → a.number < 2 ^ 32 → b.number < 2 ^ 32 → c.number < 2 ^ 32 → three_in (spaced (wire_word a ∷ wire_word b ∷ wire_word c ∷ [])) ≡ Some (a, b, c)
three_read a b c f g h =
    word_read (wire_word a) (wire_word b ++ 32 ∷ wire_word c) _ (number_plain a.number f).spaces
    ∙ word_read (wire_word b) (wire_word c) _ (number_plain b.number g).spaces
    ∙ meaning_read (wire_in (wire_word a)) a _ (wire_read a f)
    ∙ meaning_read (wire_in (wire_word b)) b _ (wire_read b g)
    ∙ meaning_read (wire_in (wire_word c)) c _ (wire_read c h)

droc_read : (role : Role) (preload : Bool) (feed : WireId) (q n : Option WireId) → feed.number < 2 ^ 32 → FitsOutput q → FitsOutput n
    → droc_in (spaced (role_word role ∷ bit_word preload ∷ wire_word feed ∷ output_word q ∷ output_word n ∷ [])) ≡ Some (Droc role preload feed q n)
droc_read role preload feed q n f g h =
    word_read (role_word role) (spaced (bit_word preload ∷ wire_word feed ∷ output_word q ∷ output_word n ∷ [])) _ (role_plain role).spaces
    ∙ word_read (bit_word preload) (spaced (wire_word feed ∷ output_word q ∷ output_word n ∷ [])) _ (bit_plain preload).spaces
    ∙ word_read (wire_word feed) (spaced (output_word q ∷ output_word n ∷ [])) _ (number_plain feed.number f).spaces
    ∙ word_read (output_word q) (output_word n) _ (output_plain q g).spaces
    ∙ meaning_read (role_of (role_word role)) role _ (role_read role)
    ∙ meaning_read (bit_of (bit_word preload)) preload _ (bit_read preload)
    ∙ meaning_read (wire_in (wire_word feed)) feed _ (wire_read feed f)
    ∙ meaning_read (output_in (output_word q)) q _ (output_read q g)
    ∙ meaning_read (output_in (output_word n)) n _ (output_read n h)

-- a line without its LF says what was written, and holds no LF
pub record IsLineOf (words : List (List ℕ)) (statement : Statement) : Type 0 where
  pub says : statement_in (spaced words) ≡ Some statement
  pub feeds : IsFree 10 (spaced words)

pub head_read : (version : kinds.Version) → IsLineOf (codes "xsfq" ∷ version_word version ∷ []) (Version version)
head_read One = record { says = refl; feeds = spaced_free (codes "xsfq" ∷ codes "1" ∷ []) ((refl, (refl, (refl, (refl, tt)))), ((refl, tt), tt)) }
head_read Two = record { says = refl; feeds = spaced_free (codes "xsfq" ∷ codes "2" ∷ []) ((refl, (refl, (refl, (refl, tt)))), ((refl, tt), tt)) }

pub end_read : IsLineOf (codes "end" ∷ []) End
end_read = record { says = refl; feeds = (refl, (refl, (refl, tt))) }

pub ports_line_read : (inputs outputs : ℕ) → inputs < 2 ^ 32 → outputs < 2 ^ 32 → IsLineOf (codes "ports" ∷ decimal inputs ∷ decimal outputs ∷ []) (Ports inputs outputs)
ports_line_read inputs outputs f g = record {
  says = word_read (codes "ports") (spaced (decimal inputs ∷ decimal outputs ∷ [])) statement_by (refl, (refl, (refl, (refl, (refl, tt))))) ∙ ports_read inputs outputs f g;
  feeds = spaced_free (codes "ports" ∷ decimal inputs ∷ decimal outputs ∷ []) ((refl, (refl, (refl, (refl, (refl, tt))))), ((number_plain inputs f).feeds, ((number_plain outputs g).feeds, tt)));
}

pub input_read : (rail : Rail) → FitsRail rail → IsLineOf (rail_words (codes "input") rail) (Input rail)
input_read rail f = record {
  says = word_read (codes "input") (spaced (decimal rail.port ∷ sign_word rail.sign ∷ wire_word rail.wire ∷ [])) statement_by (refl, (refl, (refl, (refl, (refl, tt)))))
      ∙ ap (option_map Input) (rail_read rail f);
  feeds = spaced_free (rail_words (codes "input") rail)
      ((refl, (refl, (refl, (refl, (refl, tt))))), ((number_plain rail.port f.port).feeds, ((sign_plain rail.sign).feeds, ((number_plain rail.wire.number f.wire).feeds, tt))));
}

pub output_line_read : (rail : Rail) → FitsRail rail → IsLineOf (rail_words (codes "output") rail) (Output rail)
output_line_read rail f = record {
  says = word_read (codes "output") (spaced (decimal rail.port ∷ sign_word rail.sign ∷ wire_word rail.wire ∷ [])) statement_by (refl, (refl, (refl, (refl, (refl, (refl, tt))))))
      ∙ ap (option_map Output) (rail_read rail f);
  feeds = spaced_free (rail_words (codes "output") rail)
      ((refl, (refl, (refl, (refl, (refl, (refl, tt)))))), ((number_plain rail.port f.port).feeds, ((sign_plain rail.sign).feeds, ((number_plain rail.wire.number f.wire).feeds, tt))));
}

pub state_line_read : (state : StateLine) → state.latch < 2 ^ 32 → state.cell.number < 2 ^ 32 → IsLineOf (state_words state) (State state)
state_line_read state f g = record {
  says = word_read (codes "state") (spaced (decimal state.latch ∷ decimal state.cell.number ∷ [])) statement_by (refl, (refl, (refl, (refl, (refl, tt)))))
      ∙ ap (option_map State) (state_read state f g);
  feeds = spaced_free (state_words state) ((refl, (refl, (refl, (refl, (refl, tt))))), ((number_plain state.latch f).feeds, ((number_plain state.cell.number g).feeds, tt)));
}

abbrev la_of : WireId × WireId × WireId → Cell
la_of wires = La wires.0 wires.1 wires.2

abbrev fa_of : WireId × WireId × WireId → Cell
fa_of wires = Fa wires.0 wires.1 wires.2

abbrev split_of : WireId × WireId × WireId → Cell
split_of wires = Split wires.0 wires.1 wires.2

pub cell_read : (cell : Cell) → FitsCell cell → IsLineOf (cell_words cell) (OneCell cell)
cell_read (La a b out) f = record {
  says = word_read (codes "la") (spaced (wire_word a ∷ wire_word b ∷ wire_word out ∷ [])) statement_by (refl, (refl, tt))
      ∙ ap (λ o. option_map OneCell (option_map la_of o)) (three_read a b out f.0 f.1 f.2);
  feeds = spaced_free (cell_words (La a b out)) ((refl, (refl, tt)), ((number_plain a.number f.0).feeds, ((number_plain b.number f.1).feeds, ((number_plain out.number f.2).feeds, tt))));
}
cell_read (Fa a b out) f = record {
  says = word_read (codes "fa") (spaced (wire_word a ∷ wire_word b ∷ wire_word out ∷ [])) statement_by (refl, (refl, tt))
      ∙ ap (λ o. option_map OneCell (option_map fa_of o)) (three_read a b out f.0 f.1 f.2);
  feeds = spaced_free (cell_words (Fa a b out)) ((refl, (refl, tt)), ((number_plain a.number f.0).feeds, ((number_plain b.number f.1).feeds, ((number_plain out.number f.2).feeds, tt))));
}
cell_read (Split a b out) f = record {
  says = word_read (codes "split") (spaced (wire_word a ∷ wire_word b ∷ wire_word out ∷ [])) statement_by (refl, (refl, (refl, (refl, (refl, tt)))))
      ∙ ap (λ o. option_map OneCell (option_map split_of o)) (three_read a b out f.0 f.1 f.2);
  feeds = spaced_free (cell_words (Split a b out))
      ((refl, (refl, (refl, (refl, (refl, tt))))), ((number_plain a.number f.0).feeds, ((number_plain b.number f.1).feeds, ((number_plain out.number f.2).feeds, tt))));
}
cell_read (Droc role preload feed q n) f = record {
  says = word_read (codes "droc") (spaced (role_word role ∷ bit_word preload ∷ wire_word feed ∷ output_word q ∷ output_word n ∷ [])) statement_by (refl, (refl, (refl, (refl, tt))))
      ∙ ap (option_map OneCell) (droc_read role preload feed q n f.0 f.1 f.2);
  feeds = spaced_free (cell_words (Droc role preload feed q n)) (
    (refl, (refl, (refl, (refl, tt)))),
    (
      (role_plain role).feeds,
      (
        (bit_plain preload).feeds,
        ((number_plain feed.number f.0).feeds, ((output_plain q f.1).feeds, ((output_plain n f.2).feeds, tt))),
      ),
    ),
  );
}

-- names
not_nothing : (name : List ℕ) → 1 ≤ length name → bytes_eq name [] ≡ false
not_nothing [] h = absurd (omega arith)
not_nothing (byte ∷ name) h = refl

module _ (port : ℕ) (name : List ℕ) (fits : port < 2 ^ 32) (right : IsPortName name) where
  named_read : named_in (spaced (decimal port ∷ name ∷ [])) ≡ Some port
  named_read =
      word_read (decimal port) name _ (number_plain port fits).spaces
      ∙ ap (λ b. cond b None (plain_decimal_of (decimal port))) (not_nothing name right.not_empty) ∙ plain_decimal_read port fits

  pub input_name_read : IsLineOf (name_words (codes "iname") (port, name)) (InputName port)
  input_name_read = record {
    says = word_read (codes "iname") (spaced (decimal port ∷ name ∷ [])) statement_by (refl, (refl, (refl, (refl, (refl, tt))))) ∙ ap (option_map InputName) named_read;
    feeds = spaced_free (name_words (codes "iname") (port, name)) ((refl, (refl, (refl, (refl, (refl, tt))))), ((number_plain port fits).feeds, (name_free name right.no_line_feed, tt)));
  }

  pub output_name_read : IsLineOf (name_words (codes "oname") (port, name)) (OutputName port)
  output_name_read = record {
    says = word_read (codes "oname") (spaced (decimal port ∷ name ∷ [])) statement_by (refl, (refl, (refl, (refl, (refl, tt))))) ∙ ap (option_map OutputName) named_read;
    feeds = spaced_free (name_words (codes "oname") (port, name)) ((refl, (refl, (refl, (refl, (refl, tt))))), ((number_plain port fits).feeds, (name_free name right.no_line_feed, tt)));
  }

  pub input_name_is : name_in (spaced (name_words (codes "iname") (port, name))) ≡ name
  input_name_is =
      ap after_space (word_passed (codes "iname") (spaced (decimal port ∷ name ∷ [])) (refl, (refl, (refl, (refl, (refl, tt)))))) ∙ word_passed (decimal port) name (number_plain port fits).spaces

  pub output_name_is : name_in (spaced (name_words (codes "oname") (port, name))) ≡ name
  output_name_is =
      ap after_space (word_passed (codes "oname") (spaced (decimal port ∷ name ∷ [])) (refl, (refl, (refl, (refl, (refl, tt)))))) ∙ word_passed (decimal port) name (number_plain port fits).spaces
