-- The pieces of a text.
use Rattle.std.specs.Prelude.{ℕ, List, [], ◌∷◌, decimal}
use Rattle.text_pieces.specs.declared.pieces.Piece.{Piece}
use Rattle.text_pieces.specs.declared.pieces.Piece.TheVariants.{Text, Byte, Number}

-- the bytes of a piece
abbrev pub piece_text : Piece → List ℕ
piece_text (Text bytes) = bytes.now
piece_text (Byte byte) = byte ∷ []
piece_text (Number number) = decimal number
