-- The text of a line, as words or as pieces.
-- Used by all that writes lines or compares with them.
use Rattle.std.specs.Prelude.{◌++◌, ℕ, List, codes, decimal, flat_map, take}
use Rattle.std.specs.List.{join_with_byte}
use Rattle.robots_text.specs.Octets.{space}
use Rattle.robots_text.specs.Token.{lower_case}
use Rattle.line_text.specs.Escapes.{escaped, escaped_body}
use Rattle.line_text.specs.declared.piece.Piece.{Piece}
use Rattle.line_text.specs.declared.piece.Piece.TheVariants.{Text, Octets, Number, LowerCase, Escaped, Body}
use Rattle.line_text.specs.declared.pieces.Pieces.{Pieces}

-- the text of one piece
abbrev pub piece_text : Piece → List ℕ
piece_text (Text text) = text.now
piece_text (Octets octets) = octets.now
piece_text (Number number) = decimal number
piece_text (LowerCase octets) = lower_case octets.now
piece_text (Escaped octets) = escaped octets.now
piece_text (Body octets) = escaped_body octets.now

-- the text of the pieces, in order; later places are not part of the line
abbrev pub pieces_text : Pieces → List ℕ
pieces_text pieces = flat_map piece_text (take pieces.len pieces.pieces)

-- the most pieces of a line
abbrev pub most_pieces : ℕ
most_pieces = 10

-- a line: words joined by single spaces, and a line feed
abbrev pub line_of : List (List ℕ) → List ℕ
line_of words = join_with_byte space words ++ codes "\n"
