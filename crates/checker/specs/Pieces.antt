-- The piece that a value of the code stands for.
use Rattle.std.specs.Prelude.{ℕ, List, [], ◌∷◌, ◌++◌, Bool, if◌then◌else◌}
use Rattle.standard.specs.Errors.{listed, missing_semicolon_after_character_reference}
use Rattle.standard.specs.Pieces as standard
use Rattle.checker.specs.declared.pieces.Piece.{Piece}

-- The codes of a piece: that of a missing `;`, and that of its other error.
abbrev pub codes_of : Bool → ℕ → List ℕ
codes_of unclosed error = (if unclosed then missing_semicolon_after_character_reference ∷ [] else []) ++ listed error

-- A piece of the code, as the standard's: its size, the text of its characters, and its codes.
abbrev pub piece_of : Piece → standard.Piece
piece_of p = standard.piece p.size (standard.char_ref_text p.reference) (codes_of p.unclosed p.code)

-- A piece of one character.
abbrev pub one_of : ℕ → ℕ → Bool → ℕ → Piece
one_of size char unclosed error =
    record { size = size; reference = record { chars = char ∷ 0 ∷ []; num_chars = 1 }; unclosed = unclosed; code = error }
