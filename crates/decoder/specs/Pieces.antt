-- The piece that a value of the code stands for.
use Rattle.std.specs.Prelude.{ℕ, [], ◌∷◌, ◌++◌}
use Rattle.standard.specs.Errors.{listed}
use Rattle.standard.specs.Pieces as standard
use Rattle.decoder.specs.declared.pieces.Piece.{Piece}

-- A piece of the code, as the standard's: its size, the text of its characters, and those of its two codes that are not 0.
abbrev pub piece_of : Piece → standard.Piece
piece_of p = standard.piece p.size (standard.char_ref_text p.reference) (listed p.first ++ listed p.second)

-- A piece of one character.
abbrev pub one_of : (size char first second : ℕ) → Piece
one_of size char first second =
    record { size = size; reference = record { chars = char ∷ 0 ∷ []; num_chars = 1 }; first = first; second = second }

-- A piece that has nothing, of size bytes.
abbrev pub none_of : ℕ → Piece
none_of size =
    record { size = size; reference = record { chars = 0 ∷ 0 ∷ []; num_chars = 0 }; first = 0; second = 0 }
