-- Laws of a piece: of one character, and at the front of some bytes by the first of them.
use Rattle.std.specs.Prelude.{if◌then◌else◌}
use Prim.Native.Nat.{ℕ, ◌<◌}
use Prim.Native.Char.{code}
use mathlib.Core.Path.{◌≡◌, sym, ◌∙◌}
use mathlib.Core.List.{List, ◌++◌, append-nil}
use lib.ListN.{length, get_or, drop}
use Rattle.lists.specs.Notation.{next}
use Rattle.standard.specs.declared.Context.{Context}
use Rattle.standard.specs.declared.characters.CharRead.TheVariants.{Char}
use Rattle.standard.specs.Utf8.{octets, encode, read_char}
use Rattle.standard.specs.Errors.{listed}
use Rattle.standard.specs.Classes.{character_code}
use Rattle.standard.specs.Names.{Name}
use Rattle.standard.specs.Pieces.{piece, character, ampersand, encodes, piece_at}
use Rattle.standard.proofs.Back.{read_back}
use Rattle.standard.proofs.FrontPiece.{first_newline}
use Rattle.decoder.specs.Pieces.{piece_of, one_of}

-- A piece of one character.
pub one-is : (size char first second : ℕ) → piece_of (one_of size char first second) ≡ piece size (encode char) (listed first ++ listed second)
unfolding encodes
one-is size char first second = rw (append-nil (encode char))

-- A piece of one character with one code.
pub one_code : (size char error : ℕ) → piece_of (one_of size char error 0) ≡ piece size (encode char) (listed error)
one_code size char error = one-is size char error 0 ∙ rw (append-nil (listed error))

-- An `&` alone.
pub alone : (error : ℕ) → piece_of (one_of 1 0x26 error 0) ≡ ampersand error
unfolding encode octets
alone error = one_code 1 0x26 error

-- A character is its own text.
pub character-read : (s : List ℕ) {value len error : ℕ} → read_char s ≡ Char value len → error ≡ character_code value
    → piece_of (one_of len value error 0) ≡ character (read_char s) s
character-read s {value} {len} {error} read e = one_code len value error ∙ rw (read, e, (read_back s value len read).0)

module _ (names : List Name) (context : Context) (s : List ℕ) (there : 0 < length s) where
  -- A CR is a newline.
  pub front_newline : get_or s 0 0 ≡ code "\r" → piece_of (one_of (if next 10 (drop 1 s) then 2 else 1) 10 0 0) ≡ piece_at names context s
  unfolding encode octets
  front_newline e = one_code _ 10 0 ∙ sym (first_newline names context s there e)
