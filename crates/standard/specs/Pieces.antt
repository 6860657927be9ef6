-- Document 01, 'Pieces', by WHATWG HTML, 13.2.3.5 and 13.2.5.72 to 13.2.5.80: the piece at the front of a covered source.
use Rattle.std.specs.Prelude.{ℕ, suc, ◌+◌, ◌-◌, List, [], ◌∷◌, ◌++◌, Bool, ◌||◌, ◌&&◌, eqb, length, get_or, take, drop, if◌then◌else◌}
use Prim.Native.Char.{code}
use Rattle.lists.specs.Notation.{next, next_passes, front}
use Rattle.standard.specs.declared.Context.{Context}
use Rattle.standard.specs.declared.characters.CharRead.{CharRead}
use Rattle.standard.specs.declared.characters.CharRead.TheVariants.{Char, Incomplete, Illformed, End}
use Rattle.standard.specs.declared.names.CharRef.{CharRef}
use Rattle.standard.specs.declared.names.Found.{Found}
use Rattle.standard.specs.Utf8.{read_char, encode}
use Rattle.standard.specs.Errors.{
  no_error,
  listed,
  absence_of_digits_in_numeric_character_reference,
  missing_semicolon_after_character_reference,
  unknown_named_character_reference,
}
use Rattle.standard.specs.Contexts.{in_attribute}
use Rattle.standard.specs.Classes.{alphanumeric, character_code}
use Rattle.standard.specs.Numbers.{is_digit, number, Meaning, meaning_of}
use Rattle.standard.specs.Names.{Name, longest}

-- A piece: how many source bytes it has, its text, and the codes of its errors.
pub record Piece : Type 0 where
  pub size : ℕ
  pub text : List ℕ
  pub codes : List ℕ

-- A piece, given its size, its text and its codes.
abbrev pub piece : ℕ → List ℕ → List ℕ → Piece
piece size text codes = record { size = size; text = text; codes = codes }

-- A character that stands for itself. (A covered part has nothing else; elsewhere a byte of no character has no text.)
abbrev pub character : CharRead → List ℕ → Piece
character (Char c n) s = piece n (take n s) (listed (character_code c))
character (Incomplete n) s = piece 1 [] []
character (Illformed n) s = piece 1 [] []
character End s = piece 1 [] []

-- An `&` that is a piece alone.
abbrev pub ampersand : ℕ → Piece
ampersand error = piece 1 (code "&" ∷ []) (listed error)

-- A numeric reference of size bytes before its `;`, if that is next.
abbrev pub numbered : ℕ → Meaning → Bool → Piece
numbered size m semicolon =
    if semicolon then piece (suc size) (encode m.char) (listed m.code)
    else piece size (encode m.char) (missing_semicolon_after_character_reference ∷ listed m.code)

-- Digits after `&#` or `&#x`, which are intro bytes, with s beginning with the digits.
unfoldable pub digits_then : (base intro : ℕ) → List ℕ → List ℕ → Piece
digits_then base intro [] s = ampersand absence_of_digits_in_numeric_character_reference
digits_then base intro (d ∷ ds) s =
    numbered (intro + length (d ∷ ds)) (meaning_of (number base (d ∷ ds))) (next (code ";") (drop (length (d ∷ ds)) s))

-- The same with all the digits at the front of s.
unfoldable pub digits_at : (base intro : ℕ) → List ℕ → Piece
digits_at base intro s = digits_then base intro (front (is_digit base) s) s

-- After `&#`: as many digits as stand there, in hexadecimal after `x` or `X`.
unfoldable pub numeric : List ℕ → Piece
numeric s = if next (code "x") s || next (code "X") s then digits_at 16 3 (drop 1 s) else digits_at 10 2 s

-- The text of some characters.
unfoldable pub encodes : List ℕ → List ℕ
encodes [] = []
encodes (c ∷ cs) = encode c ++ encodes cs

-- The text of what a name stands for: as many of its characters as it has.
abbrev pub char_ref_text : CharRef → List ℕ
char_ref_text r = encodes (take r.num_chars r.chars)

-- One or more ASCII letters or digits, and then `;`.
unfoldable pub unknown_name : List ℕ → Bool
unknown_name s = next_passes alphanumeric s && next (code ";") (drop (length (front alphanumeric s)) s)

-- A name without `;` is no reference before s: in an attribute, `=` or an ASCII letter or digit is next.
abbrev pub stays_text : Context → List ℕ → Bool
stays_text context s = in_attribute context && next_passes (λ c. eqb c (code "=") || alphanumeric c) s

-- After `&`, with the longest name that stands there.
unfoldable pub named_by : Context → Found → List ℕ → Piece
named_by context found s =
    if eqb found.len 0 then ampersand (if unknown_name s then unknown_named_character_reference else no_error)
    else if eqb (get_or s (found.len - 1) 0) (code ";") then piece (suc found.len) (char_ref_text found.reference) []
    else if stays_text context (drop found.len s) then ampersand no_error
    else piece (suc found.len) (char_ref_text found.reference) (missing_semicolon_after_character_reference ∷ [])

-- After `&`.
unfoldable pub reference : List Name → Context → List ℕ → Piece
reference names context s = if next (code "#") s then numeric (drop 1 s) else named_by context (longest names s) s

-- The piece at the front of a covered source: a newline, a reference, or a character that stands for itself.
unfoldable pub piece_at : List Name → Context → List ℕ → Piece
piece_at names context [] = piece 0 [] []
piece_at names context (c ∷ s) =
    if eqb c (code "\r") then piece (if next (code "\n") s then 2 else 1) (code "\n" ∷ []) []
    else if eqb c (code "&") then reference names context s
    else character (read_char (c ∷ s)) (c ∷ s)
