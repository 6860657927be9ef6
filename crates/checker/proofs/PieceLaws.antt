-- Pieces of the code, one law for each way that its readers return.
use Rattle.std.specs.Prelude.{if◌then◌else◌}
use Prim.Native.Nat.{ℕ, suc, ◌+◌, ◌-◌, ◌≤◌, ◌<◌, min}
use Prim.Native.Char.{code}
use mathlib.Core.Path.{◌≡◌, refl, sym, ◌∙◌, ap}
use mathlib.Core.List.{List, [], append-nil}
use mathlib.Core.Bool.{Bool, true, false, ◌||◌, ◌&&◌}
use mathlib.Core.Logic.{◌≢◌, ⊎_elim}
use native.Mathlib.Omega.{arith}
use native.Mathlib.Numerals.{add-one}
use lib.Dec.{ltb}
use lib.ListN.{length, get_or, take, drop, length-drop}
use lib.Seq.{drop-drop, get_or-drop}
use borrow.Author.Tests.{lt-ltb, le-ltb}
use Rattle.lists.specs.Notation.{next, front}
use Rattle.lists.proofs.Choice.{below?}
use Rattle.standard.specs.declared.Context.{Context}
use Rattle.standard.specs.declared.characters.CharRead.{CharRead}
use Rattle.standard.specs.declared.characters.CharRead.TheVariants.{Char, Incomplete, Illformed, End}
use Rattle.standard.specs.declared.names.Found.{Found}
use Rattle.standard.specs.Utf8.{octets, encode, read_char}
use Rattle.standard.specs.Classes.{alphanumeric, character_code}
use Rattle.standard.specs.Numbers.{is_digit, number, meaning_of}
use Rattle.standard.specs.Names.{Name, longest}
use Rattle.standard.specs.Pieces.{
  piece,
  character,
  ampersand,
  digits_at,
  numeric,
  encodes,
  unknown_name,
  stays_text,
  named_by,
  reference,
  piece_at,
}
use Rattle.standard.proofs.Back.{read_back}
use Rattle.standard.proofs.Skips.{rest_from}
use Rattle.standard.proofs.FrontPiece.{
  digits_none,
  digits_some,
  unknown-at,
  found-there,
  by_none,
  by_closed,
  by_staying,
  by_open,
  first_newline,
  first_reference,
  first_character,
}
use Rattle.checker.specs.declared.pieces.Piece.{Piece}
use Rattle.checker.specs.Pieces.{codes_of, piece_of, one_of}

-- What stands in the rest of some bytes.
pub rest-at : (s : List ℕ) (from i : ℕ) → get_or (take (length s - from) (drop from s)) i 0 ≡ get_or s (from + i) 0
rest-at s from i = rw (rest_from s from) (get_or-drop from s i 0)

-- A piece of one character.
pub one-is : (size char : ℕ) (unclosed : Bool) (error : ℕ)
    → piece_of (one_of size char unclosed error) ≡ piece size (encode char) (codes_of unclosed error)
unfolding encodes
one-is size char unclosed error = rw (append-nil (encode char))

-- An `&` alone.
pub alone : (error : ℕ) → piece_of (one_of 1 0x26 false error) ≡ ampersand error
unfolding encode octets
alone error = one-is 1 0x26 false error

-- A character is its own text.
pub character-read : (s : List ℕ) {value len error : ℕ} → read_char s ≡ Char value len → error ≡ character_code value
    → piece_of (one_of len value false error) ≡ character (read_char s) s
character-read s {value} {len} {error} read e = one-is len value false error ∙ rw (read, e, (read_back s value len read).0)

-- What is read and is no character is a byte without text.
pub character-none : (s : List ℕ) (r : CharRead) → ((c n : ℕ) → r ≡ Char c n → ⊥) → piece 1 [] [] ≡ character r s
character-none s (Char c n) k = absurd (k c n refl)
character-none s (Incomplete n) k = refl
character-none s (Illformed n) k = refl
character-none s End k = refl

-- Digits of a base from `from` to end, of a reference that begins at `at`.
module _ (base at from end : ℕ) (s : List ℕ) (end_is : end ≡ from + length (front (is_digit base) (drop from s))) where
  -- There are none.
  pub number_none : end ≡ from → piece_of (one_of 1 0x26 false 1) ≡ digits_at base (from - at) (drop from s)
  number_none e = alone 1 ∙ sym (digits_none base (from - at) from end s end_is e)

  module _ (value : ℕ) (some : end ≢ from) (value-is : value ≡ min (number base (front (is_digit base) (drop from s))) 0x110000)
      (after : at ≤ from) {char error : ℕ} (char_is : char ≡ (meaning_of value).char) (error-is : error ≡ (meaning_of value).code) where
    -- A `;` comes after them.
    pub number_closed : next (code ";") (drop end s) ≡ true
        → piece_of (one_of (end + 1 - at) char false error) ≡ digits_at base (from - at) (drop from s)
    number_closed e =
        let size : end + 1 - at ≡ suc (from - at + (end - from)) = omega arith in
        one-is (end + 1 - at) char false error
        ∙ rw (digits_some base (from - at) from end s end_is value some value-is, e, char_is, error-is, size)

    -- None does.
    pub number_open : next (code ";") (drop end s) ≡ false
        → piece_of (one_of (end - at) char true error) ≡ digits_at base (from - at) (drop from s)
    number_open e =
        let size : end - at ≡ from - at + (end - from) = omega arith in
        one-is (end - at) char true error
        ∙ rw (digits_some base (from - at) from end s end_is value some value-is, e, char_is, error-is, size)

-- What comes after `&#`.
module _ (s : List ℕ) (at : ℕ) where
  abbrev hex : Bool
  hex = next (code "x") (drop (at + 2) s) || next (code "X") (drop (at + 2) s)

  -- `x` or `X`.
  pub numeric_hex : hex ≡ true → digits_at 16 (at + 3 - at) (drop (at + 3) s) ≡ numeric (drop (at + 2) s)
  unfolding numeric
  numeric_hex e =
      let intro : at + 3 - at ≡ 3 = omega arith in
      let further : at + 2 + 1 ≡ at + 3 = omega arith in
      rw (e, intro, drop-drop 1 (at + 2) s, further)

  -- Another byte, or none.
  pub numeric_decimal : hex ≡ false → digits_at 10 (at + 2 - at) (drop (at + 2) s) ≡ numeric (drop (at + 2) s)
  unfolding numeric
  numeric_decimal e = let intro : at + 2 - at ≡ 2 = omega arith in rw (e, intro)

-- A name that was found, as a piece.
abbrev found_of : Found → Bool → Piece
found_of found unclosed = record { size = found.len + 1; reference = found.reference; unclosed = unclosed; code = 0 }

-- What stands from `from` on, after an `&`, by the longest name that is found there.
module _ (names : List Name) (context : Context) (s : List ℕ) (from : ℕ) {found : Found}
    (finds : found ≡ longest names (take (length s - from) (drop from s))) where
  found_is : found ≡ longest names (drop from s)
  found_is = finds ∙ ap (longest names) (rest_from s from)

  -- It is there.
  pub name_there : from ≤ length s → from + found.len ≤ length s
  name_there h = omega (arith, found-there names (drop from s) found_is, length-drop from s)

  -- There is none: the letters and digits there and the byte after them tell.
  pub name_none : {end : ℕ} (unknown : Bool) → found.len ≡ 0 → end ≡ from + length (front alphanumeric (drop from s))
      → ltb from end && next (code ";") (drop end s) ≡ unknown
      → piece_of (one_of 1 0x26 false (if unknown then 4 else 0)) ≡ named_by context (longest names (drop from s)) (drop from s)
  name_none {end} unknown none end_is e =
      rw (← found_is) (alone (if unknown then 4 else 0) ∙ sym (by_none context found (drop from s) unknown none (tells ∙ e)))
    where
      some : (n : ℕ) → end ≡ from + n → ltb 0 n ≡ ltb from end
      some n k =
          ⊎_elim (λ h. lt-ltb 0 n (omega arith) ∙ sym (lt-ltb from end h)) (λ h. le-ltb 0 n (omega arith) ∙ sym (le-ltb from end h)) (below? from end)

      tells : unknown_name (drop from s) ≡ ltb from end && next (code ";") (drop end s)
      tells =
          let n : ℕ = length (front alphanumeric (drop from s)) in
          unknown-at (drop from s) n refl ∙ rw (some n end_is, drop-drop n from s, ← end_is)

  module _ (some : found.len ≢ 0) where
    -- The last byte of the name.
    last_is : get_or (drop from s) (found.len - 1) 0 ≡ get_or s (from + found.len - 1) 0
    last_is =
        let k : from + (found.len - 1) ≡ from + found.len - 1 = omega arith in
        get_or-drop from s (found.len - 1) 0 ∙ ap (λ (i : ℕ). get_or s i 0) k

    -- It is a `;`.
    pub name_closed : get_or s (from + found.len - 1) 0 ≡ code ";"
        → piece_of (found_of found false) ≡ named_by context (longest names (drop from s)) (drop from s)
    name_closed e = rw (← found_is, by_closed context found (drop from s) some (last_is ∙ e), add-one)

    module _ (unclosed : get_or s (from + found.len - 1) 0 ≢ code ";") where
      -- It is none, and what comes after it tells whether it stays text.
      pub name_stays : stays_text context (drop (from + found.len) s) ≡ true
          → piece_of (one_of 1 0x26 false 0) ≡ named_by context (longest names (drop from s)) (drop from s)
      name_stays e =
          rw (← found_is)
          (alone 0 ∙ sym (by_staying context found (drop from s) some (λ f. unclosed (sym last_is ∙ f)) (rw (drop-drop found.len from s) e)))

      pub name_open : stays_text context (drop (from + found.len) s) ≡ false
          → piece_of (found_of found true) ≡ named_by context (longest names (drop from s)) (drop from s)
      name_open e =
          rw (← found_is, by_open context found (drop from s) some (λ f. unclosed (sym last_is ∙ f)) (rw (drop-drop found.len from s) e), add-one)

-- The piece at `at` goes by the byte there.
module _ (names : List Name) (context : Context) (s : List ℕ) (at : ℕ) (there : at < length s) where
  some_left : 0 < length (drop at s)
  some_left = simp length-drop (omega arith)

  byte_is : get_or (drop at s) 0 0 ≡ get_or s at 0
  byte_is = get_or-drop at s 0 0 ∙ ap (λ (i : ℕ). get_or s i 0) (let k : at + 0 ≡ at = omega arith in k)

  -- A CR is a newline, with a LF that is next.
  newline : (feed : Bool) → get_or s at 0 ≡ code "\r" → next (code "\n") (drop (at + 1) s) ≡ feed
      → piece_of (one_of (if feed then 2 else 1) 10 false 0) ≡ piece_at names context (drop at s)
  unfolding encode octets
  newline feed b e =
      one-is (if feed then 2 else 1) 10 false 0 ∙ sym (first_newline names context (drop at s) some_left (byte_is ∙ b) ∙ rw (drop-drop 1 at s, e))

  pub front_pair : get_or s at 0 ≡ code "\r" → next (code "\n") (drop (at + 1) s) ≡ true
      → piece_of (one_of 2 10 false 0) ≡ piece_at names context (drop at s)
  front_pair = newline true

  pub front_return : get_or s at 0 ≡ code "\r" → next (code "\n") (drop (at + 1) s) ≡ false
      → piece_of (one_of 1 10 false 0) ≡ piece_at names context (drop at s)
  front_return = newline false

  module _ (b : get_or s at 0 ≡ code "&") where
    -- An `&` before a `#`.
    pub front_numeric : next (code "#") (drop (at + 1) s) ≡ true → numeric (drop (at + 2) s) ≡ piece_at names context (drop at s)
    unfolding reference
    front_numeric e =
        let further : at + 1 + 1 ≡ at + 2 = omega arith in
        rw (
          first_reference names context (drop at s) some_left (byte_is ∙ b),
          drop-drop 1 at s,
          e,
          drop-drop 1 (at + 1) s,
          further,
        )

    -- An `&` before another byte, or at the end.
    pub front_named : next (code "#") (drop (at + 1) s) ≡ false
        → named_by context (longest names (drop (at + 1) s)) (drop (at + 1) s) ≡ piece_at names context (drop at s)
    unfolding reference
    front_named e = rw (first_reference names context (drop at s) some_left (byte_is ∙ b), drop-drop 1 at s, e)

  -- Any other byte is of a character.
  pub front_character : get_or s at 0 ≢ code "\r" → get_or s at 0 ≢ code "&"
      → character (read_char (drop at s)) (drop at s) ≡ piece_at names context (drop at s)
  front_character p q = sym (first_character names context (drop at s) some_left (λ e. p (sym byte_is ∙ e)) (λ e. q (sym byte_is ∙ e)))

-- What closes the goals of the readers: of a character, of digits, after `&#`, and of any piece.
pub ruleset characters = (character-read, rest_from)

pub ruleset digits = (number_none, number_closed, number_open)

pub ruleset numerics = (numeric_hex, numeric_decimal)

pub ruleset fronts = (front_pair, front_return, front_numeric, front_named, front_character)
