-- WHATWG HTML, 13.2.5.75 to 13.2.5.80: the digits of a numeric character reference, their exact number, and what it means.
use Rattle.std.specs.Prelude.{ℕ, ◌+◌, ◌-◌, ◌*◌, List, [], ◌∷◌, Bool, not, ◌||◌, ◌&&◌, ltb, eqb, if◌then◌else◌}
use Prim.Native.Char.{code}
use Rattle.lists.specs.Notation.{between}
use Rattle.standard.specs.Classes.{noncharacter, whitespace, control}
use Rattle.standard.specs.Errors.{
  no_error,
  null_character_reference,
  character_reference_outside_unicode_range,
  surrogate_character_reference,
  noncharacter_character_reference,
  control_character_reference,
}

-- What an ASCII digit or letter counts as a digit; 16 where it is none.
unfoldable pub digit_of : ℕ → ℕ
digit_of c =
    if between (code "0") (code "9") c then c - code "0"
    else if between (code "A") (code "F") c then c - code "A" + 10
    else if between (code "a") (code "f") c then c - code "a" + 10
    else 16

-- A digit of the base.
abbrev pub is_digit : ℕ → ℕ → Bool
is_digit base c = ltb (digit_of c) base

-- The number that digits say after the number before.
unfoldable pub number_from : (base before : ℕ) → List ℕ → ℕ
number_from base before [] = before
number_from base before (c ∷ s) = number_from base (before * base + digit_of c) s

-- The exact whole number of a run of digits.
abbrev pub number : ℕ → List ℕ → ℕ
number base digits = number_from base 0 digits

-- The table of 13.2.5.80, in its two columns.
unfoldable pub replacements : List (ℕ × ℕ)
replacements =
    (0x80, 0x20AC) ∷ (0x82, 0x201A) ∷ (0x83, 0x0192) ∷ (0x84, 0x201E) ∷ (0x85, 0x2026) ∷ (0x86, 0x2020) ∷ (0x87, 0x2021)
    ∷ (0x88, 0x02C6) ∷ (0x89, 0x2030) ∷ (0x8A, 0x0160) ∷ (0x8B, 0x2039) ∷ (0x8C, 0x0152) ∷ (0x8E, 0x017D) ∷ (0x91, 0x2018)
    ∷ (0x92, 0x2019) ∷ (0x93, 0x201C) ∷ (0x94, 0x201D) ∷ (0x95, 0x2022) ∷ (0x96, 0x2013) ∷ (0x97, 0x2014) ∷ (0x98, 0x02DC)
    ∷ (0x99, 0x2122) ∷ (0x9A, 0x0161) ∷ (0x9B, 0x203A) ∷ (0x9C, 0x0153) ∷ (0x9E, 0x017E) ∷ (0x9F, 0x0178) ∷ []

-- The second column where the first has the number; else the number itself.
unfoldable pub replaced_by : List (ℕ × ℕ) → ℕ → ℕ
replaced_by [] n = n
replaced_by (entry ∷ entries) n = if eqb n entry.0 then entry.1 else replaced_by entries n

-- What a number means: a character, and the code of an error or of none.
pub record Meaning : Type 0 where
  pub char : ℕ
  pub code : ℕ

-- A meaning, given its character and its code.
abbrev pub means : ℕ → ℕ → Meaning
means char code = record { char = char; code = code }

-- 13.2.5.80 Numeric character reference end state.
unfoldable pub meaning_of : ℕ → Meaning
meaning_of n =
    if eqb n 0 then means 0xFFFD null_character_reference
    else if ltb 0x10FFFF n then means 0xFFFD character_reference_outside_unicode_range
    else if between 0xD800 0xDFFF n then means 0xFFFD surrogate_character_reference
    else if noncharacter n then means n noncharacter_character_reference
    else if eqb n 0xD || (control n && not (whitespace n)) then means (replaced_by replacements n) control_character_reference
    else means n no_error
