-- The classes of characters: the Infra standard, 'Code points', and WHATWG HTML, 13.2.3.5, 'Preprocessing the input stream'.
use Rattle.std.specs.Prelude.{ℕ, ◌%◌, Bool, not, ◌||◌, ◌&&◌, eqb, if◌then◌else◌}
use Prim.Native.Char.{code}
use Rattle.lists.specs.Notation.{between}
use Rattle.standard.specs.Errors.{no_error, control_character_in_input_stream, noncharacter_in_input_stream}

-- A noncharacter: FDD0 to FDEF, and the last two code points of each plane.
abbrev pub noncharacter : ℕ → Bool
noncharacter c = between 0xFDD0 0xFDEF c || between 0xFFFE 0xFFFF (c % 0x10000)

-- ASCII whitespace: tab, LF, FF, CR, space.
abbrev pub whitespace : ℕ → Bool
whitespace c = eqb c 0x9 || eqb c 0xA || eqb c 0xC || eqb c 0xD || eqb c 0x20

-- A control: a C0 control, or from DELETE to APPLICATION PROGRAM COMMAND.
abbrev pub control : ℕ → Bool
control c = between 0 0x1F c || between 0x7F 0x9F c

-- An ASCII letter or digit.
abbrev pub alphanumeric : ℕ → Bool
alphanumeric c = between (code "0") (code "9") c || between (code "A") (code "Z") c || between (code "a") (code "z") c

-- The error of a character that stands for itself: noncharacters, and controls other than ASCII whitespace and NUL.
unfoldable pub character_code : ℕ → ℕ
character_code c =
    if noncharacter c then noncharacter_in_input_stream
    else if control c && not (whitespace c || eqb c 0) then control_character_in_input_stream
    else no_error
