-- RFC 3629, section 4: the characters of UTF-8. A character is read from the front of some bytes, and written as bytes.
use Rattle.std.specs.Prelude.{ℕ, zero, suc, ◌+◌, ◌-◌, ◌*◌, ◌/◌, ◌%◌, List, [], ◌∷◌, ◌++◌, Bool, ◌||◌, ltb, eqb, if◌then◌else◌, Option, Some, None}
use Prim.Native.Char.{code}
use Prim.Native.String.{String}
use Rattle.lists.specs.Notation.{between}
use Rattle.standard.specs.declared.characters.CharRead.{CharRead}
use Rattle.standard.specs.declared.characters.CharRead.TheVariants.{Char, Incomplete, Illformed, End}
use Rattle.standard.specs.declared.characters.Lead.{Lead}

-- What a first byte says: how many bytes follow it, the range of the second one, and the bits that it gives.
abbrev pub says : (need low high bits : ℕ) → Option Lead
says need low high bits = Some (record { need = need; low = low; high = high; bits = bits })

-- What a byte says as a first one, if it can be one.
abbrev pub lead_of : ℕ → Option Lead
lead_of b =
    if ltb b 0x80 then says 0 0x80 0xBF b
    else if ltb b 0xC2 then None
    else if ltb b 0xE0 then says 1 0x80 0xBF (b - 0xC0)
    else if eqb b 0xE0 then says 2 0xA0 0xBF 0
    else if eqb b 0xED then says 2 0x80 0x9F 0xD
    else if ltb b 0xF0 then says 2 0x80 0xBF (b - 0xE0)
    else if eqb b 0xF0 then says 3 0x90 0xBF 0
    else if ltb b 0xF4 then says 3 0x80 0xBF (b - 0xF0)
    else if eqb b 0xF4 then says 3 0x80 0x8F 4
    else None

-- The bytes after the first: need of them, the next one from low to high, with the bits and the number of bytes so far.
unfoldable pub tails : (need low high bits len : ℕ) → List ℕ → CharRead
tails zero low high bits len s = Char bits len
tails (suc need) low high bits len [] = Incomplete len
tails (suc need) low high bits len (b ∷ s) =
    if between low high b then tails need 0x80 0xBF (bits * 64 + b % 64) (suc len) s else Illformed len

-- The bytes after a first byte that says what it says.
unfoldable pub after_lead : Option Lead → List ℕ → CharRead
after_lead None s = Illformed 0
after_lead (Some l) s = tails l.need l.low l.high l.bits 1 s

-- The character at the front of some bytes.
unfoldable pub read_char : List ℕ → CharRead
read_char [] = End
read_char (b ∷ s) = after_lead (lead_of b) s

-- A scalar value: a code point that is no surrogate.
abbrev pub scalar : ℕ → Bool
scalar c = ltb c 0xD800 || between 0xE000 0x10FFFF c

-- The bytes of a scalar value.
unfoldable pub octets : ℕ → List ℕ
octets c =
    if ltb c 0x80 then c ∷ []
    else if ltb c 0x800 then (0xC0 + c / 64) ∷ (0x80 + c % 64) ∷ []
    else if ltb c 0x10000 then (0xE0 + c / 4096) ∷ (0x80 + c / 64 % 64) ∷ (0x80 + c % 64) ∷ []
    else (0xF0 + c / 262144) ∷ (0x80 + c / 4096 % 64) ∷ (0x80 + c / 64 % 64) ∷ (0x80 + c % 64) ∷ []

-- What is no scalar value is written as U+FFFD.
abbrev pub written : ℕ → ℕ
written c = if scalar c then c else 0xFFFD

-- The bytes of a number.
unfoldable pub encode : ℕ → List ℕ
encode c = octets (written c)

-- The bytes of a quoted text.
unfoldable pub bytes : String → List ℕ
bytes String.[] = []
bytes (String.◌∷◌ c s) = encode (code c) ++ bytes s
