-- Document 01, 'Escape' (`write_escaped` of serialize/mod.rs), by WHATWG HTML, 13.3, 'escaping a string'.
use Rattle.std.specs.Prelude.{ℕ, zero, suc, ◌-◌, ◌≡◌, List, [], ◌∷◌, ◌++◌, Bool, true, false, ◌||◌, ◌&&◌, ltb, eqb, length, take, if◌then◌else◌}
use Prim.Native.Char.{code}
use Rattle.std.proofs.lemmas.List.Edits.{sets}
use Rattle.standard.specs.declared.characters.CharRead.{CharRead}
use Rattle.standard.specs.declared.characters.CharRead.TheVariants.{Char, Incomplete, Illformed, End}
use Rattle.standard.specs.Utf8.{read_char, bytes}
use Rattle.standard.specs.Answers.{done, ill_formed, too_long, room_asked, longest_slice}
use Rattle.standard.specs.Reading.{size_of, Stop, stop_from}
use Rattle.escaper.specs.declared.Mode.{Mode}
use Rattle.escaper.specs.declared.Mode.TheVariants.{Text, Attribute}
use Rattle.escaper.specs.declared.Escaped.{Escaped}

-- Document 01, 'Whole-slice calls', '0 (text) and 1 (attribute)': its number.
abbrev pub number_of : Mode → ℕ
number_of Text = 0
number_of Attribute = 1

-- Quotation marks are replaced too.
abbrev pub in_attribute : Mode → Bool
in_attribute Text = false
in_attribute Attribute = true

-- What is written for a character, own being its own bytes.
unfoldable pub written_for : Mode → (c : ℕ) (own : List ℕ) → List ℕ
written_for mode c own =
    if eqb c (code "&") then bytes "&amp;"
    else if eqb c (code "<") then bytes "&lt;"
    else if eqb c (code ">") then bytes "&gt;"
    else if eqb c 0xA0 then bytes "&nbsp;"
    else if in_attribute mode && eqb c (code "\"") then bytes "&quot;"
    else own

-- What is written for what is read; bytes that are no character are refused before.
abbrev pub written_for_read : Mode → CharRead → List ℕ → List ℕ
written_for_read mode (Char c n) s = written_for mode c (take n s)
written_for_read mode (Incomplete n) s = []
written_for_read mode (Illformed n) s = []
written_for_read mode End s = []

-- The result for an input whose next character begins after skip bytes.
unfoldable pub escape_from : Mode → (skip : ℕ) → List ℕ → List ℕ
escape_from mode skip [] = []
escape_from mode zero (b ∷ s) =
    let r : CharRead = read_char (b ∷ s) in written_for_read mode r (b ∷ s) ++ escape_from mode (size_of r - 1) s
escape_from mode (suc skip) (b ∷ s) = escape_from mode skip s

-- The result of escaping an input.
abbrev pub escape : Mode → List ℕ → List ℕ
escape mode s = escape_from mode 0 s

-- Where an input stops: at the first bytes that are no character. Every character is taken.
abbrev pub escape_stop : List ℕ → Stop
escape_stop s = stop_from (λ c. done) 0 0 s

-- The answer for an input, with room for so many bytes.
unfoldable pub escape_answer : Mode → List ℕ → (room : ℕ) → ℕ
escape_answer mode s room =
    if ltb longest_slice (length s) then too_long
    else if eqb (escape_stop s).answer ill_formed then ill_formed
    else if ltb room (length (escape mode s)) then room_asked
    else done

-- What is written: the result, with answer 0, and else nothing.
unfoldable pub escape_written : Mode → List ℕ → (room : ℕ) → List ℕ
escape_written mode s room = if eqb (escape_answer mode s room) done then escape mode s else []

-- An answer, given its number, text bytes and place.
abbrev pub escaped : (answer text place : ℕ) → Escaped
escaped answer text place = record { answer = answer; text = text; place = place }

-- The whole answer: its number, the length of the result with 0 and 9, and the place of the fault with 1.
unfoldable pub escaped_of : Mode → List ℕ → (room : ℕ) → Escaped
escaped_of mode s room =
    let answer : ℕ = escape_answer mode s room in
    escaped answer (if eqb answer done || eqb answer room_asked then length (escape mode s) else 0)
    (if eqb answer ill_formed then (escape_stop s).place else 0)

-- What a call gives for an input and a room: its result, and what the room then holds.
pub record Escapes (mode : Mode) (input out : List ℕ) (r : Escaped) (out' : List ℕ) : Type 0 where
  pub answered : r ≡ escaped_of mode input (length out)
  pub texts : out' ≡ sets out 0 (escape_written mode input (length out))
