-- Inputs at the edges of escaping, as one table, and the theorem that the definitions give exactly these.
use Prim.Native.Nat.{ℕ}
use mathlib.Core.Path.{refl}
use mathlib.Core.List.{List, [], ◌∷◌}
use Rattle.standard.specs.Utf8.{bytes}
use Rattle.standard.proofs.Computing.{computing}
use Rattle.lists.proofs.Cases.{Case, ◌gives◌, Hold}
use Rattle.escaper.specs.declared.Mode.{Mode}
use Rattle.escaper.specs.declared.Mode.TheVariants.{Text, Attribute}
use Rattle.escaper.specs.declared.Escaped.{Escaped}
use Rattle.escaper.specs.Escape.{written_for, escape_from, escape_answer, escape_written, escaped, escaped_of}

-- What the definitions give for an input and so much room: the answer, and what is written.
abbrev pub escapes : Mode → List ℕ → ℕ → Escaped × List ℕ
escapes mode input room = (escaped_of mode input room, escape_written mode input room)

abbrev pub table : List (Case (Escaped × List ℕ))
table =
    (escapes Text (bytes "a&b<c>d\"e") 19 gives (escaped 0 19 0, bytes "a&amp;b&lt;c&gt;d\"e"))
    ∷ (escapes Attribute (bytes "a&b<c>d\"e") 24 gives (escaped 0 24 0, bytes "a&amp;b&lt;c&gt;d&quot;e"))
    ∷ (escapes Attribute (bytes "a&b<c>d\"e") 23 gives (escaped 9 24 0, bytes ""))
    ∷ (escapes Text (bytes "\u{a0}¡àႠࠠ") 20 gives (escaped 0 16 0, bytes "&nbsp;¡àႠࠠ"))
    ∷ (escapes Text (bytes "\0\r\n'") 4 gives (escaped 0 4 0, bytes "\0\r\n'"))
    ∷ (escapes Text [] 0 gives (escaped 0 0 0, bytes ""))
    ∷ (escapes Text (0x61 ∷ 0xE2 ∷ 0x82 ∷ []) 0 gives (escaped 1 0 1, bytes ""))
    ∷ (escapes Text (0xC2 ∷ 0x26 ∷ []) 9 gives (escaped 1 0 0, bytes ""))
    ∷ (escapes Text (0xA0 ∷ []) 9 gives (escaped 1 0 0, bytes ""))
    ∷ []

-- The definitions give what each case says.
pub escape_edges : Hold table
unfolding computing written_for escape_from escape_answer escape_written escaped_of
escape_edges = refl
