-- Inputs at the edges of escaping, as one table, and the theorem that the definitions give exactly these.
use Prim.Native.Nat.{ℕ}
use Prim.Native.String.{String}
use mathlib.Core.Path.{◌≡◌, refl}
use mathlib.Core.List.{List, [], ◌∷◌, map}
use Rattle.standard.specs.Utf8.{bytes}
use Rattle.standard.proofs.Computing.{computing}
use Rattle.escaper.specs.declared.Mode.{Mode}
use Rattle.escaper.specs.declared.Mode.TheVariants.{Text, Attribute}
use Rattle.escaper.specs.declared.Escaped.{Escaped}
use Rattle.escaper.specs.Escape.{written_for, escape_from, escape_answer, escape_written, escaped, escaped_of}

-- An input with its mode and room, the answer, and what is written.
pub record EscapeRow : Type 0 where
  pub mode : Mode
  pub input : List ℕ
  pub room : ℕ
  pub result : Escaped
  pub text : String

abbrev pub escape_row : Mode → List ℕ → ℕ → Escaped → String → EscapeRow
escape_row mode input room result text = record { mode = mode; input = input; room = room; result = result; text = text }

abbrev pub table : List EscapeRow
table =
    escape_row Text (bytes "a&b<c>d\"e") 19 (escaped 0 19 0) "a&amp;b&lt;c&gt;d\"e"
    ∷ escape_row Attribute (bytes "a&b<c>d\"e") 24 (escaped 0 24 0) "a&amp;b&lt;c&gt;d&quot;e"
    ∷ escape_row Attribute (bytes "a&b<c>d\"e") 23 (escaped 9 24 0) ""
    ∷ escape_row Text (bytes "\u{a0}¡àႠࠠ") 20 (escaped 0 16 0) "&nbsp;¡àႠࠠ"
    ∷ escape_row Text (bytes "\0\r\n'") 4 (escaped 0 4 0) "\0\r\n'"
    ∷ escape_row Text [] 0 (escaped 0 0 0) ""
    ∷ escape_row Text (0x61 ∷ 0xE2 ∷ 0x82 ∷ []) 0 (escaped 1 0 1) ""
    ∷ escape_row Text (0xC2 ∷ 0x26 ∷ []) 9 (escaped 1 0 0) ""
    ∷ escape_row Text (0xA0 ∷ []) 9 (escaped 1 0 0) ""
    ∷ []

-- What a row says, and what the definitions give.
abbrev pub says : EscapeRow → Escaped × List ℕ
says r = (r.result, bytes r.text)

abbrev pub gives : EscapeRow → Escaped × List ℕ
gives r = (escaped_of r.mode r.input r.room, escape_written r.mode r.input r.room)

-- They are the same, row by row.
pub escape_edges : map gives table ≡ map says table
unfolding computing written_for escape_from escape_answer escape_written escaped_of
escape_edges = refl
