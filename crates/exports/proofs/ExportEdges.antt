-- Calls of the exports at their edges, as tables, and the theorem that the definitions give exactly these.
use Prim.Native.Nat.{ℕ, zero, suc}
use Prim.Native.String.{String}
use mathlib.Core.Path.{refl}
use mathlib.Core.List.{List, [], ◌∷◌}
use Rattle.lists.specs.Bytes.{fours, words}
use Rattle.lists.proofs.Cases.{Case, ◌gives◌, Hold}
use Rattle.standard.specs.Errors.{numbers}
use Rattle.standard.specs.Utf8.{bytes}
use Rattle.standard.proofs.Computing.{computing}
use Rattle.decoder.specs.Whole.{answer_of, written_of, decoded_of}
use Rattle.escaper.specs.Escape.{written_for, escape_from, escaped_of, escape_answer, escape_written}
use Rattle.checker.specs.Transcript.{rows_of, total, reached, wrong, judge, checked_of, checked_bytes}
use Rattle.exports.specs.Exports.{Given, reported, untouched, meant, context_of, mode_of, asked, decodes, escapes, checks}

-- So many bytes of a room or a report.
unfoldable pub zeros : ℕ → List ℕ
zeros zero = []
zeros (suc n) = 0 ∷ zeros n

-- A number, a report of so many bytes, a source, and rooms of so many bytes.
abbrev pub decode_call : (number report : ℕ) → String → (text errors : ℕ) → Given
decode_call number report source text errors = asked (zeros report) (context_of number) (decodes (bytes source) (zeros text) (zeros errors))

abbrev pub escape_call : (number report : ℕ) → String → (out : ℕ) → Given
escape_call number report input out = asked (zeros report) (mode_of number) (escapes (bytes input) (zeros out))

abbrev pub check_call : (number report : ℕ) → String → (rows : List ℕ) → String → (errors : List ℕ) → Given
check_call number report source rows text errors = asked (zeros report) (context_of number) (checks (bytes source) rows (bytes text) errors)

abbrev pub table : List (Case Given)
table =
    (decode_call 0 16 "&notit;x" 72 96 gives reported 0 6 1 0 (bytes "¬it;x") (fours (2 ∷ 0 ∷ [])))
    ∷ (decode_call 1 16 "&not=1\"&" 72 96 gives reported 7 6 0 6 (bytes "&not=1") [])
    ∷ (decode_call 0 16 "a\0" 66 48 gives reported 2 0 0 1 [] [])
    ∷ (decode_call 0 16 "a&#" 67 59 gives reported 0 3 1 0 (bytes "a&#") (fours (1 ∷ 1 ∷ [])))
    ∷ (decode_call 0 16 "a&#" 67 55 gives reported 9 67 0 0 [] [])
    ∷ (decode_call 0 16 "a&#" 66 56 gives reported 9 67 0 0 [] [])
    ∷ (decode_call 2 16 "a&#" 67 56 gives untouched)
    ∷ (decode_call 0 15 "a&#" 67 56 gives untouched)
    ∷ (decode_call 1 17 "a&#" 67 56 gives untouched)
    ∷ (escape_call 0 16 "a<\"" 6 gives reported 0 6 0 0 (bytes "a&lt;\"") [])
    ∷ (escape_call 1 16 "a<\"" 10 gives reported 9 11 0 0 [] [])
    ∷ (escape_call 2 16 "a<\"" 11 gives untouched)
    ∷ (escape_call 1 0 "a<\"" 11 gives untouched)
    ∷ (check_call 0 16 "&notit;x" (fours (4 ∷ 2 ∷ 1 ∷ 4 ∷ 4 ∷ 0 ∷ [])) "¬it;x" (fours (2 ∷ 0 ∷ [])) gives reported 0 0 0 0 [] [])
    ∷ (check_call 0 16 "&notit;x" (fours (4 ∷ 2 ∷ 1 ∷ 4 ∷ 4 ∷ 1 ∷ [])) "¬it;x" (fours (2 ∷ 0 ∷ [])) gives reported 0 4 1 0 [] [])
    ∷ (check_call 1 16 "a" (fours (1 ∷ 1 ∷ 0 ∷ [])) "a" (0 ∷ []) gives reported 10 0 0 0 [] [])
    ∷ (check_call 2 16 "a" (fours (1 ∷ 1 ∷ 0 ∷ [])) "a" [] gives untouched)
    ∷ []

-- `unfolding computing_calls` opens the definitions of the three calls.
unfoldable computing_calls : Unit {0}
unfolding numbers fours answer_of written_of decoded_of written_for escape_from escape_answer escape_written escaped_of rows_of total reached wrong
    judge
computing_calls = tt

-- The definitions give what each row says.
pub export_edges : Hold table
unfolding computing computing_calls zeros checked_of words checked_bytes meant asked decodes escapes checks
export_edges = refl
