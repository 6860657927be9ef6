-- Transcripts at the edges of each reason, as one table, and the theorem that the definitions give exactly these.
use Prim.Native.Nat.{ℕ}
use Prim.Native.String.{String}
use mathlib.Core.Path.{refl}
use mathlib.Core.List.{List, [], ◌∷◌}
use Rattle.standard.specs.declared.Context.{Context}
use Rattle.standard.specs.declared.Context.TheVariants.{Text, Attribute}
use Rattle.standard.specs.Utf8.{bytes}
use Rattle.standard.specs.Errors.{numbers}
use Rattle.standard.specs.NameList.{builtin}
use Rattle.standard.proofs.Computing.{computing}
use Rattle.lists.proofs.Cases.{Case, ◌gives◌, Hold}
use Rattle.checker.specs.declared.checking.Checked.{Checked}
use Rattle.checker.specs.Transcript.{rows_of, total, reached, wrong, verdict, judge, checked, checked_of}

-- What the definitions give for a source and its transcript: the numbers of its rows, its text, and the numbers of its errors.
abbrev pub checks : Context → String → List ℕ → String → List ℕ → Checked
checks context source rows text errors = checked_of builtin context (bytes source) rows (bytes text) errors

-- Answer 0 with a verdict on a row.
abbrev pub judged : (reason row : ℕ) → Checked
judged reason row = checked 0 (verdict reason row) 0

abbrev pub table : List (Case Checked)
table =
    (checks Text "&notit;x" (8 ∷ 6 ∷ 1 ∷ []) "¬it;x" (2 ∷ 0 ∷ []) gives judged 0 0)
    ∷ (checks Text "&notit;x" (4 ∷ 2 ∷ 1 ∷ 1 ∷ 1 ∷ 0 ∷ 3 ∷ 3 ∷ 0 ∷ []) "¬it;x" (2 ∷ 0 ∷ []) gives judged 0 0)
    ∷ (checks Text "" [] "" [] gives judged 0 0)
    ∷ (checks Text "<a" [] "" [] gives judged 0 0)
    ∷ (checks Text "" (0 ∷ 0 ∷ 0 ∷ []) "" [] gives judged 1 0)
    ∷ (checks Text "ab" (1 ∷ 1 ∷ 0 ∷ 0 ∷ 0 ∷ 0 ∷ 1 ∷ 1 ∷ 0 ∷ []) "ab" [] gives judged 1 1)
    ∷ (checks Text "ab<c" (3 ∷ 3 ∷ 0 ∷ []) "ab" [] gives judged 1 0)
    ∷ (checks Text "ab" (4294967295 ∷ 2 ∷ 0 ∷ []) "ab" [] gives judged 1 0)
    ∷ (checks Text "\r\n" (1 ∷ 1 ∷ 0 ∷ 1 ∷ 0 ∷ 0 ∷ []) "\n" [] gives judged 2 0)
    ∷ (checks Attribute "&not=1" (4 ∷ 4 ∷ 0 ∷ 2 ∷ 2 ∷ 0 ∷ []) "&not=1" [] gives judged 0 0)
    ∷ (checks Text "a&amp;" (3 ∷ 2 ∷ 0 ∷ []) "a&" [] gives judged 2 0)
    ∷ (checks Text "ab" (1 ∷ 1 ∷ 0 ∷ 1 ∷ 1 ∷ 0 ∷ []) "ac" [] gives judged 3 1)
    ∷ (checks Text "ab" (2 ∷ 1 ∷ 0 ∷ []) "ab" [] gives judged 3 0)
    ∷ (checks Text "ab" (2 ∷ 4294967295 ∷ 0 ∷ []) "ab" [] gives judged 3 0)
    ∷ (checks Text "ab" (2 ∷ 2 ∷ 0 ∷ []) "a" [] gives judged 3 0)
    ∷ (checks Text "&#128" (5 ∷ 3 ∷ 2 ∷ []) "€" (2 ∷ 0 ∷ 3 ∷ 0 ∷ []) gives judged 0 0)
    ∷ (checks Text "&#128" (5 ∷ 3 ∷ 2 ∷ []) "€" (3 ∷ 0 ∷ 2 ∷ 0 ∷ []) gives judged 4 0)
    ∷ (checks Text "&#128" (5 ∷ 3 ∷ 1 ∷ []) "€" (2 ∷ 0 ∷ 3 ∷ 0 ∷ []) gives judged 4 0)
    ∷ (checks Text "&#128" (5 ∷ 3 ∷ 4294967295 ∷ []) "€" (2 ∷ 0 ∷ 3 ∷ 0 ∷ []) gives judged 4 0)
    ∷ (checks Text "&#128" (5 ∷ 3 ∷ 2 ∷ []) "€" (2 ∷ 0 ∷ []) gives judged 4 0)
    ∷ (checks Text "&#128" (5 ∷ 3 ∷ 1 ∷ []) "?" (2 ∷ 0 ∷ []) gives judged 3 0)
    ∷ (checks Text "ab" (1 ∷ 1 ∷ 0 ∷ []) "ab" [] gives judged 5 1)
    ∷ (checks Text "ab" (2 ∷ 2 ∷ 0 ∷ []) "abc" [] gives judged 5 1)
    ∷ (checks Text "ab" (2 ∷ 2 ∷ 0 ∷ []) "ab" (5 ∷ 0 ∷ []) gives judged 5 1)
    ∷ (checks Text "ab" [] "ab" [] gives judged 5 0)
    ∷ (checks Text "a\0" (1 ∷ 1 ∷ []) "a" [] gives checked 10 (verdict 0 0) 0)
    ∷ (checks Text "a\0" (1 ∷ 1 ∷ 0 ∷ []) "a" (5 ∷ []) gives checked 10 (verdict 0 0) 0)
    ∷ (checks Text "a\0" (1 ∷ 1 ∷ 0 ∷ []) "a" [] gives checked 2 (verdict 0 0) 1)
    ∷ []

-- The definitions give what each case says.
pub check_edges : Hold table
unfolding computing numbers rows_of total reached wrong judge checked_of
check_edges = refl
