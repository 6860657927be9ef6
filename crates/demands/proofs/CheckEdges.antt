-- Transcripts at the edges of each reason, as one table, and the theorem that the definitions give exactly these.
use Prim.Native.Nat.{ℕ}
use Prim.Native.String.{String}
use mathlib.Core.Path.{◌≡◌, refl}
use mathlib.Core.List.{List, [], ◌∷◌, map}
use Rattle.standard.specs.declared.Context.{Context}
use Rattle.standard.specs.declared.Context.TheVariants.{Text, Attribute}
use Rattle.standard.specs.Utf8.{bytes}
use Rattle.standard.specs.Errors.{numbers}
use Rattle.standard.specs.NameList.{builtin}
use Rattle.standard.proofs.Computing.{computing}
use Rattle.checker.specs.declared.checking.Checked.{Checked}
use Rattle.checker.specs.Transcript.{rows_of, total, reached, wrong, verdict, judge, checked, checked_of}

-- A transcript of a source: the numbers of its rows, its text, and the numbers of its errors; and the answer.
pub record CheckRow : Type 0 where
  pub context : Context
  pub source : String
  pub rows : List ℕ
  pub text : String
  pub errors : List ℕ
  pub answer : Checked

-- A transcript that is answered so, and one that is answered 0 with a verdict on a row.
abbrev pub check_row : Context → String → List ℕ → String → List ℕ → Checked → CheckRow
check_row context source rows text errors answer =
    record { context = context; source = source; rows = rows; text = text; errors = errors; answer = answer }

abbrev pub judged : Context → String → List ℕ → String → List ℕ → (reason row : ℕ) → CheckRow
judged context source rows text errors reason row = check_row context source rows text errors (checked 0 (verdict reason row) 0)

abbrev pub table : List CheckRow
table =
    judged Text "&notit;x" (8 ∷ 6 ∷ 1 ∷ []) "¬it;x" (2 ∷ 0 ∷ []) 0 0
    ∷ judged Text "&notit;x" (4 ∷ 2 ∷ 1 ∷ 1 ∷ 1 ∷ 0 ∷ 3 ∷ 3 ∷ 0 ∷ []) "¬it;x" (2 ∷ 0 ∷ []) 0 0
    ∷ judged Text "" [] "" [] 0 0
    ∷ judged Text "<a" [] "" [] 0 0
    ∷ judged Text "" (0 ∷ 0 ∷ 0 ∷ []) "" [] 1 0
    ∷ judged Text "ab" (1 ∷ 1 ∷ 0 ∷ 0 ∷ 0 ∷ 0 ∷ 1 ∷ 1 ∷ 0 ∷ []) "ab" [] 1 1
    ∷ judged Text "ab<c" (3 ∷ 3 ∷ 0 ∷ []) "ab" [] 1 0
    ∷ judged Text "ab" (4294967295 ∷ 2 ∷ 0 ∷ []) "ab" [] 1 0
    ∷ judged Text "\r\n" (1 ∷ 1 ∷ 0 ∷ 1 ∷ 0 ∷ 0 ∷ []) "\n" [] 2 0
    ∷ judged Attribute "&not=1" (4 ∷ 4 ∷ 0 ∷ 2 ∷ 2 ∷ 0 ∷ []) "&not=1" [] 0 0
    ∷ judged Text "a&amp;" (3 ∷ 2 ∷ 0 ∷ []) "a&" [] 2 0
    ∷ judged Text "ab" (1 ∷ 1 ∷ 0 ∷ 1 ∷ 1 ∷ 0 ∷ []) "ac" [] 3 1
    ∷ judged Text "ab" (2 ∷ 1 ∷ 0 ∷ []) "ab" [] 3 0
    ∷ judged Text "ab" (2 ∷ 4294967295 ∷ 0 ∷ []) "ab" [] 3 0
    ∷ judged Text "ab" (2 ∷ 2 ∷ 0 ∷ []) "a" [] 3 0
    ∷ judged Text "&#128" (5 ∷ 3 ∷ 2 ∷ []) "€" (2 ∷ 0 ∷ 3 ∷ 0 ∷ []) 0 0
    ∷ judged Text "&#128" (5 ∷ 3 ∷ 2 ∷ []) "€" (3 ∷ 0 ∷ 2 ∷ 0 ∷ []) 4 0
    ∷ judged Text "&#128" (5 ∷ 3 ∷ 1 ∷ []) "€" (2 ∷ 0 ∷ 3 ∷ 0 ∷ []) 4 0
    ∷ judged Text "&#128" (5 ∷ 3 ∷ 4294967295 ∷ []) "€" (2 ∷ 0 ∷ 3 ∷ 0 ∷ []) 4 0
    ∷ judged Text "&#128" (5 ∷ 3 ∷ 2 ∷ []) "€" (2 ∷ 0 ∷ []) 4 0
    ∷ judged Text "&#128" (5 ∷ 3 ∷ 1 ∷ []) "?" (2 ∷ 0 ∷ []) 3 0
    ∷ judged Text "ab" (1 ∷ 1 ∷ 0 ∷ []) "ab" [] 5 1
    ∷ judged Text "ab" (2 ∷ 2 ∷ 0 ∷ []) "abc" [] 5 1
    ∷ judged Text "ab" (2 ∷ 2 ∷ 0 ∷ []) "ab" (5 ∷ 0 ∷ []) 5 1
    ∷ judged Text "ab" [] "ab" [] 5 0
    ∷ check_row Text "a\0" (1 ∷ 1 ∷ []) "a" [] (checked 10 (verdict 0 0) 0)
    ∷ check_row Text "a\0" (1 ∷ 1 ∷ 0 ∷ []) "a" (5 ∷ []) (checked 10 (verdict 0 0) 0)
    ∷ check_row Text "a\0" (1 ∷ 1 ∷ 0 ∷ []) "a" [] (checked 2 (verdict 0 0) 1)
    ∷ []

-- What the definitions give.
abbrev pub gives : CheckRow → Checked
gives j = checked_of builtin j.context (bytes j.source) j.rows (bytes j.text) j.errors

-- They are the same, row by row.
pub check_edges : map gives table ≡ map (λ j. j.answer) table
unfolding computing numbers rows_of total reached wrong judge checked_of
check_edges = refl
