-- Document 01, 'Marked sources': M1 to M14 as one table, and the theorem that the definitions give exactly these.
use mathlib.Core.Path.{refl}
use mathlib.Core.List.{List, [], ◌∷◌}
use Rattle.standard.specs.declared.Context.TheVariants.{Text, Attribute}
use Rattle.standard.specs.Errors.{error}
use Rattle.standard.specs.Utf8.{bytes}
use Rattle.standard.specs.Reading.{Stop, Reading}
use Rattle.standard.proofs.Computing.{computing}
use Rattle.lists.proofs.Cases.{Case, ◌gives◌, Hold}
use Rattle.standard.proofs.Sources.{reads, end, left}

-- M1 to M14.
abbrev pub table : List (Case (Stop × Reading))
table =
    (reads Text (bytes "") gives end 0 "" [])
    ∷ (reads Text (bytes "&amp;lt;") gives end 8 "&lt;" [])
    ∷ (reads Text (bytes "&notit;x") gives end 8 "¬it;x" (error 2 0 ∷ []))
    ∷ (reads Text (bytes "&notin;") gives end 7 "∉" [])
    ∷ (reads Attribute (bytes "&not=1") gives end 6 "&not=1" [])
    ∷ (reads Attribute (bytes "&not") gives end 4 "¬" (error 2 0 ∷ []))
    ∷ (reads Text (bytes "&#x110000;") gives end 10 "�" (error 3 0 ∷ []))
    ∷ (reads Text (bytes "&#128") gives end 5 "€" (error 2 0 ∷ error 3 0 ∷ []))
    ∷ (reads Text (bytes "&#x;") gives end 4 "&#x;" (error 1 0 ∷ []))
    ∷ (reads Text (bytes "&#13;\r\n") gives end 7 "\r\n" (error 3 0 ∷ []))
    ∷ (reads Text (bytes "&abc;") gives end 5 "&abc;" (error 4 0 ∷ []))
    ∷ (reads Text (bytes "a<b") gives left 1 "a" [])
    ∷ (reads Text (bytes "&&lt") gives end 4 "&<" (error 2 1 ∷ []))
    ∷ (reads Text (bytes "&centerdot") gives end 10 "¢erdot" (error 2 0 ∷ []))
    ∷ []

-- The definitions give what each row says.
pub marked : Hold table
unfolding computing
marked = refl
