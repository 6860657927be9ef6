-- Document 01, 'Marked sources': M1 to M14 as one table, and the theorem that the definitions give exactly these.
use mathlib.Core.Path.{◌≡◌, refl}
use mathlib.Core.List.{List, [], ◌∷◌, map}
use Rattle.standard.specs.declared.Context.TheVariants.{Text, Attribute}
use Rattle.standard.specs.Errors.{error}
use Rattle.standard.proofs.Computing.{computing}
use Rattle.demands.proofs.Rows.{SourceRow, quoted_row, end, left, says, gives}

-- M1 to M14.
abbrev pub table : List SourceRow
table =
    quoted_row Text "" "" [] (end 0)
    ∷ quoted_row Text "&amp;lt;" "&lt;" [] (end 8)
    ∷ quoted_row Text "&notit;x" "¬it;x" (error 2 0 ∷ []) (end 8)
    ∷ quoted_row Text "&notin;" "∉" [] (end 7)
    ∷ quoted_row Attribute "&not=1" "&not=1" [] (end 6)
    ∷ quoted_row Attribute "&not" "¬" (error 2 0 ∷ []) (end 4)
    ∷ quoted_row Text "&#x110000;" "�" (error 3 0 ∷ []) (end 10)
    ∷ quoted_row Text "&#128" "€" (error 2 0 ∷ error 3 0 ∷ []) (end 5)
    ∷ quoted_row Text "&#x;" "&#x;" (error 1 0 ∷ []) (end 4)
    ∷ quoted_row Text "&#13;\r\n" "\r\n" (error 3 0 ∷ []) (end 7)
    ∷ quoted_row Text "&abc;" "&abc;" (error 4 0 ∷ []) (end 5)
    ∷ quoted_row Text "a<b" "a" [] (left 1)
    ∷ quoted_row Text "&&lt" "&<" (error 2 1 ∷ []) (end 4)
    ∷ quoted_row Text "&centerdot" "¢erdot" (error 2 0 ∷ []) (end 10)
    ∷ []

-- The definitions give what each row says.
pub marked : map gives table ≡ map says table
unfolding computing
marked = refl
