-- Sources at the edges of document 01's rules, as one table, and the theorem that the definitions give exactly these.
use mathlib.Core.Path.{◌≡◌, refl}
use mathlib.Core.List.{List, [], ◌∷◌, map}
use Rattle.standard.specs.declared.Context.TheVariants.{Text, Attribute}
use Rattle.standard.specs.Answers.{ill_formed, nul}
use Rattle.standard.specs.Errors.{error}
use Rattle.standard.specs.Reading.{stops}
use Rattle.standard.proofs.Computing.{computing}
use Rattle.demands.proofs.Rows.{SourceRow, source_row, quoted_row, end, left, says, gives}

-- Ends and refusals, with the text of what stands before them.
abbrev pub closing_edges : List SourceRow
closing_edges =
    quoted_row Attribute "x\"y" "x" [] (left 1)
    ∷ quoted_row Attribute "x<y" "x<y" [] (end 3)
    ∷ quoted_row Text "x\"<" "x\"" [] (left 2)
    ∷ quoted_row Attribute "&not\"" "¬" (error 2 0 ∷ []) (left 4)
    ∷ quoted_row Text "a\0" "a" [] (stops nul 1)
    ∷ quoted_row Text "<\0" "" [] (left 0)
    ∷ source_row Text (0xE2 ∷ []) "" [] (stops ill_formed 0)
    ∷ source_row Text (0xE2 ∷ 0x3C ∷ []) "" [] (stops ill_formed 0)
    ∷ source_row Text (0x61 ∷ 0xF0 ∷ 0x9F ∷ 0x92 ∷ []) "a" [] (stops ill_formed 1)
    ∷ source_row Text (0x61 ∷ 0xED ∷ 0xA0 ∷ 0x80 ∷ []) "a" [] (stops ill_formed 1)
    ∷ source_row Text (0xC0 ∷ 0x80 ∷ []) "" [] (stops ill_formed 0)
    ∷ source_row Text (0xF5 ∷ []) "" [] (stops ill_formed 0)
    ∷ []

-- Newlines and characters that stand for themselves.
abbrev pub character_edges : List SourceRow
character_edges =
    quoted_row Text "a\rb\nc\r\nd\r" "a\nb\nc\nd\n" [] (end 9)
    ∷ quoted_row Text "\r\r\n" "\n\n" [] (end 3)
    ∷ quoted_row Text "\r&#10;" "\n\n" [] (end 6)
    ∷ quoted_row Text "&#13;\n" "\r\n" (error 3 0 ∷ []) (end 6)
    ∷ quoted_row Text "\t\u{b}\u{c}\u{1}" "\t\u{b}\u{c}\u{1}" (error 5 1 ∷ error 5 3 ∷ []) (end 4)
    ∷ quoted_row Text "\u{7f}\u{9f}\u{a0}" "\u{7f}\u{9f}\u{a0}" (error 5 0 ∷ error 5 1 ∷ []) (end 5)
    ∷ quoted_row Text "\u{feff}\u{fdd0}\u{10ffff}" "\u{feff}\u{fdd0}\u{10ffff}" (error 5 3 ∷ error 5 6 ∷ []) (end 10)
    ∷ []

-- Numbers.
abbrev pub number_edges : List SourceRow
number_edges =
    quoted_row Text "&#Xaf;&#xAF;" "¯¯" [] (end 12)
    ∷ quoted_row Text "&#xg&#a&#" "&#xg&#a&#" (error 1 0 ∷ error 1 4 ∷ error 1 7 ∷ []) (end 9)
    ∷ quoted_row Text "&#65x&#65" "AxA" (error 2 0 ∷ error 2 5 ∷ []) (end 9)
    ∷ quoted_row Text "&#0;&#00065;" "�A" (error 3 0 ∷ []) (end 12)
    ∷ quoted_row Text "&#x10FFFF;" "\u{10ffff}" (error 3 0 ∷ []) (end 10)
    ∷ quoted_row Text "&#xD7FF;&#xD800;" "\u{d7ff}�" (error 3 8 ∷ []) (end 16)
    ∷ quoted_row Text "&#4294967361;" "�" (error 3 0 ∷ []) (end 13)
    ∷ quoted_row Text "&#x81;&#x9F" "\u{81}Ÿ" (error 3 0 ∷ error 2 6 ∷ error 3 6 ∷ []) (end 11)
    ∷ []

-- Names.
abbrev pub name_edges : List SourceRow
name_edges =
    quoted_row Text "&;&Z0;&9z;&z&" "&;&Z0;&9z;&z&" (error 4 2 ∷ error 4 6 ∷ []) (end 13)
    ∷ quoted_row Text "&fjlig;&apos" "fj&apos" [] (end 12)
    ∷ quoted_row Text "&ampx&amp=&amp" "&x&=&" (error 2 0 ∷ error 2 5 ∷ error 2 10 ∷ []) (end 14)
    ∷ quoted_row Attribute "&ampx&amp=&amp&amp1&amp;1" "&ampx&amp=&&amp1&1" (error 2 10 ∷ []) (end 25)
    ∷ quoted_row Attribute "&notit;&notin;&not " "&notit;∉¬ " (error 2 14 ∷ []) (end 19)
    ∷ []

-- The definitions give what each row says.
pub edges : (map gives closing_edges ≡ map says closing_edges) × (map gives character_edges ≡ map says character_edges)
    × (map gives number_edges ≡ map says number_edges) × (map gives name_edges ≡ map says name_edges)
unfolding computing
edges = (refl, refl, refl, refl)
