-- Sources at the edges of document 01's rules, as one table, and the theorem that the definitions give exactly these.
use mathlib.Core.Path.{refl}
use mathlib.Core.List.{List, [], ◌∷◌}
use Rattle.standard.specs.declared.Context.TheVariants.{Text, Attribute}
use Rattle.standard.specs.Answers.{ill_formed, nul}
use Rattle.standard.specs.Errors.{error}
use Rattle.standard.specs.Utf8.{bytes}
use Rattle.standard.specs.Reading.{Stop, Reading}
use Rattle.standard.proofs.Computing.{computing}
use Rattle.lists.proofs.Cases.{Case, ◌gives◌, Hold}
use Rattle.standard.proofs.Sources.{reads, closes, end, left}

abbrev pub table : List (Case (Stop × Reading))
table =
    -- Ends and refusals, with the text of what stands before them.
    (reads Attribute (bytes "x\"y") gives left 1 "x" [])
    ∷ (reads Attribute (bytes "x<y") gives end 3 "x<y" [])
    ∷ (reads Text (bytes "x\"<") gives left 2 "x\"" [])
    ∷ (reads Attribute (bytes "&not\"") gives left 4 "¬" (error 2 0 ∷ []))
    ∷ (reads Text (bytes "a\0") gives closes nul 1 "a" [])
    ∷ (reads Text (bytes "<\0") gives left 0 "" [])
    ∷ (reads Text (0xE2 ∷ []) gives closes ill_formed 0 "" [])
    ∷ (reads Text (0xE2 ∷ 0x3C ∷ []) gives closes ill_formed 0 "" [])
    ∷ (reads Text (0x61 ∷ 0xF0 ∷ 0x9F ∷ 0x92 ∷ []) gives closes ill_formed 1 "a" [])
    ∷ (reads Text (0x61 ∷ 0xED ∷ 0xA0 ∷ 0x80 ∷ []) gives closes ill_formed 1 "a" [])
    ∷ (reads Text (0xC0 ∷ 0x80 ∷ []) gives closes ill_formed 0 "" [])
    ∷ (reads Text (0xF5 ∷ []) gives closes ill_formed 0 "" [])
    -- Newlines and characters that stand for themselves.
    ∷ (reads Text (bytes "a\rb\nc\r\nd\r") gives end 9 "a\nb\nc\nd\n" [])
    ∷ (reads Text (bytes "\r\r\n") gives end 3 "\n\n" [])
    ∷ (reads Text (bytes "\r&#10;") gives end 6 "\n\n" [])
    ∷ (reads Text (bytes "&#13;\n") gives end 6 "\r\n" (error 3 0 ∷ []))
    ∷ (reads Text (bytes "\t\u{b}\u{c}\u{1}") gives end 4 "\t\u{b}\u{c}\u{1}" (error 5 1 ∷ error 5 3 ∷ []))
    ∷ (reads Text (bytes "\u{7f}\u{9f}\u{a0}") gives end 5 "\u{7f}\u{9f}\u{a0}" (error 5 0 ∷ error 5 1 ∷ []))
    ∷ (reads Text (bytes "\u{feff}\u{fdd0}\u{10ffff}") gives end 10 "\u{feff}\u{fdd0}\u{10ffff}" (error 5 3 ∷ error 5 6 ∷ []))
    -- Numbers.
    ∷ (reads Text (bytes "&#Xaf;&#xAF;") gives end 12 "¯¯" [])
    ∷ (reads Text (bytes "&#xg&#a&#") gives end 9 "&#xg&#a&#" (error 1 0 ∷ error 1 4 ∷ error 1 7 ∷ []))
    ∷ (reads Text (bytes "&#65x&#65") gives end 9 "AxA" (error 2 0 ∷ error 2 5 ∷ []))
    ∷ (reads Text (bytes "&#0;&#00065;") gives end 12 "�A" (error 3 0 ∷ []))
    ∷ (reads Text (bytes "&#x10FFFF;") gives end 10 "\u{10ffff}" (error 3 0 ∷ []))
    ∷ (reads Text (bytes "&#xD7FF;&#xD800;") gives end 16 "\u{d7ff}�" (error 3 8 ∷ []))
    ∷ (reads Text (bytes "&#4294967361;") gives end 13 "�" (error 3 0 ∷ []))
    ∷ (reads Text (bytes "&#x81;&#x9F") gives end 11 "\u{81}Ÿ" (error 3 0 ∷ error 2 6 ∷ error 3 6 ∷ []))
    -- Names.
    ∷ (reads Text (bytes "&;&Z0;&9z;&z&") gives end 13 "&;&Z0;&9z;&z&" (error 4 2 ∷ error 4 6 ∷ []))
    ∷ (reads Text (bytes "&fjlig;&apos") gives end 12 "fj&apos" [])
    ∷ (reads Text (bytes "&ampx&amp=&amp") gives end 14 "&x&=&" (error 2 0 ∷ error 2 5 ∷ error 2 10 ∷ []))
    ∷ (reads Attribute (bytes "&ampx&amp=&amp&amp1&amp;1") gives end 25 "&ampx&amp=&&amp1&1" (error 2 10 ∷ []))
    ∷ (reads Attribute (bytes "&notit;&notin;&not ") gives end 19 "&notit;∉¬ " (error 2 14 ∷ []))
    ∷ []

-- The definitions give what each case says.
pub edges : Hold table
unfolding computing
edges = refl
