-- Document 01, 'Names, 216': the 106 names that WHATWG HTML, 13.5, lists without `;`, each with and without it, and four more.
use Rattle.std.specs.Prelude.{ℕ, List, [], ◌∷◌, ◌++◌}
use Prim.Native.Char.{code}
use Prim.Native.String.{String}
use Rattle.standard.specs.Utf8.{bytes}
use Rattle.standard.specs.Names.{Name, name}

-- A word that is a name without `;` and with it.
abbrev pub both : String → ℕ → List Name
both word first = name (bytes word) first 0 ∷ name (bytes word ++ code ";" ∷ []) first 0 ∷ []

-- A word that is a name only as it stands, with its `;`.
abbrev pub only : String → ℕ → ℕ → List Name
only word first second = name (bytes word) first second ∷ []

-- The names, sorted by their bytes.
unfoldable pub builtin : List Name
builtin =
    both "AElig" 0xC6 ++ both "AMP" 0x26 ++ both "Aacute" 0xC1 ++ both "Acirc" 0xC2 ++ both "Agrave" 0xC0
    ++ both "Aring" 0xC5 ++ both "Atilde" 0xC3 ++ both "Auml" 0xC4 ++ both "COPY" 0xA9 ++ both "Ccedil" 0xC7
    ++ both "ETH" 0xD0 ++ both "Eacute" 0xC9 ++ both "Ecirc" 0xCA ++ both "Egrave" 0xC8 ++ both "Euml" 0xCB
    ++ both "GT" 0x3E ++ both "Iacute" 0xCD ++ both "Icirc" 0xCE ++ both "Igrave" 0xCC ++ both "Iuml" 0xCF
    ++ both "LT" 0x3C ++ both "Ntilde" 0xD1 ++ both "Oacute" 0xD3 ++ both "Ocirc" 0xD4 ++ both "Ograve" 0xD2
    ++ both "Oslash" 0xD8 ++ both "Otilde" 0xD5 ++ both "Ouml" 0xD6 ++ both "QUOT" 0x22 ++ both "REG" 0xAE
    ++ both "THORN" 0xDE ++ both "Uacute" 0xDA ++ both "Ucirc" 0xDB ++ both "Ugrave" 0xD9 ++ both "Uuml" 0xDC
    ++ both "Yacute" 0xDD ++ both "aacute" 0xE1 ++ both "acirc" 0xE2 ++ both "acute" 0xB4 ++ both "aelig" 0xE6
    ++ both "agrave" 0xE0 ++ both "amp" 0x26 ++ only "apos;" 0x27 0 ++ both "aring" 0xE5 ++ both "atilde" 0xE3
    ++ both "auml" 0xE4 ++ both "brvbar" 0xA6 ++ both "ccedil" 0xE7 ++ both "cedil" 0xB8 ++ both "cent" 0xA2
    ++ only "centerdot;" 0xB7 0 ++ both "copy" 0xA9 ++ both "curren" 0xA4 ++ both "deg" 0xB0 ++ both "divide" 0xF7
    ++ both "eacute" 0xE9 ++ both "ecirc" 0xEA ++ both "egrave" 0xE8 ++ both "eth" 0xF0 ++ both "euml" 0xEB
    ++ only "fjlig;" 0x66 0x6A ++ both "frac12" 0xBD ++ both "frac14" 0xBC ++ both "frac34" 0xBE ++ both "gt" 0x3E
    ++ both "iacute" 0xED ++ both "icirc" 0xEE ++ both "iexcl" 0xA1 ++ both "igrave" 0xEC ++ both "iquest" 0xBF
    ++ both "iuml" 0xEF ++ both "laquo" 0xAB ++ both "lt" 0x3C ++ both "macr" 0xAF ++ both "micro" 0xB5
    ++ both "middot" 0xB7 ++ both "nbsp" 0xA0 ++ both "not" 0xAC ++ only "notin;" 0x2209 0 ++ both "ntilde" 0xF1
    ++ both "oacute" 0xF3 ++ both "ocirc" 0xF4 ++ both "ograve" 0xF2 ++ both "ordf" 0xAA ++ both "ordm" 0xBA
    ++ both "oslash" 0xF8 ++ both "otilde" 0xF5 ++ both "ouml" 0xF6 ++ both "para" 0xB6 ++ both "plusmn" 0xB1
    ++ both "pound" 0xA3 ++ both "quot" 0x22 ++ both "raquo" 0xBB ++ both "reg" 0xAE ++ both "sect" 0xA7
    ++ both "shy" 0xAD ++ both "sup1" 0xB9 ++ both "sup2" 0xB2 ++ both "sup3" 0xB3 ++ both "szlig" 0xDF
    ++ both "thorn" 0xFE ++ both "times" 0xD7 ++ both "uacute" 0xFA ++ both "ucirc" 0xFB ++ both "ugrave" 0xF9
    ++ both "uml" 0xA8 ++ both "uuml" 0xFC ++ both "yacute" 0xFD ++ both "yen" 0xA5 ++ both "yuml" 0xFF
