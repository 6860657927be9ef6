-- Document 01, 'What the bench reads': what depends on the context.
use Rattle.std.specs.Prelude.{ℕ, Bool, true, false, eqb}
use Prim.Native.Char.{code}
use Rattle.standard.specs.declared.Context.{Context}
use Rattle.standard.specs.declared.Context.TheVariants.{Text, Attribute}

-- Document 01, 'Whole-slice calls', '0 (text) and 1 (attribute)': its number.
abbrev pub number_of : Context → ℕ
number_of Text = 0
number_of Attribute = 1

-- The character before which a source ends.
abbrev pub end_byte : Context → ℕ
end_byte Text = code "<"
end_byte Attribute = code "\""

-- A source ends before that character.
abbrev pub ends : Context → ℕ → Bool
ends context c = eqb c (end_byte context)

-- A reference is read as part of an attribute (WHATWG HTML, 13.2.5, 'consumed as part of an attribute').
abbrev pub in_attribute : Context → Bool
in_attribute Text = false
in_attribute Attribute = true

-- The character that is refused: NUL, in each context.
abbrev pub refused : Context → ℕ → Bool
refused context c = eqb c 0
