-- The parse errors of WHATWG HTML, 13.2.2, by their names there, with the codes and the place that document 01 gives them.
use Rattle.std.specs.Prelude.{ℕ, List, [], ◌∷◌, eqb, if◌then◌else◌}

-- The codes; 0 stands for no error, and the others for the errors of their names.
abbrev pub no_error : ℕ
no_error = 0

abbrev pub absence_of_digits_in_numeric_character_reference : ℕ
absence_of_digits_in_numeric_character_reference = 1

abbrev pub missing_semicolon_after_character_reference : ℕ
missing_semicolon_after_character_reference = 2

abbrev pub null_character_reference : ℕ
null_character_reference = 3

abbrev pub character_reference_outside_unicode_range : ℕ
character_reference_outside_unicode_range = 3

abbrev pub surrogate_character_reference : ℕ
surrogate_character_reference = 3

abbrev pub noncharacter_character_reference : ℕ
noncharacter_character_reference = 3

abbrev pub control_character_reference : ℕ
control_character_reference = 3

abbrev pub unknown_named_character_reference : ℕ
unknown_named_character_reference = 4

abbrev pub control_character_in_input_stream : ℕ
control_character_in_input_stream = 5

abbrev pub noncharacter_in_input_stream : ℕ
noncharacter_in_input_stream = 5

-- A code as a list: empty for no error.
abbrev pub listed : ℕ → List ℕ
listed code = if eqb code no_error then [] else code ∷ []

-- An error: its code, and its place in the source.
pub record Error : Type 0 where
  pub code : ℕ
  pub place : ℕ

-- An error, given its code and its place.
abbrev pub error : ℕ → ℕ → Error
error code place = record { code = code; place = place }

-- Where errors are placed: at the offset of their piece.
unfoldable pub placed : ℕ → List ℕ → List Error
placed offset [] = []
placed offset (code ∷ codes) = error code offset ∷ placed offset codes

-- Errors as numbers: code and place of each.
unfoldable pub numbers : List Error → List ℕ
numbers [] = []
numbers (e ∷ errors) = e.code ∷ e.place ∷ numbers errors
