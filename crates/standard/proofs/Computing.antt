-- For facts that are computed: `unfolding computing` opens every definition of specs/.
use Rattle.lists.specs.Notation.{front}
use Rattle.standard.specs.Utf8.{octets, encode, bytes, tails, after_lead, read_char}
use Rattle.standard.specs.Errors.{placed}
use Rattle.standard.specs.Classes.{character_code}
use Rattle.standard.specs.Numbers.{digit_of, number_from, replacements, replaced_by, meaning_of}
use Rattle.standard.specs.Names.{stands, longer, longest_from, longest, begins, records_from, table_of}
use Rattle.standard.specs.NameList.{builtin}
use Rattle.standard.specs.Pieces.{encodes, digits_then, digits_at, numeric, unknown_name, named_by, reference, piece_at}
use Rattle.standard.specs.Reading.{stop_from, pieces_from, joined}

-- The definitions of one piece.
unfoldable pub computing_pieces : Unit {0}
unfolding encodes digits_then digits_at numeric unknown_name named_by reference piece_at stop_from pieces_from joined placed
computing_pieces = tt

-- The definitions of characters, numbers and names.
unfoldable pub computing_parts : Unit {0}
unfolding front octets encode bytes tails after_lead read_char character_code digit_of number_from replacements replaced_by meaning_of
computing_parts = tt

unfoldable pub computing : Unit {0}
unfolding computing_parts computing_pieces stands longer longest_from longest begins records_from table_of builtin
computing = tt
