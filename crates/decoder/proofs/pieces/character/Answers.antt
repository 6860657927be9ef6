use Prim.Native.Nat.{ℕ}
use mathlib.Core.Path.{◌≡◌, refl, sym, ◌∙◌, ap}
use mathlib.Core.List.{List, []}
use Rattle.standard.specs.declared.characters.CharRead.{CharRead}
use Rattle.standard.specs.declared.characters.CharRead.TheVariants.{Char, Incomplete, Illformed, End}
use Rattle.standard.specs.Pieces.{piece, character, encodes}
use Rattle.decoder.specs.Pieces.{piece_of}
use Rattle.decoder.proofs.PieceLaws.{character-read}
use Rattle.decoder.proofs.pieces.character.Goals as goal

pub returns-in-Char : goal.returns-in-Char
returns-in-Char c =
    ap piece_of c.one.ensures
    ∙ character-read _ (sym c.read_char.ensures ∙ c.in-Char.is) c.character_code.ensures

-- What is read and is no character is a byte without text.
others : (r : CharRead) (s : List ℕ) → ((c n : ℕ) → r ≡ Char c n → ⊥) → piece 1 [] [] ≡ character r s
others (Char c n) s k = absurd (k c n refl)
others (Incomplete n) s k = refl
others (Illformed n) s k = refl
others End s k = refl

pub returns-in_default : goal.returns-in_default
unfolding encodes
returns-in_default c =
    rw (← c.read_char.ensures)
    (ap piece_of c.none.ensures ∙ others c.read_char.result _ c.in_default.not-Char)
