-- A numeric reference as the decoder's piece.
use Prim.Native.Nat.{ℕ, ◌+◌, ◌-◌, min}
use Prim.Native.Char.{code}
use mathlib.Core.Path.{◌≡◌, sym, ◌∙◌}
use mathlib.Core.List.{List}
use mathlib.Core.Bool.{true, false}
use mathlib.Core.Logic.{◌≢◌}
use native.Mathlib.Numerals.{add-one}
use lib.ListN.{length, drop}
use Rattle.lists.specs.Notation.{next, front}
use Rattle.standard.specs.Numbers.{is_digit, number, meaning_of}
use Rattle.standard.specs.Pieces.{digits_at}
use Rattle.standard.proofs.FrontPiece.{digits_none, digits_some}
use Rattle.decoder.specs.Pieces.{piece_of, one_of}
use Rattle.decoder.proofs.PieceLaws.{one-is, one_code, alone}

-- Digits of a base from a place to an end, after their intro.
module _ (base intro from end : ℕ) (s : List ℕ) (end_is : end ≡ from + length (front (is_digit base) (drop from s))) where
  -- Where there are none, the `&` is a piece alone.
  pub digits_absent : end ≡ from → piece_of (one_of 1 0x26 1 0) ≡ digits_at base intro (drop from s)
  digits_absent e = alone 1 ∙ sym (digits_none base intro from end s end_is e)

  module _ (value : ℕ) (some : end ≢ from) (value-is : value ≡ min (number base (front (is_digit base) (drop from s))) 0x110000) where
    -- A `;` after them is theirs.
    pub digits_closed : {char error : ℕ} → next (code ";") (drop end s) ≡ true → char ≡ (meaning_of value).char → error ≡ (meaning_of value).code
        → piece_of (one_of (intro + (end - from) + 1) char error 0) ≡ digits_at base intro (drop from s)
    digits_closed closed c e =
        rw (digits_some base intro from end s end_is value some value-is, closed, c, e, add-one) (one_code _ _ (meaning_of value).code)

    -- Where it is missing that is an error, and stands before what the number has.
    pub digits_open : {char error : ℕ} → next (code ";") (drop end s) ≡ false → char ≡ (meaning_of value).char → error ≡ (meaning_of value).code
        → piece_of (one_of (intro + (end - from)) char 2 error) ≡ digits_at base intro (drop from s)
    digits_open ends c e = rw (digits_some base intro from end s end_is value some value-is, ends, c, e) (one-is _ _ 2 (meaning_of value).code)
