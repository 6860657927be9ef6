use mathlib.Core.Path.{refl}
use native.Mathlib.Omega.{arith}
use Rattle.standard.specs.Errors.{placed}
use Rattle.decoder.specs.Machine.{Numeric}
use Rattle.decoder.specs.Stream.{store_of, mark_of, kind_of}
use Rattle.decoder.proofs.TurnLaws.{ascii_digit, ascii_no_digit, alone-read, turns, turns_absorbed, numeric_is}
use Rattle.decoder.proofs.turns.turn_hex_begin.Goals as goal

pub returns-then-digit-lt16 : goal.returns-then-digit-lt16
unfolding store_of mark_of kind_of
returns-then-digit-lt16 c =
    let a = c.args in
    let stored = c.requires in
    let digit = ascii_digit 16 (omega arith) a.c c.ascii.ensures c.digit_of-digit.ensures c.if-digit-lt16.true in
    rw (digit.0, digit.1)
    (turns_absorbed stored a.p (Numeric a.held.place _ 16 _) c.absorbed.ensures refl
    (numeric_is stored (Numeric a.held.place _ 16 _) c.numeric.ensures refl))

pub returns : goal.returns
unfolding placed
returns c =
    let a = c.args in
    rw (ascii_no_digit 16 (omega arith) a.c c.ascii.ensures c.digit_of-digit.ensures c.if-digit-lt16.false)
    (turns c.requires c.turn_data.ensures c.one.ensures (alone-read _ 1 _) (omega arith))
