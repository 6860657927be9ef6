use mathlib.Core.Path.{refl}
use native.Mathlib.Omega.{arith}
use Rattle.standard.specs.Errors.{placed}
use Rattle.decoder.specs.Machine.{HexBegin, Numeric}
use Rattle.decoder.specs.Stream.{store_of, mark_of, kind_of}
use Rattle.decoder.proofs.TurnLaws.{ascii_x, ascii_x_own, ascii_digit, ascii_no_digit, alone-read, turns, turns_absorbed, hold_is, numeric_is}
use Rattle.decoder.proofs.turns.turn_octothorpe.Goals as goal

pub returns-then-b : goal.returns-then-b
unfolding store_of mark_of kind_of
returns-then-b c =
    let a = c.args in
    let stored = c.requires in
    let is = c.ascii-b.ensures in
    rw (ascii_x a.c is c.if-b.true)
    (turns_absorbed stored a.p (HexBegin a.held.place a.c) c.absorbed.ensures refl
    (hold_is stored (HexBegin a.held.place a.c) _ c.hold.ensures (omega arith)
    (rw (ascii_x_own a.c is c.if-b.true))))

pub returns-then-digit-lt10 : goal.returns-then-digit-lt10
unfolding store_of mark_of kind_of
returns-then-digit-lt10 c =
    let a = c.args in
    let is = c.ascii-b.ensures in
    let digit = ascii_digit 10 (omega arith) a.c is c.digit_of-digit.ensures c.if-digit-lt10.true in
    rw (
      ascii_x a.c is c.if-b.false,
      digit.0,
      digit.1,
    )
    (turns_absorbed c.requires a.p (Numeric a.held.place _ 10 _) c.absorbed-then-digit-lt10.ensures refl
    (numeric_is c.requires (Numeric a.held.place _ 10 _) c.numeric.ensures refl))

pub returns : goal.returns
unfolding placed
returns c =
    let a = c.args in
    let is = c.ascii-b.ensures in
    rw (
      ascii_x a.c is c.if-b.false,
      ascii_no_digit 10 (omega arith) a.c is c.digit_of-digit.ensures c.if-digit-lt10.false,
    )
    (turns c.requires c.turn_data.ensures c.one.ensures (alone-read _ 1 _) (omega arith))
