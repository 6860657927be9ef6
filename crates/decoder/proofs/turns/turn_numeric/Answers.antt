use mathlib.Core.Path.{refl}
use native.Mathlib.Omega.{arith}
use Rattle.decoder.specs.Machine.{Data, Numeric}
use Rattle.decoder.specs.Stream.{store_of, mark_of, kind_of}
use Rattle.decoder.proofs.TurnLaws.{
  ascii_is,
  ascii_not,
  ascii_digit,
  ascii_no_digit,
  follows_none,
  turns,
  turns_last,
  number_closed,
  number_open,
  turns_absorbed,
  numeric_is,
}
use Rattle.decoder.proofs.turns.turn_numeric.Goals as goal

pub returns-then-digit-base : goal.returns-then-digit-base
unfolding store_of mark_of kind_of
returns-then-digit-base c =
    let a = c.args in
    let pre = c.requires in
    let digit = ascii_digit a.base pre.1 a.c c.ascii-b.ensures c.digit_of-digit.ensures c.if-digit-base.true in
    rw (digit.0, digit.1, ← c.add_digit.ensures)
    (turns_absorbed pre.0 a.p (Numeric a.held.place _ a.base _) c.absorbed.ensures pre.0.count_is
    (numeric_is pre.0 (Numeric a.held.place _ a.base _) c.numeric.ensures refl))

pub returns-then-b-eq59 : goal.returns-then-b-eq59
returns-then-b-eq59 c =
    let a = c.args in
    let pre = c.requires in
    let is = c.ascii-b.ensures in
    rw (
      ascii_no_digit a.base pre.1 a.c is c.digit_of-digit.ensures c.if-digit-base.false,
      ascii_is 0x3B (omega arith) a.c is c.if-b-eq59.true,
    )
    (turns_last pre.0 (follows_none a.p Data c.none.ensures c.«data».ensures) c.one.ensures
    (number_closed pre.0 a.value c.finish_numeric-meant.ensures.0 c.finish_numeric-meant.ensures.1) (omega (arith, pre.0.count_is)))

pub returns : goal.returns
returns c =
    let a = c.args in
    let pre = c.requires in
    let is = c.ascii-b.ensures in
    rw (
      ascii_no_digit a.base pre.1 a.c is c.digit_of-digit.ensures c.if-digit-base.false,
      ascii_not 0x3B (omega arith) a.c is c.if-b-eq59.false,
    )
    (turns pre.0 c.turn_data.ensures c.one-2.ensures
    (number_open pre.0 a.value c.finish_numeric-meant.ensures.0 c.finish_numeric-meant.ensures.1) (omega (arith, pre.0.count_is)))
