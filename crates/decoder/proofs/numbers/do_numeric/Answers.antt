use mathlib.Core.Path.{◌≡◌, refl, ◌∙◌}
use native.Mathlib.Omega.{arith}
use lib.ListN.{length}
use Rattle.standard.proofs.Digits.{both, digits_end, digits_stop, digits_more}
use Rattle.decoder.proofs.numbers.do_numeric.Goals as goal

pub loop-end-init : goal.loop-end-init
loop-end-init c = (refl, omega arith, omega arith)

pub returns-then-base-digit : goal.returns-then-base-digit
returns-then-base-digit c =
    let l = c.loop-end in
    both (l.invariant.0 ∙ digits_stop _ _ l.value l.end l.invariant.2 (omega arith) (rw c.digit_of-digit.ensures at c.if-base-digit.true))

pub add_digit-value-requires : goal.add_digit-value-requires
add_digit-value-requires c = (omega arith, omega arith, omega arith)

pub loop-end-preserved : goal.loop-end-preserved
loop-end-preserved c =
    let l = c.loop-end in
    let d = c.digit_of-digit.ensures in (
      rw (c.add_digit-value.ensures, d) (l.invariant.0 ∙ digits_more _ _ l.value l.end (omega arith) (rw d at c.if-base-digit.false)),
      omega arith,
      omega arith,
    )

pub returns : goal.returns
returns c =
    let l = c.loop-end in
    let all : length c.args.rest.now ≡ l.end = omega arith in
    rw all (both (l.invariant.0 ∙ digits_end _ _ l.value l.end l.invariant.2 (omega arith)))
