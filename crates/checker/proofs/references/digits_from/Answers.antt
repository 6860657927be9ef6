use Prim.Native.Nat.{◌+◌}
use mathlib.Core.Path.{◌≡◌, ◌∙◌, ap}
use native.Mathlib.Omega.{arith}
use Rattle.standard.specs.Numbers.{digit_of}
use Rattle.standard.proofs.Digits.{both, digits_end, digits_stop, digits_more}
use Rattle.checker.proofs.PieceLaws.{rest-at}
use Rattle.checker.proofs.references.digits_from.Goals as goal

pub returns-then-base-digit : goal.returns-then-base-digit
returns-then-base-digit c =
    let l = c.loop-i in
    let a = c.args in
    let digit = c.digit_of-digit.ensures ∙ ap digit_of (rest-at a.s.now a.from l.i) in
    let w = both (l.invariant.0 ∙ digits_stop a.base a.s.now l.value (a.from + l.i) l.invariant.1 (omega arith)
    (rw digit at c.if-base-digit.true)) in
    record { end = w.0; value = w.1 }

pub loop-i-preserved : goal.loop-i-preserved
loop-i-preserved c =
    let l = c.loop-i in
    let a = c.args in
    let digit = c.digit_of-digit.ensures ∙ ap digit_of (rest-at a.s.now a.from l.i) in
    let next : a.from + l.i + 1 ≡ a.from + (l.i + 1) = omega arith in (
      rw (c.extended-value.ensures, digit, ← next)
          (l.invariant.0 ∙ digits_more a.base a.s.now l.value (a.from + l.i) (omega arith) (rw digit at c.if-base-digit.false)),
      omega arith,
    )

pub returns : goal.returns
returns c =
    let l = c.loop-i in
    let a = c.args in
    let w = both (l.invariant.0 ∙ digits_end a.base a.s.now l.value (a.from + l.i) l.invariant.1 (omega arith)) in
    record { end = omega (arith, w.0); value = w.1 }
