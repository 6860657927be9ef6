-- add_digit stops at 0x110000: the product of two bounded numbers is bounded.
use native.Mathlib.Nat.{mul-le-mul}
use native.Mathlib.Omega.{arith}
use Rattle.decoder.proofs.numbers.add_digit.Goals as goal

pub overflow_mul-value : goal.overflow_mul-value
overflow_mul-value c = omega (arith, mul-le-mul c.requires.0 c.requires.1)

pub overflow_add-value : goal.overflow_add-value
overflow_add-value c = omega (arith, mul-le-mul c.requires.0 c.requires.1)
