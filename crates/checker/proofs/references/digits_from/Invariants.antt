-- The invariant: what digits_from gives after the digits so far, and their number, is what it gives from the start.
use Prim.Native.Nat.{◌≤◌, ◌+◌}
use mathlib.Core.Path.{◌≡◌}
use Rattle.standard.proofs.Digits.{digits_from}
use Rattle.checker.proofs.references.digits_from.Given as goal

abbrev pub invariant-loop-i : goal.invariant-loop-i
invariant-loop-i l = (digits_from l.base l.s 0 l.from ≡ digits_from l.base l.s l.value (l.from + l.i)) × (l.value ≤ 0x110000)
