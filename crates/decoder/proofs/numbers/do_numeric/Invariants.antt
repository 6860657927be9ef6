-- do_numeric reads what digits_from says: at each turn it is what digits_from gives from here on, after the number so far.
use Prim.Native.Nat.{◌≤◌}
use mathlib.Core.Path.{◌≡◌}
use lib.ListN.{length}
use Rattle.standard.proofs.Digits.{digits_from}
use Rattle.decoder.proofs.numbers.do_numeric.Given as goal

abbrev pub invariant-loop-end : goal.invariant-loop-end
invariant-loop-end l =
    (digits_from l.base l.rest 0 l.from ≡ digits_from l.base l.rest l.value l.end) × (l.end ≤ length l.rest) × (l.value ≤ 0x110000)
