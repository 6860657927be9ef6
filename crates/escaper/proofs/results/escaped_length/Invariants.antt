-- The invariant: the result of the whole input is count bytes longer than that of the bytes from `at` on.
use Prim.Native.Nat.{◌-◌}
use lib.ListN.{length}
use Rattle.escaper.proofs.Written.{Counted}
use Rattle.escaper.proofs.results.escaped_length.Given as goal

abbrev pub invariant-loop-at : goal.invariant-loop-at
invariant-loop-at l = Counted l.mode l.s l.at l.count

abbrev pub decreases-loop-at : goal.decreases-loop-at
decreases-loop-at l = length l.s - l.at
