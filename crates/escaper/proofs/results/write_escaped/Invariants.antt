-- The invariant: with the result of the bytes from `at` on the room will hold the whole result.
use Prim.Native.Nat.{◌-◌}
use lib.ListN.{length}
use Rattle.escaper.proofs.Written.{Written}
use Rattle.escaper.proofs.results.write_escaped.Given as goal

abbrev pub invariant-loop-at : goal.invariant-loop-at
invariant-loop-at l = Written l.mode l.s l.initial.out l.at l.out l.next

abbrev pub decreases-loop-at : goal.decreases-loop-at
decreases-loop-at l = length l.s - l.at
