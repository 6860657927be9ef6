-- The invariant: the source stops where what is left from `at` on does.
use Prim.Native.Nat.{◌-◌}
use lib.ListN.{length}
use Rattle.standard.specs.Reading.{calls_for}
use Rattle.standard.proofs.Looking.{Looking}
use Rattle.checker.proofs.stops.find_stop.Given as goal

abbrev pub invariant-loop-at : goal.invariant-loop-at
invariant-loop-at l = Looking (calls_for l.fn.context) l.s l.at

abbrev pub decreases-loop-at : goal.decreases-loop-at
decreases-loop-at l = length l.s - l.at
